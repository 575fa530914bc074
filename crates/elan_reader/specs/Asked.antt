-- The chart's readings as what checks a program asks for them.
use Rattle.elan_text.specs.declared.refusal.Code.TheVariants.{E15, E16, E17}
use Rattle.elan_reading.specs.declared.sought.ReadingRefusal.{ReadingRefusal}
use Rattle.elan_reading.specs.declared.sought.ReadingRefusal.TheVariants as refusal
use Rattle.elan_clauses.specs.declared.reading.Unread.{Unread}
use Rattle.elan_clauses.specs.declared.reading.Unread.TheVariants.{Refused, NoMemory}
use Rattle.elan_clauses.specs.Texts.{Reader}
use Rattle.elan_reader.specs.ReadAs.{read_as}

-- how texts are read
abbrev pub chart_reader : Reader
chart_reader = record { reading = read_as }

-- the code of a refusal, or the want of memory
abbrev pub unread_of : ReadingRefusal → Unread
unread_of refusal.None = Refused E15
unread_of refusal.Several = Refused E16
unread_of refusal.TooLong = Refused E17
unread_of refusal.NoMemory = NoMemory
