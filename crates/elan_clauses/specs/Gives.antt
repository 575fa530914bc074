-- What a call ensures that may be refused, and may want memory.
use Rattle.std.specs.Prelude.{◌≡◌, Result, Ok, Err}
use Rattle.elan_text.specs.declared.refusal.Code.{Code}
use Rattle.elan_text.specs.declared.refusal.Refusal.{Refusal}
use Rattle.elan_text.specs.declared.refusal.Stop.{Stop}
use Rattle.elan_text.specs.declared.refusal.Stop.TheVariants.{Refused, NoMemory}
use Rattle.elan_clauses.specs.declared.reading.Unread.{Unread}
use Rattle.elan_clauses.specs.declared.reading.Unread.TheVariants as unread

-- a call gives what a definition says; nothing is said where memory was wanted
abbrev pub Gives : {A : Type 0} → Result A Stop → Result A Refusal → Type 0
Gives (Ok a) d = d ≡ Ok a
Gives (Err (Refused r)) d = d ≡ Err r
Gives (Err NoMemory) d = Unit {0}

-- the same of a call that leaves its value in a place
abbrev pub Leaves : {A B : Type 0} → Result B Stop → A → Result A Refusal → Type 0
Leaves (Ok b) a d = d ≡ Ok a
Leaves (Err (Refused r)) a d = d ≡ Err r
Leaves (Err NoMemory) a d = Unit {0}

-- the same of a call that reads a text
abbrev pub Tells : {A : Type 0} → Result A Unread → Result A Code → Type 0
Tells (Ok a) d = d ≡ Ok a
Tells (Err (unread.Refused code)) d = d ≡ Err code
Tells (Err unread.NoMemory) d = Unit {0}

-- what stops is this refusal, where it is not the want of memory
abbrev pub IsRefusal : Stop → Refusal → Type 0
IsRefusal (Refused r) s = r ≡ s
IsRefusal NoMemory s = Unit {0}

-- the same of a call that gives one value and leaves another in a place
abbrev pub GivesWith : {A B : Type 0} → Result A Stop → B → Result (A × B) Refusal → Type 0
GivesWith (Ok a) b d = d ≡ Ok (a, b)
GivesWith (Err (Refused r)) b d = d ≡ Err r
GivesWith (Err NoMemory) b d = Unit {0}
