-- The lines of a report.
use Rattle.std.specs.Prelude.{ℕ, ◌+◌, if◌then◌else◌, nat_le, List, [], ◌∷◌, ◌++◌, length, codes, decimal}
use Rattle.elan_program.specs.declared.signature.Signature.{Signature}
use Rattle.elan_meaning.specs.declared.item.Item.{Item}
use Rattle.elan_meaning.specs.declared.item.Item.TheVariants.{Res, Mark}
use Rattle.elan_meaning.specs.declared.item.Cause.{Cause}
use Rattle.elan_meaning.specs.declared.item.Cause.TheVariants.{Steps, Depth}
use Rattle.elan_print.specs.Terms.{term_text}

-- what is written for a mark
abbrev pub cause_text : Cause → List ℕ
cause_text Steps = codes "out of steps"
cause_text Depth = codes "too deep"

-- what a line says of an item: its term, or why there is none
abbrev pub item_text : Signature → Item → List ℕ
item_text g (Res t m) = codes "result term: " ++ term_text g t
item_text g (Mark cause) = cause_text cause

-- an item's line: its number in the list, and what it is
unfoldable pub item_line : Signature → ℕ → Item → List ℕ
item_line g k i = codes "[" ++ decimal k ++ codes "] " ++ item_text g i ++ codes "\n"

-- the lines of items in order, the first of which has this number
abbrev pub item_lines : Signature → ℕ → List Item → List ℕ
item_lines g k [] = []
item_lines g k (i ∷ is) = item_line g k i ++ item_lines g (k + 1) is

-- the line that ends a report: whether there are as many items as the limit
abbrev pub last_line : ℕ → ℕ → List ℕ
last_line limit count = if nat_le limit count then codes "[] limit\n" else codes "[] end\n"

-- the lines of the items, and the last line
unfoldable pub report : Signature → List Item → ℕ → List ℕ
report g items limit = item_lines g 1 items ++ last_line limit (length items)
