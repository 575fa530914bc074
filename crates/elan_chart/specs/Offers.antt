-- The steps of a reading: what a run is read as, from what shorter runs are.
use Rattle.std.specs.Prelude.{ℕ, ◌-◌, Bool, true, false, not, ◌&&◌, ◌==◌, if◌then◌else◌, nat_lt, Option, Some, None, List, [], ◌∷◌, ◌++◌, length, slice_get}
use Rattle.std.specs.List.{flat_map}
use Rattle.std.specs.Str.{bytes_eq}
use Rattle.elan_terms.specs.declared.tree.OpId.{OpId}
use Rattle.elan_terms.specs.declared.tree.SortId.{SortId}
use Rattle.elan_program.specs.declared.signature.Operator.{Operator}
use Rattle.elan_program.specs.declared.signature.Signature.{Signature}
use Rattle.elan_reading.specs.declared.lexeme.Lexeme.{Lexeme}
use Rattle.elan_reading.specs.declared.lexeme.Variable.{Variable}
use Rattle.elan_entries.specs.declared.found.Key.{Key}
use Rattle.elan_entries.specs.declared.found.Key.TheVariants.{Whole, Rest}
use Rattle.elan_entries.specs.declared.found.Found.{Found}
use Rattle.elan_entries.specs.declared.found.Found.TheVariants.{One}
use Rattle.elan_entries.specs.declared.found.Entry.{Entry}
use Rattle.elan_program.specs.Extension.{var_pattern, int_pattern}
use Rattle.elan_reading.specs.Edge.{is_injection, own_tie}
use Rattle.elan_entries.specs.Lexemes.{is_word_kind, is_number_kind, is_sign, integer}
use Rattle.elan_entries.specs.Pieces.{is_word_at, fits_before, is_injection_from, takes_hole, fits_arg}
use Rattle.elan_entries.specs.Found.{joined, applied}

-- what is found at a key
abbrev pub entry : Key → Found → Entry
entry key found = record { key = key; found = found }

-- an operator from this piece on: whole, or where the piece before may stand there
abbrev pub advanced : Option Lexeme → OpId → Operator → ℕ → ℕ → Found → List Entry
advanced before op o k h found =
    if k == 0 then (if (h == 0) && not (is_injection o) then entry (Whole o.sort (own_tie o) false) (applied op found) ∷ [] else [])
    else if fits_before o (k - 1) before then entry (Rest op k h) found ∷ [] else []

-- ---- words

-- a word before an operator from a piece on
abbrev pub word_of : Option Lexeme → Lexeme → OpId → Option Operator → ℕ → ℕ → Found → List Entry
word_of before first op None k h found = []
word_of before first op (Some o) k h found =
    if nat_lt 0 k && is_word_at o (k - 1) first then advanced before op o (k - 1) h found else []

-- a word before what is read at a key
abbrev pub word_at : Signature → Option Lexeme → Lexeme → Key → Found → List Entry
word_at g before first (Whole s tie injected) found = []
word_at g before first (Rest op k h) found = word_of before first op (slice_get g.operators op.0) k h found

-- a word before what is read
abbrev pub word_offer : Signature → Option Lexeme → Lexeme → Entry → List Entry
word_offer g before first rest = word_at g before first rest.key rest.found

-- a word before each of these
abbrev pub word_offers : Signature → Option Lexeme → Lexeme → List Entry → List Entry
word_offers g before first = flat_map (word_offer g before first)

-- ---- holes

-- a tree at a key before an operator from a piece on, where it may stand in the hole before that piece
abbrev pub tree_at : Option Lexeme → OpId → Operator → ℕ → ℕ → Found → Key → Found → List Entry
tree_at before op o k h found (Rest op' k' h') tree = []
tree_at before op o k h found (Whole s tie injected) tree =
    if fits_arg o k h s tie then advanced before op o (k - 1) (h - 1) (joined tree found) else []

-- the same for what is read
abbrev pub tree_offer : Option Lexeme → OpId → Operator → ℕ → ℕ → Found → Entry → List Entry
tree_offer before op o k h found whole = tree_at before op o k h found whole.key whole.found

-- these trees before an operator from a piece on
abbrev pub rest_of : Option Lexeme → List Entry → OpId → Option Operator → ℕ → ℕ → Found → List Entry
rest_of before wholes op None k h found = []
rest_of before wholes op (Some o) k h found =
    if takes_hole o k h then flat_map (tree_offer before op o k h found) wholes else []

-- these trees before what is read at a key
abbrev pub rest_at : Signature → Option Lexeme → List Entry → Key → Found → List Entry
rest_at g before wholes (Whole s tie injected) found = []
rest_at g before wholes (Rest op k h) found = rest_of before wholes op (slice_get g.operators op.0) k h found

-- these trees before what is read
abbrev pub rest_offer : Signature → Option Lexeme → List Entry → Entry → List Entry
rest_offer g before wholes rest = rest_at g before wholes rest.key rest.found

-- a run that is cut in two
abbrev pub cut_offers : Signature → Option Lexeme → List Entry → List Entry → List Entry
cut_offers g before wholes = flat_map (rest_offer g before wholes)

-- ---- injections

-- an injection of a tree
abbrev pub injection_of : OpId → Option Operator → SortId → Option ℕ → Found → List Entry
injection_of op None s tie found = []
injection_of op (Some o) s tie found =
    if is_injection_from o s then entry (Whole o.sort tie true) (applied op found) ∷ [] else []

-- the injection with this number of a tree
abbrev pub injection_offer : Signature → SortId → Option ℕ → Found → OpId → List Entry
injection_offer g s tie found op = injection_of op (slice_get g.operators op.0) s tie found

-- the row of a sort in a table
abbrev pub row_of : Option (List OpId) → List OpId
row_of None = []
row_of (Some ops) = ops

-- the operators at a sort
abbrev pub at_sort : List (List OpId) → SortId → List OpId
at_sort table s = row_of (slice_get table s.0)

-- the injections of what is read at a key, where the table has those from each sort
abbrev pub risen_at : Signature → List (List OpId) → Key → Found → List Entry
risen_at g table (Rest op k h) found = []
risen_at g table (Whole s tie injected) found = flat_map (injection_offer g s tie found) (at_sort table s)

-- the injections of what is read
abbrev pub risen_offer : Signature → List (List OpId) → Entry → List Entry
risen_offer g table whole = risen_at g table whole.key whole.found

-- the injections of all that is read
abbrev pub risen : Signature → List (List OpId) → List Entry → List Entry
risen g table = flat_map (risen_offer g table)

-- ---- last holes

-- what is read in the last hole of an operator
abbrev pub last_by : Option Lexeme → OpId → Option Operator → Entry → List Entry
last_by before op None whole = []
last_by before op (Some o) whole =
    if takes_hole o (length o.pieces) (length o.args) then tree_offer before op o (length o.pieces) (length o.args) (One []) whole
    else []

-- what is read in the last hole of the operator with this number
abbrev pub last_offer : Signature → Option Lexeme → Entry → OpId → List Entry
last_offer g before whole op = last_by before op (slice_get g.operators op.0) whole

-- what is read at a key in the last holes of operators, where the table has those whose last argument is of each sort
abbrev pub lasts_at : Signature → Option Lexeme → List (List OpId) → Entry → Key → List Entry
lasts_at g before table whole (Rest op k h) = []
lasts_at g before table whole (Whole s tie injected) = flat_map (last_offer g before whole) (at_sort table s)

-- what is read in the last holes of operators
abbrev pub lasts_offer : Signature → Option Lexeme → List (List OpId) → Entry → List Entry
lasts_offer g before table whole = lasts_at g before table whole whole.key

-- all that is read in the last holes of operators
abbrev pub last_offers : Signature → Option Lexeme → List (List OpId) → List Entry → List Entry
last_offers g before table = flat_map (lasts_offer g before table)

-- ---- parentheses

-- what is read at a key, between parentheses
abbrev pub group_at : Key → Found → List Entry
group_at (Rest op k h) found = []
group_at (Whole s tie injected) found = entry (Whole s None injected) found ∷ []

-- what is read, between parentheses
abbrev pub group_offer : Entry → List Entry
group_offer inner = group_at inner.key inner.found

-- what is read between two tokens, where they are parentheses
abbrev pub group_offers : Lexeme → Lexeme → List Entry → List Entry
group_offers first last inner = if is_sign 40 first && is_sign 41 last then flat_map group_offer inner else []

-- ---- tokens

-- a variable, where its name is this
abbrev pub variable_offer : List ℕ → Variable → List Entry
variable_offer text v = if bytes_eq v.name.bytes text then entry (Whole v.sort None false) (One (var_pattern v.number v.sort ∷ [])) ∷ [] else []

-- the variable that there is, if there is one
abbrev pub variable_found : Option Variable → List Entry
variable_found None = []
variable_found (Some v) = entry (Whole v.sort None false) (One (var_pattern v.number v.sort ∷ [])) ∷ []

-- the variable at a place, where there is one
abbrev pub variable_at : List Variable → ℕ → List Entry
variable_at variables place = variable_found (slice_get variables place)

-- the variables of a word
abbrev pub variable_offers : List Variable → Lexeme → List Entry
variable_offers variables t = if is_word_kind t.kind then flat_map (variable_offer t.text) variables else []

-- an integer, where the token is a number and there are integers
abbrev pub integer_offers : Option SortId → Bool → Lexeme → List Entry
integer_offers None negative t = []
integer_offers (Some s) negative t =
    if is_number_kind t.kind then entry (Whole s None false) (One (int_pattern (integer negative t.text) ∷ [])) ∷ [] else []

-- what one token is read as
abbrev pub token_offers : Signature → List Variable → Lexeme → List Entry
token_offers g variables t = variable_offers variables t ++ integer_offers g.int false t
