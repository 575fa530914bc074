-- The chart: what each run of a text is read as. A row has the runs that begin with one token, by length; the rows below
-- it are those of the tokens that follow.
use Rattle.std.specs.Prelude.{ℕ, zero, suc, ◌-◌, Bool, true, ◌==◌, if◌then◌else◌, Option, Some, None, List, [], ◌∷◌, ◌++◌, length, slice_get}
use Rattle.std.specs.List.{list_all, list_any}
use Rattle.std.specs.Str.{bytes_eq}
use Rattle.elan_text.specs.declared.name.Name.{Name}
use Rattle.elan_terms.specs.declared.tree.OpId.{OpId}
use Rattle.elan_terms.specs.declared.tree.SortId.{SortId}
use Rattle.elan_program.specs.declared.signature.Piece.{Piece}
use Rattle.elan_program.specs.declared.signature.Piece.TheVariants as piece
use Rattle.elan_program.specs.declared.signature.Operator.{Operator}
use Rattle.elan_program.specs.declared.signature.Signature.{Signature}
use Rattle.elan_reading.specs.declared.lexeme.Lexeme.{Lexeme}
use Rattle.elan_reading.specs.declared.lexeme.Variable.{Variable}
use Rattle.elan_entries.specs.declared.found.Key.TheVariants.{Rest}
use Rattle.elan_entries.specs.declared.found.Found.TheVariants.{One}
use Rattle.elan_entries.specs.declared.found.Entry.{Entry}
use Rattle.elan_chart.specs.declared.chart.Scope.{Scope as Borrowed}
use Rattle.elan_entries.specs.Lexemes.{is_sign}
use Rattle.elan_entries.specs.Pieces.{source, last_sort}
use Rattle.elan_entries.specs.Found.{put_all}
use Rattle.elan_chart.specs.Offers.{entry, word_offers, cut_offers, risen, last_offers, group_offers, integer_offers, token_offers}

-- ---- operators by their numbers

-- whether a piece is a hole, or the word of one of the tokens
abbrev pub occurs : List Lexeme → Piece → Bool
occurs tokens piece.Hole = true
occurs tokens (piece.Word name) = list_any (λ t. bytes_eq name.bytes t.text) tokens

-- whether each word of a spelling is among the tokens
abbrev pub may_occur : List Lexeme → Operator → Bool
may_occur tokens o = list_all (occurs tokens) o.pieces

-- an operator behind its last piece, where its words are among the tokens
abbrev pub end_of : List Lexeme → OpId → Operator → List Entry
end_of tokens op o = if may_occur tokens o then entry (Rest op (length o.pieces) (length o.args)) (One []) ∷ [] else []

-- the operators whose words are among the tokens, each behind its last piece, numbered from n on
abbrev pub ends : List Lexeme → ℕ → List Operator → List Entry
ends tokens n [] = []
ends tokens n (o ∷ os) = end_of tokens (record { 0 = n }) o ++ ends tokens (suc n) os

-- an empty row for each sort
abbrev pub blank : List Name → List (List OpId)
blank [] = []
blank (s ∷ ss) = [] ∷ blank ss

-- an operator's number put to the end of a row
abbrev pub added : List (List OpId) → ℕ → OpId → List (List OpId)
added [] at op = []
added (r ∷ rs) zero op = (r ++ op ∷ []) ∷ rs
added (r ∷ rs) (suc at) op = r ∷ added rs at op

-- the same at the row of a sort, where there is one
abbrev pub added_at : List (List OpId) → Option SortId → OpId → List (List OpId)
added_at table None op = table
added_at table (Some s) op = added table s.0 op

-- operators that are numbered from n on, each put to the row of the sort that it has, where it has one
abbrev pub by_sort : (Operator → Option SortId) → List (List OpId) → ℕ → List Operator → List (List OpId)
by_sort sort table n [] = table
by_sort sort table n (o ∷ os) = by_sort sort (added_at table (sort o) (record { 0 = n })) (suc n) os

-- the sort of the last argument, where the last piece is a hole and the words of the spelling are among the tokens
abbrev pub last_in : List Lexeme → Operator → Option SortId
last_in tokens o = if may_occur tokens o then last_sort o else None

-- what the runs are read by
pub record Scope : Type 0 where
  pub signature : Signature
  pub variables : List Variable
  pub ends : List Entry
  pub injections : List (List OpId)
  pub lasts : List (List OpId)

-- what the runs of a text are read by
abbrev pub scope_of : Signature → List Variable → List Lexeme → Scope
scope_of g vs tokens = record {
  signature = g;
  variables = vs;
  ends = ends tokens 0 g.operators;
  injections = by_sort source (blank g.sorts) 0 g.operators;
  lasts = by_sort (last_in tokens) (blank g.sorts) 0 g.operators;
}

-- the same without the references
abbrev pub seen : Borrowed → Scope
seen w = record {
  signature = w.signature.now;
  variables = w.variables.now;
  ends = w.ends.now;
  injections = w.injections.now;
  lasts = w.lasts.now;
}

-- ---- runs

-- what injections make of a level, and of what they made, as often as there are sorts
abbrev pub climb : Scope → List Name → List Entry → List Entry → List Entry
climb w [] level all = all
climb w (s ∷ ss) [] all = all
climb w (s ∷ ss) (e ∷ es) all =
    let next = put_all [] (risen w.signature w.injections (e ∷ es)) in climb w ss next (put_all all next)

-- what is read of a front and what follows it, where that is there
abbrev pub cut_at : Scope → Option Lexeme → List Entry → Option (List Entry) → List Entry
cut_at w before front None = []
cut_at w before front (Some rest) = cut_offers w.signature before front rest

-- what is read from all cuts of a run: its fronts in the row so far, and what follows them in the rows below
abbrev pub cuts : Scope → Option Lexeme → List (List Entry) → List (List (List Entry)) → List Entry
cuts w before (front ∷ fronts) (rests ∷ others) =
    cut_at w before front (slice_get rests (length fronts)) ++ cuts w before fronts others
cuts w before _ _ = []

-- no entries where there is no run
abbrev pub run_or : Option (List Entry) → List Entry
run_or None = []
run_or (Some run) = run

-- the run of this place in the first row below
abbrev pub run_in : List (List (List Entry)) → ℕ → List Entry
run_in [] at = []
run_in (row ∷ rows) at = run_or (slice_get row at)

-- a minus before a number, or what is read between parentheses
abbrev pub framed : Scope → Lexeme → Lexeme → ℕ → List (List (List Entry)) → List Entry
framed w first last count below =
    if count == 1 then (if is_sign 45 first then integer_offers w.signature.int true last else [])
    else group_offers first last (run_in below (count - 2))

-- what the next run of a row is read as, but for injections and last holes: a run of one token, or a longer one
abbrev pub offers : Scope → Option Lexeme → Lexeme → Lexeme → List (List Entry) → List (List (List Entry)) → List Entry
offers w before first last [] below = token_offers w.signature w.variables first ++ word_offers w.signature before first w.ends
offers w before first last (front ∷ fronts) below =
    framed w first last (length (front ∷ fronts)) below
    ++ (word_offers w.signature before first (run_in below (length (front ∷ fronts) - 1)) ++ cuts w before (front ∷ fronts) below)

-- the same, each key once
abbrev pub direct : Scope → Option Lexeme → Lexeme → Lexeme → List (List Entry) → List (List (List Entry)) → List Entry
direct w before first last row below = put_all [] (offers w before first last row below)

-- what the next run of a row is read as, but for last holes
abbrev pub wholes : Scope → Option Lexeme → Lexeme → Lexeme → List (List Entry) → List (List (List Entry)) → List Entry
wholes w before first last row below =
    let level = direct w before first last row below in climb w w.signature.sorts level (put_all [] level)

-- what the next run of a row is read as
abbrev pub run : Scope → Option Lexeme → Lexeme → Lexeme → List (List Entry) → List (List (List Entry)) → List Entry
run w before first last row below =
    let all = wholes w before first last row below in put_all all (put_all [] (last_offers w.signature before w.lasts all))

-- the runs of a row, where these are there already and end with these tokens
abbrev pub row : Scope → Option Lexeme → Lexeme → List Lexeme → List (List (List Entry)) → List (List Entry) → List (List Entry)
row w before first [] below done = done
row w before first (last ∷ more) below done = row w before first more below (done ++ run w before first last done below ∷ [])

-- the rows of all tokens, the first token's first
abbrev pub rows : Scope → Option Lexeme → List Lexeme → List (List (List Entry))
rows w before [] = []
rows w before (first ∷ rest) = let below = rows w (Some first) rest in row w before first (first ∷ rest) below [] ∷ below
