-- What one more row does to the rows that `clap` found.
use Rattle.std.proofs.Common.{◌≡◌, ◌∙◌, Bool, true, false, ◌||◌, cond, List, [], ◌∷◌, ◌++◌, refl, ap}
use Rattle.std.proofs.Common.{Option, Some, None}
use Rattle.std.specs.List.{find, slice_get}
use Rattle.std.specs.Option.{option_or, option_and_then}
use Rattle.std.specs.Str.{bytes_eq}
use Rattle.std.proofs.lemmas.List.Folds.{find-append, list_any-append}
use Rattle.std.proofs.lemmas.Slice.Eq.{bytes_eq-Decides}
use Rattle.clap.specs.Walk.{Row, Text, at_row, first_of, has_row}

pub same_text : (t : Text) → bytes_eq t t ≡ true
same_text t = (bytes_eq-Decides t t).1 refl

pub neither : (a b : Bool) → (a || b) ≡ false → (a ≡ false) × (b ≡ false)
neither true b e = absurd (cc)
neither false b e = (refl, e)

-- a row that is not there is put behind the others
pub at_row-absent : (id : Text) (change : Row → List Row) (missing rows : List Row) → has_row id rows ≡ false
    → at_row id change missing rows ≡ rows ++ missing
at_row-absent id change missing [] e = refl
at_row-absent id change missing (r ∷ rs) e =
    let p = neither (bytes_eq r.id id) (has_row id rs) e in
    rw p.0 (ap (λ xs. r ∷ xs) (at_row-absent id change missing rs p.1))

find-absent : (id : Text) (rows : List Row) → has_row id rows ≡ false → find (λ r. bytes_eq r.id id) rows ≡ None
find-absent id [] e = refl
find-absent id (r ∷ rs) e =
    let p = neither (bytes_eq r.id id) (has_row id rs) e in
    rw p.0 (find-absent id rs p.1)

pub has_row-more : (id : Text) (rows : List Row) (r : Row)
    → has_row id (rows ++ r ∷ []) ≡ (has_row id rows || (bytes_eq r.id id || false))
has_row-more id rows r = list_any-append (λ x. bytes_eq x.id id) rows (r ∷ [])

get0 : Option Row → Option Text
get0 = option_and_then (λ r. slice_get r.values 0)

first_of-more : (id : Text) (rows : List Row) (r : Row)
    → first_of id (rows ++ r ∷ [])
    ≡ get0 (option_or (find (λ x. bytes_eq x.id id) rows) (find (λ x. bytes_eq x.id id) (r ∷ [])))
unfolding get0
first_of-more id rows r = ap get0 (find-append (λ x. bytes_eq x.id id) rows (r ∷ []))

or-none : {X : Type 0} (o : Option X) → option_or o None ≡ o
or-none None = refl
or-none (Some x) = refl

or-false : (a : Bool) → (a || false) ≡ a
or-false true = refl
or-false false = refl

-- a row of another name leaves what is read under this one
pub has_row-other : (id : Text) (rows : List Row) (r : Row) → bytes_eq r.id id ≡ false
    → has_row id (rows ++ r ∷ []) ≡ has_row id rows
has_row-other id rows r e = has_row-more id rows r ∙ ap (λ b. has_row id rows || (b || false)) e
    ∙ or-false (has_row id rows)

pub first_of-other : (id : Text) (rows : List Row) (r : Row) → bytes_eq r.id id ≡ false
    → first_of id (rows ++ r ∷ []) ≡ first_of id rows
unfolding get0
first_of-other id rows r e =
    first_of-more id rows r
    ∙ ap (λ b. get0 (option_or (find (λ x. bytes_eq x.id id) rows) (cond b (Some r) None))) e
    ∙ ap get0 (or-none (find (λ x. bytes_eq x.id id) rows))

-- the row of a name that was not there is what is read under it
pub has_row-own : (rows : List Row) (r : Row) → has_row r.id rows ≡ false → has_row r.id (rows ++ r ∷ []) ≡ true
has_row-own rows r e =
    has_row-more r.id rows r ∙ ap (λ b. has_row r.id rows || (b || false)) (same_text r.id) ∙ ap (λ a. a || true) e

pub first_of-own : (rows : List Row) (r : Row) → has_row r.id rows ≡ false
    → first_of r.id (rows ++ r ∷ []) ≡ slice_get r.values 0
unfolding get0
first_of-own rows r e =
    first_of-more r.id rows r
    ∙ ap (λ o. get0 (option_or o (find (λ x. bytes_eq x.id r.id) (r ∷ [])))) (find-absent r.id rows e)
    ∙ ap (λ b. get0 (cond b (Some r) None)) (same_text r.id)

pub first_of-absent : (id : Text) (rows : List Row) → has_row id rows ≡ false → first_of id rows ≡ None
unfolding get0
first_of-absent id rows e = ap get0 (find-absent id rows e)
