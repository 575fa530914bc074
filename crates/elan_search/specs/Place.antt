-- Where a search stands: the first terms of a list, and a floor for the term that comes next.
use Rattle.std.specs.Prelude.{◌≡◌, ◌≤◌, ◌↔◌, ℕ, Option, Some, None, List, [], ◌∷◌, ◌++◌, length, IsFalse}
use Rattle.std.specs.List.{Contains}
use Rattle.std.specs.Ordering.{is_gt}
use Rattle.std.specs.declared.cmp.Ordering.{Ordering}
use Rattle.std.specs.declared.cmp.Ordering.TheVariants.{Less, Equal, Greater}
use Rattle.std.specs.Cmp.Lexicographic.{slice_cmp}
use Rattle.boxcar.specs.Table.{Where}
use Rattle.elan_terms.specs.declared.tree.Term.{Term}
use Rattle.elan_terms.specs.Term.{order}
use Rattle.elan_table.specs.Rows.{terms}
use Rattle.elan_search.specs.declared.place.Turn.{Turn}
use Rattle.elan_search.specs.declared.place.Turn.TheVariants.{On, Found, Over}

-- true of an item that stands before another, false of one that stands after it, and else what holds of the others
abbrev pub by_item : Ordering → Type 0 → Type 0
by_item Less others = Unit {0}
by_item Equal others = others
by_item Greater others = ⊥

module _ {K : Type 0} (compare : K → K → Ordering) where
  -- a list is ahead of the place: its first items come after those of the place, or are these and the next comes after the floor
  abbrev pub IsAheadBy : List K → Option K → List K → Type 0
  IsAheadBy [] None a = Unit {0}
  IsAheadBy [] (Some f) [] = ⊥
  IsAheadBy [] (Some f) (x ∷ xs) = compare f x ≡ Less
  IsAheadBy (d ∷ done) floor [] = ⊥
  IsAheadBy (d ∷ done) floor (x ∷ xs) = by_item (compare d x) (IsAheadBy done floor xs)

-- the same of lists of terms
abbrev pub IsAhead : List Term → Option Term → List Term → Type 0
IsAhead = IsAheadBy order

-- at most so many terms, and no floor behind all of them
pub record IsPlace (long : ℕ) (done : List Term) (floor : Option Term) : Type 0 where
  pub within : length done ≤ long
  pub whole : length done ≡ long → floor ≡ None

-- the same lists are ahead of both places
abbrev pub SameAhead : List (List Term) → List Term → Option Term → List Term → Option Term → Type 0
SameAhead lists done floor later past = (a : List Term) → Contains lists a → IsAhead done floor a ↔ IsAhead later past a

-- no list is ahead of the place
abbrev pub NoneAhead : List (List Term) → List Term → Option Term → Type 0
NoneAhead lists done floor = (a : List Term) → Contains lists a → IsAhead done floor a → ⊥

-- the last row of a place is the floor of the next one; no turn goes back from a place without rows
abbrev pub GoesBack : List (Where Term) → List (Where Term) → Option (Where Term) → Turn → Type 0
GoesBack done later None On = ⊥
GoesBack done later (Some last) On = done ≡ later ++ last ∷ []
GoesBack done later past Found = ⊥
GoesBack done later past Over = done ≡ []

-- a turn leads from a place to one with the same lists ahead, or the terms of the place are the first list ahead, or there is none
abbrev pub Turns : List (List Term) → ℕ → List Term → Option Term → List Term → Option Term → Turn → Type 0
Turns lists long done floor later past On = IsPlace long later past × SameAhead lists done floor later past
Turns lists long done floor later past Found = (later ≡ done) × (floor ≡ None) × Contains lists done
Turns lists long done floor later past Over = NoneAhead lists done floor

-- it is one of the lists and ahead of the place, and none of those that are stands before it
pub record IsFirstAhead (lists : List (List Term)) (done : List Term) (floor : Option Term) (m : List Term) : Type 0 where
  pub there : Contains lists m
  pub ahead : IsAhead done floor m
  pub least : (a : List Term) → Contains lists a → IsAhead done floor a → IsFalse (is_gt (slice_cmp order m a))

-- what is found is the first list ahead; nothing is found where no list is ahead
abbrev pub FindsAhead : List (List Term) → List Term → Option Term → Option (List (Where Term)) → Type 0
FindsAhead lists done floor None = NoneAhead lists done floor
FindsAhead lists done floor (Some m) = IsFirstAhead lists done floor (terms m)
