-- The matches that are still to come when variable by variable gets a value, and the values stand in ascending order.
use Rattle.std.specs.Prelude.{◌≡◌, ℕ, ◌+◌, ◌<◌, ◌≤◌, Option, Some, None, List, [], ◌∷◌, ◌++◌, length, drop, slice_get, get_or, pos, IsFalse}
use Rattle.std.specs.List.{Contains, filter, flat_map}
use Rattle.elan_terms.specs.declared.tree.SortId.{SortId}
use Rattle.elan_terms.specs.declared.tree.Term.{Term}
use Rattle.elan_terms.specs.Trees.{int_term}
use Rattle.elan_terms.specs.Match.{parts, variables, has_sort, fits, matches}
use Rattle.elan_terms.specs.Valid.{IsValid}
use Rattle.elan_terms.specs.Canonical.{IsCanonical}
use Rattle.elan_fits.specs.declared.look.Look.{Look}
use Rattle.elan_fits.specs.declared.task.Task.{Task}
use Rattle.elan_fits.specs.declared.task.Stage.{Stage}
use Rattle.elan_fits.specs.declared.task.Stage.TheVariants as stage
use Rattle.elan_fits.specs.Looks.{admits}

-- a task's variables are its pattern's; its parts are its term's, unless there is no variable; and the term is valid and
-- canonical
pub record IsTask (w : Task) : Type 0 where
  pub named : w.variables ≡ variables w.pattern.now
  pub parted : 1 ≤ length w.variables → w.parts ≡ parts w.shapes.now w.term.now
  pub valid : IsValid w.shapes.now w.term.now
  pub canonical : IsCanonical w.shapes.now w.term.now

-- the terms in these places
abbrev pub picked : List Term → List ℕ → List Term
picked all [] = []
picked all (i ∷ is) = get_or all i (int_term (pos 0)) ∷ picked all is

-- the matches that begin with these values, where these are the other variables
abbrev pub fresh : Task → List Term → List (ℕ × SortId) → List (List Term)
fresh w before [] = filter (fits w.shapes.now w.variables w.pattern.now w.term.now) (before ∷ [])
fresh w before (v ∷ vs) = flat_map (λ u. fresh w (before ++ u ∷ []) vs) (filter (has_sort w.shapes.now v.1) w.parts)

-- those in which the next variable has one of these terms
abbrev pub among : Task → List Term → List Term → ℕ × SortId → List (ℕ × SortId) → List (List Term)
among w before us v vs = flat_map (λ u. fresh w (before ++ u ∷ []) vs) (filter (has_sort w.shapes.now v.1) us)

-- those that come after the one in which the other variables have the parts in these places
abbrev pub after : Task → List Term → List ℕ → List (ℕ × SortId) → List (List Term)
after w before [] vs = []
after w before (i ∷ is) [] = []
after w before (i ∷ is) (v ∷ vs)
    = after w (before ++ get_or w.parts i (int_term (pos 0)) ∷ []) is vs ++ among w before (drop (i + 1) w.parts) v vs

-- no match has a value for the next variable that is not admitted
unfoldable pub Leads : Task → Look → List Term → List (ℕ × SortId) → Type 0
Leads w l before vs = (u : Term) → Contains w.parts u → IsFalse (admits l u) → fresh w (before ++ u ∷ []) vs ≡ []

-- so many parts have these places
abbrev pub AreThere : ℕ → List ℕ → Type 0
AreThere count [] = Unit {0}
AreThere count (i ∷ is) = (i < count) × AreThere count is

-- the first of these matches, by the places of the values that come after those known; and the others come after it
unfoldable pub Finds : Task → List Term → List (ℕ × SortId) → Option (List ℕ) → List (List Term) → Type 0
Finds w before vs None all = all ≡ []
Finds w before vs (Some places) all
    = AreThere (length w.parts) places × (all ≡ (before ++ picked w.parts places) ∷ after w before places vs)

-- the same of those in which the next variable has a part from a place on; none where it does not have the part there
unfoldable pub FindsAt : Task → List Term → ℕ × SortId → List (ℕ × SortId) → Option (List ℕ) → ℕ → Type 0
FindsAt w before v vs None place = among w before (drop place w.parts) v vs ≡ among w before (drop (place + 1) w.parts) v vs
FindsAt w before v vs (Some places) place = Finds w before (v ∷ vs) (Some places) (among w before (drop place w.parts) v vs)

-- a walk that is not over has a task
abbrev pub Stands : Task → Stage → Type 0
Stands w stage.Begin = IsTask w
Stands w (stage.After places) = IsTask w × AreThere (length w.parts) places
Stands w stage.End = Unit {0}

-- what is left to a walk
abbrev pub left : Task → Stage → List (List Term)
left w stage.Begin = matches w.shapes.now w.pattern.now w.term.now
left w (stage.After places) = after w [] places w.variables
left w stage.End = []
