-- The first of some lists, the one that comes next after a list, and those that are still to come.
use Rattle.std.specs.Prelude.{◌≡◌, Option, Some, None, List, [], ◌∷◌, IsFalse}
use Rattle.std.specs.List.{Contains, filter}
use Rattle.std.specs.Ordering.{is_lt, is_gt}
use Rattle.std.specs.declared.cmp.Ordering.TheVariants.{Less}
use Rattle.std.specs.Cmp.Lexicographic.{slice_cmp}
use Rattle.boxcar.specs.Table.{Where}
use Rattle.elan_terms.specs.declared.tree.Term.{Term}
use Rattle.elan_terms.specs.Term.{order}
use Rattle.elan_table.specs.Rows.{terms}

-- a list comes after another, by the first term at which they differ
abbrev pub ComesAfter : List Term → List Term → Type 0
ComesAfter last a = slice_cmp order last a ≡ Less

-- it is one of the lists, and none of them stands before it
pub record IsFirst (lists : List (List Term)) (m : List Term) : Type 0 where
  pub there : Contains lists m
  pub least : (a : List Term) → Contains lists a → IsFalse (is_gt (slice_cmp order m a))

-- it is one of the lists and comes after the last one, and none of those that do stands before it
pub record IsNext (lists : List (List Term)) (last m : List Term) : Type 0 where
  pub there : Contains lists m
  pub after : ComesAfter last m
  pub least : (a : List Term) → Contains lists a → ComesAfter last a → IsFalse (is_gt (slice_cmp order m a))

-- what is found is the first of the lists; nothing is found where there is no list
abbrev pub FindsFirst : List (List Term) → Option (List (Where Term)) → Type 0
FindsFirst lists None = lists ≡ []
FindsFirst lists (Some m) = IsFirst lists (terms m)

-- what is found is the next list after the last one; nothing is found where no list comes after it
abbrev pub FindsNext : List (List Term) → List Term → Option (List (Where Term)) → Type 0
FindsNext lists last None = (a : List Term) → Contains lists a → ComesAfter last a → ⊥
FindsNext lists last (Some m) = IsNext lists last (terms m)

-- the lists that come after the last one that was given, or all of them where none was given
abbrev pub owed : List (List Term) → Option (List Term) → List (List Term)
owed lists None = lists
owed lists (Some last) = filter (λ a. is_lt (slice_cmp order last a)) lists

-- what is found and, behind it, those that are owed after it are what was owed; nothing is found where nothing was owed
abbrev pub Gives : List (List Term) → Option (List Term) → Option (List (Where Term)) → Type 0
Gives lists last None = owed lists last ≡ []
Gives lists last (Some m) = owed lists last ≡ terms m ∷ owed lists (Some (terms m))
