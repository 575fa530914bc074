-- Some terms of a list in their order, and which such list comes first.
use Rattle.std.specs.Prelude.{◌≡◌, ℕ, Option, Some, None, List, length, take, IsFalse}
use Rattle.std.specs.declared.cmp.Ordering.TheVariants.{Less}
use Rattle.std.specs.Ordering.{is_gt}
use Rattle.std.specs.Cmp.Lexicographic.{slice_cmp}
use Rattle.elan_terms.specs.declared.tree.Term.{Term}
use Rattle.elan_terms.specs.Term.{order}
use Rattle.elan_laws.specs.Parts.{SomeOf}

-- a list does not come after another in the lexicographic order
abbrev pub NotAfterList : List Term → List Term → Type 0
NotAfterList xs ys = IsFalse (is_gt (slice_cmp order xs ys))

-- as many of its first terms as `past` has come after `past` in the lexicographic order
abbrev pub BeginsAfter : List Term → List Term → Type 0
BeginsAfter past xs = slice_cmp order past (take (length past) xs) ≡ Less

-- so many of the terms
pub record IsPick (us : List Term) (many : ℕ) (xs : List Term) : Type 0 where
  pub some : SomeOf xs us
  pub long : length xs ≡ many

-- so many of the terms, which begin after `past`
pub record IsChoice (us : List Term) (many : ℕ) (past xs : List Term) : Type 0 where
  pub some : SomeOf xs us
  pub long : length xs ≡ many
  pub after : BeginsAfter past xs

-- a list is so, and comes after no list that is so
pub record IsLeast (Is : List Term → Type 0) (xs : List Term) : Type 0 where
  pub is : Is xs
  pub least : (ys : List Term) → Is ys → NotAfterList xs ys

-- what is found is the least list that is so; nothing is found where no list is so
abbrev pub FindsLeast : (List Term → Type 0) → Option (List Term) → Type 0
FindsLeast Is None = (ys : List Term) → Is ys → ⊥
FindsLeast Is (Some xs) = IsLeast Is xs
