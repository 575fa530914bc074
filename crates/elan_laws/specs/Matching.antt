-- What a match of a pattern in a term is.
use Rattle.std.specs.Prelude.{◌≡◌, ℕ, List}
use Rattle.std.specs.List.{AllZip, AllPairs}
use Rattle.std.specs.declared.cmp.Ordering.TheVariants.{Less}
use Rattle.std.specs.Cmp.Lexicographic.{slice_cmp}
use Rattle.elan_terms.specs.declared.tree.SortId.{SortId}
use Rattle.elan_terms.specs.declared.tree.Term.{Term}
use Rattle.elan_terms.specs.declared.tree.Pattern.{Pattern}
use Rattle.elan_terms.specs.declared.tree.Shapes.{Shapes}
use Rattle.elan_terms.specs.Trees.{fold_pattern, int_term, app_term}
use Rattle.elan_terms.specs.Term.{order, canon}
use Rattle.elan_terms.specs.Match.{variables, bound}
use Rattle.elan_terms.specs.Valid.{HasSort, IsValidOf}
use Rattle.elan_laws.specs.Parts.{IsPart}

-- the term that a pattern is where these values stand for its variables
unfoldable pub filled : (ℕ → Term) → Pattern → Term
filled value = fold_pattern (λ x _. value x) int_term app_term

-- the value of a variable is a valid term of the variable's sort
abbrev pub HasValue : Shapes → ℕ × SortId → Term → Type 0
HasValue shapes v u = IsValidOf shapes v.1 u

-- a variable may have this part of the term as its value: the part has the variable's sort
abbrev pub MayHave : Shapes → Term → ℕ × SortId → Term → Type 0
MayHave shapes t v u = IsPart shapes u t × HasSort shapes u v.1

-- each variable of the pattern, in order of first occurrence, has a part of the term as its value, and the canonical
-- form of the pattern filled with these is the term
pub record IsMatch (shapes : Shapes) (p : Pattern) (t : Term) (values : List Term) : Type 0 where
  pub given : AllZip (MayHave shapes t) (variables p) values
  pub makes : canon shapes (filled (bound (variables p) values) p) ≡ t

-- each list stands before all that come later, by the first item at which they differ
abbrev pub AscendLexicographically : List (List Term) → Type 0
AscendLexicographically = AllPairs (λ a b. slice_cmp order a b ≡ Less)
