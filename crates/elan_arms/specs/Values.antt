-- What the values of a pattern's variables are.
use Rattle.std.specs.Prelude.{◌≡◌, ℕ, List}
use Rattle.std.specs.List.{All, AllZip}
use Rattle.elan_terms.specs.declared.tree.SortId.{SortId}
use Rattle.elan_terms.specs.declared.tree.Term.{Term}
use Rattle.elan_terms.specs.declared.tree.Pattern.{Pattern}
use Rattle.elan_terms.specs.declared.tree.Shapes.{Shapes}
use Rattle.elan_terms.specs.Match.{occurrences, variables, bound, instance}
use Rattle.elan_terms.specs.Valid.{HasSort, IsValid}
use Rattle.elan_terms.specs.Canonical.{IsCanonical}

-- a valid term in canonical form
pub record IsProper (shapes : Shapes) (t : Term) : Type 0 where
  pub valid : IsValid shapes t
  pub canonical : IsCanonical shapes t

-- each variable of the pattern has such a value
abbrev pub AreProper : Shapes → (ℕ → Term) → Pattern → Type 0
AreProper shapes value p = All (λ v. IsProper shapes (value v.0)) (occurrences p)

-- two ways to give values do not differ at these variables
abbrev pub AgreeOn : (ℕ → Term) → (ℕ → Term) → List (ℕ × SortId) → Type 0
AgreeOn value other = All (λ v. value v.0 ≡ other v.0)

-- a variable may have this value: it is valid, canonical, and of the variable's sort
pub record MayMean (shapes : Shapes) (v : ℕ × SortId) (u : Term) : Type 0 where
  pub proper : IsProper shapes u
  pub sorted : HasSort shapes u v.1

-- each variable, in order of first occurrence, has such a value, and with these the pattern is the term
pub record Makes (shapes : Shapes) (p : Pattern) (t : Term) (values : List Term) : Type 0 where
  pub given : AllZip (MayMean shapes) (variables p) values
  pub is : instance shapes (bound (variables p) values) p ≡ t
