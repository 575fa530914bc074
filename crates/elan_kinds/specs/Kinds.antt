-- Terms that a valid program works on, and lists of results that are such terms.
use Rattle.std.specs.Prelude.{◌≡◌, ◌≤◌, ℕ, true, Some, List, [], ◌∷◌, length}
use Rattle.std.specs.List.{AllZip}
use Rattle.elan_terms.specs.declared.tree.SortId.{SortId}
use Rattle.elan_terms.specs.declared.tree.Term.{Term}
use Rattle.elan_terms.specs.declared.tree.Pattern.{Pattern}
use Rattle.elan_terms.specs.Term.{depth}
use Rattle.elan_program.specs.declared.strategy.Scope.TheVariants.{Outside}
use Rattle.elan_program.specs.declared.strategy.Strategy.{Strategy}
use Rattle.elan_program.specs.declared.program.Program.{Program}
use Rattle.elan_program.specs.Signature.{shapes_of}
use Rattle.elan_program.specs.Patterns.{pattern_sort, uses, are_numbered}
use Rattle.elan_program.specs.Validity.{is_valid_strategy}
use Rattle.elan_terms.specs.Valid.{IsValidOf}
use Rattle.elan_terms.specs.Canonical.{IsCanonical}
use Rattle.elan_meaning.specs.declared.item.Item.{Item}
use Rattle.elan_meaning.specs.declared.item.Entry.{Entry}
use Rattle.elan_meaning.specs.declared.item.Entry.TheVariants.{At, Stop}
use Rattle.elan_meaning.specs.declared.item.Item.TheVariants.{Res, Mark}
use Rattle.elan_meaning.specs.Meaning.{max_depth}

-- a valid term of this sort, canonical, and at most 2,000 deep
pub record IsKind (p : Program) (s : SortId) (t : Term) : Type 0 where
  pub suits : IsValidOf (shapes_of p.signature) s t
  pub canonical : IsCanonical (shapes_of p.signature) t
  pub shallow : depth t ≤ max_depth

-- the variables are numbered from 0, and each has such a term of its sort as its value
pub record Given (p : Program) (bound : List (ℕ × SortId)) (a : List Term) : Type 0 where
  pub numbered : are_numbered (length p.signature.sorts) 0 bound ≡ true
  pub values : AllZip (λ v t. IsKind p v.1 t) bound a

-- each result of the items
abbrev pub Results : (Term → Type 0) → List Item → Type 0
Results P [] = Unit {0}
Results P (Res t m ∷ is) = P t × Results P is
Results P (Mark c ∷ is) = Results P is

-- each row of the entries
abbrev pub Rows : (List Term → Type 0) → List Entry → Type 0
Rows P [] = Unit {0}
Rows P (At ts m ∷ es) = P ts × Rows P es
Rows P (Stop c ∷ es) = Rows P es

-- a pattern of this sort that uses bound variables alone
pub record IsWell (p : Program) (bound : List (ℕ × SortId)) (s : SortId) (q : Pattern) :
    Type 0 where
  pub used : uses bound q ≡ true
  pub sorted : pattern_sort (shapes_of p.signature) q ≡ Some s

-- a strategy without parameters of its own that is valid at this sort
abbrev pub IsFor : Program → SortId → Strategy → Type 0
IsFor p s by = is_valid_strategy p Outside by s ≡ true
