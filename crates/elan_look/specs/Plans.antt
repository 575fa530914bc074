-- What a search for a match goes by.
use Rattle.std.specs.Prelude.{◌≡◌, ℕ, Option, Some, List, map}
use Rattle.std.specs.List.{AllZip}
use Rattle.boxcar.specs.Table.{Where}
use Rattle.elan_terms.specs.declared.tree.SortId.{SortId}
use Rattle.elan_terms.specs.declared.tree.Term.{Term}
use Rattle.elan_terms.specs.declared.tree.Shapes.{Shapes}
use Rattle.elan_terms.specs.Match.{variables, matches}
use Rattle.elan_terms.specs.Valid.{HasSort}
use Rattle.elan_match.specs.Plain.{AreNumbered}
use Rattle.elan_look.specs.declared.plan.Plan.{Plan}

-- rows that are there
abbrev pub all_there : List (Where Term) → List (Option (Where Term))
all_there = map (λ row. Some row)

-- each row's term has the sort of the variable beside it, and there are as many of both
abbrev pub HaveSorts : Shapes → List (ℕ × SortId) → List (Where Term) → Type 0
HaveSorts shapes = AllZip (λ v row. HasSort shapes row.value v.1)

module _ {N : Type 0} where
  -- the variables are those of the pattern, and they are numbered one after the other
  pub record IsPlan (a : Plan N) : Type 0 where
    pub all : a.variables ≡ variables a.pattern
    pub numbered : AreNumbered a.first a.variables

  -- the lists of values with which the pattern is the term
  abbrev pub matches_of : Shapes → Plan N → List (List Term)
  matches_of shapes a = matches shapes a.pattern a.term.value
