-- How lists of terms begin, and what bounds the term that comes next in them.
use Rattle.std.specs.Prelude.{Option, Some, None, List, ◌∷◌, ◌++◌, option_map}
use Rattle.std.specs.List.{Contains}
use Rattle.boxcar.specs.Table.{Where}
use Rattle.elan_terms.specs.declared.tree.Term.{Term}
use Rattle.elan_terms.specs.Ascending.{Before, NotAfter}
use Rattle.elan_search.specs.declared.ahead.Low.{Low}
use Rattle.elan_search.specs.declared.ahead.Low.TheVariants.{Empty, At}

-- the term of a row, where there is one
abbrev pub term_if : Option (Where Term) → Option Term
term_if = option_map (λ w. w.value)

-- a term comes after the floor; every term does where there is no floor
abbrev pub After : Option Term → Term → Type 0
After None u = Unit {0}
After (Some f) u = Before f u

-- one of the lists begins with these terms, and this term is the next in it
abbrev pub GoesOn : List (List Term) → List Term → Term → Type 0
GoesOn lists done u = (rest : List Term) × Contains lists (done ++ u ∷ rest)

-- a term after the floor, and no term after the floor that is next in one of the lists stands before it
pub record IsBound (lists : List (List Term)) (done : List Term) (floor : Option Term) (u : Term) : Type 0 where
  pub after : After floor u
  pub least : (v : Term) → GoesOn lists done v → After floor v → NotAfter u v

module _ {N : Type 0} where
  -- nothing is found only where no term after the floor is next in one of the lists; what is found bounds them all
  abbrev pub Bounds : List (List Term) → List Term → Option Term → Low N → Type 0
  Bounds lists done floor Empty = (u : Term) → GoesOn lists done u → After floor u → ⊥
  Bounds lists done floor (At u) = IsBound lists done floor u.value
