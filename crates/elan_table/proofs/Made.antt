-- What is made of rows may stand in a row.
use Rattle.std.proofs.Common.{◌≡◌, refl, sym, ap, subst, ℕ, zero, suc, ◌≤◌, ◌<◌, ℤ, List, [], ◌∷◌, map, All, length, arith}
use Rattle.boxcar.specs.Table.{Where}
use Rattle.elan_terms.specs.declared.tree.OpId.{OpId}
use Rattle.elan_terms.specs.declared.tree.Term.{Term}
use Rattle.elan_terms.specs.declared.tree.Shapes.{Shapes}
use Rattle.elan_terms.specs.Trees.{app_term, int_term}
use Rattle.elan_terms.specs.Term.{depth}
use Rattle.elan_terms.proofs.TermLemmas.{depth-int}
use Rattle.elan_terms.specs.Valid.{IsNumber, IsAllowed, IsValid}
use Rattle.elan_terms.specs.Canonical.{IsSettled, IsCanonical}
use Rattle.elan_terms.proofs.Lists.{AllOf}
use Rattle.elan_terms.proofs.NodeLemmas.{app_throughout}
use Rattle.elan_table.specs.Rows.{MayStand, terms}
use Rattle.elan_table.specs.Nodes.{MayMake}
use Rattle.elan_table.proofs.Depths.{shallow}

all_valid : (shapes : Shapes) (ts : List (Where Term)) → All (λ t. MayStand shapes t.value) ts → AllOf (IsValid shapes) (terms ts)
all_valid shapes [] h = tt
all_valid shapes (t ∷ ts) h = ((h 0 t (omega arith)).valid, all_valid shapes ts (λ k d lt. h (suc k) d (omega arith)))

all_canonical : (shapes : Shapes) (ts : List (Where Term)) → All (λ t. MayStand shapes t.value) ts → AllOf (IsCanonical shapes) (terms ts)
all_canonical shapes [] h = tt
all_canonical shapes (t ∷ ts) h = ((h 0 t (omega arith)).canonical, all_canonical shapes ts (λ k d lt. h (suc k) d (omega arith)))

-- an application that may be made of rows
pub stands : (shapes : Shapes) (op : OpId) (ts : List (Where Term)) → All (λ t. MayStand shapes t.value) ts → MayMake shapes op (terms ts) → MayStand shapes (app_term op (terms ts))
stands shapes op ts known may = record {
  valid = app_throughout (IsNumber shapes) (IsAllowed shapes) op (terms ts) may.fits (all_valid shapes ts known);
  canonical = app_throughout (λ _. Unit {0}) (IsSettled shapes) op (terms ts) may.settled (all_canonical shapes ts known);
  low = shallow op (terms ts) may.shallow;
}

-- an integer that is allowed
pub integer_stands : (shapes : Shapes) (z : ℤ) → IsNumber shapes z → MayStand shapes (int_term z)
integer_stands shapes z number = record {
  valid = number;
  canonical = tt;
  low = let one : depth (int_term z) ≡ 1 = depth-int (int_term z) z refl in omega arith;
}
