-- Pairs of integers may be made.
use Rattle.std.proofs.Common.{◌≡◌, sym, ap, ◌∙◌, subst, ℕ, zero, suc, ℤ, ◌<◌, true, false, [], ◌∷◌, slice_get, slice_index_or, Some, arith}
use Rattle.boxcar.specs.Table.{Where}
use Rattle.elan_terms.specs.declared.tree.OpId.{OpId}
use Rattle.elan_terms.specs.declared.tree.Term.{Term}
use Rattle.elan_terms.specs.Trees.{int_term}
use Rattle.elan_terms.specs.declared.tree.Shapes.{Shapes}
use Rattle.elan_terms.specs.Term.{sort_of, depth, is_ac, shape_ac}
use Rattle.elan_terms.proofs.TermLemmas.{depth-int}
use Rattle.elan_terms.specs.Valid.{MayTake}
use Rattle.elan_table.specs.Rows.{terms}
use Rattle.elan_table.specs.Nodes.{MayMake}
use Rattle.elan_table.proofs.Sorts.{sort_of-int}
use Rattle.elan_speed.specs.Plain.{plain}

-- an integer is of the only sort, and not deep
pub integer_sorted : (shapes : Shapes) (t : Term) (z : ℤ) → shapes ≡ plain → t ≡ int_term z → sort_of shapes t ≡ Some (record { 0 = 0 })
integer_sorted shapes t z served is = sort_of-int shapes t z is ∙ ap (λ (s : Shapes). s.int) served

pub integer_low : (t : Term) (z : ℤ) → t ≡ int_term z → depth t < 2000
integer_low t z is = let one : depth t ≡ 1 = depth-int t z (ap (λ u. u.node) is) in omega arith

-- the only operator
abbrev pair : OpId
pair = record { 0 = 0 }

none_ac : (shapes : Shapes) → shapes ≡ plain → is_ac shapes pair ≡ true → ⊥
unfolding is_ac
none_ac shapes served ac = no (sym (ap (λ (s : Shapes). shape_ac (slice_get s.shapes 0)) served) ∙ ac)
  where
    no : false ≡ true → ⊥
    no e = cc

pub may_pair : (shapes : Shapes) (a b : Where Term) → shapes ≡ plain
    → sort_of shapes a.value ≡ Some (record { 0 = 0 }) → sort_of shapes b.value ≡ Some (record { 0 = 0 })
    → depth a.value < 2000 → depth b.value < 2000 → MayMake shapes pair (terms (a ∷ b ∷ []))
may_pair shapes a b served left right low low' = record {
  fits = subst (λ o. MayTake shapes o (terms (a ∷ b ∷ []))) (sym (ap (λ (s : Shapes). slice_get s.shapes 0) served)) (left, (right, tt));
  settled = λ ac. absurd (none_ac shapes served ac);
  shallow = each;
}
  where
    each : (k : ℕ) (d : Term) → k < 2 → depth (slice_index_or (terms (a ∷ b ∷ [])) k d) < 2000
    each zero d lt = low
    each (suc zero) d lt = low'
    each (suc (suc k)) d lt = absurd (omega arith)
