-- Every level of meaning keeps kinds.
use Rattle.std.proofs.Common.{◌≡◌, refl, ℕ, zero, suc, true, [], ◌∷◌}
use Rattle.elan_terms.specs.declared.tree.SortId.{SortId}
use Rattle.elan_terms.specs.declared.tree.Term.{Term}
use Rattle.elan_terms.specs.declared.tree.Pattern.{Pattern}
use Rattle.elan_program.specs.declared.strategy.Strategy.{Strategy}
use Rattle.elan_program.specs.declared.program.Rule.{Rule}
use Rattle.elan_program.specs.declared.program.Program.{Program}
use Rattle.elan_program.specs.Signature.{shapes_of}
use Rattle.elan_program.specs.Validity.{IsValid, is_valid_rule}
use Rattle.elan_meaning.specs.Meaning.{below, within, answers}
use Rattle.elan_meaning.specs.Laws.{rule_items, node_item}
use Rattle.elan_terms.specs.Valid.{IsValidOf}
use Rattle.elan_terms.specs.Canonical.{IsCanonical}
use Rattle.elan_kinds.specs.Kinds.{IsKind, Results, IsWell, IsFor}
use Rattle.elan_kinds.proofs.Keeping.{Keeps, IsGood}
use Rattle.std.specs.List.{Contains}
use Rattle.elan_program.specs.Extension.{unlabelled}
use Rattle.elan_terms.proofs.Lists.{in_all, in_of_contains}
use Rattle.elan_kinds.proofs.ListLemmas.{results_then}
use Rattle.elan_kinds.proofs.Checked.{checked, rule_good, named_valid}
use Rattle.elan_kinds.proofs.Reducing.{reduces}
use Rattle.elan_kinds.proofs.Unlabelled.{unlabelled_good}
use Rattle.elan_kinds.proofs.Steps.{one_level, apply, settled}

module _ (p : Program) (valid : IsValid p) where
  pub keeps : (n : ℕ) → Keeps p (below p n)
  unfolding below
  keeps zero = record { normal = λ q bound a s m w g. tt; clauses = λ cs bound later a m e g. tt; positions = λ place s by t m f k. tt; strategy = λ s by t m f k. tt }
  keeps (suc n) = one_level p (below p n) (keeps n) (reduces p valid) (unlabelled_good p valid) (rule_good p valid) (named_valid p valid)

  pub level_keeps : (n : ℕ) → Keeps p (within p n)
  level_keeps n = one_level p (below p n) (keeps n) (reduces p valid) (unlabelled_good p valid) (rule_good p valid) (named_valid p valid)

  pub rule_keeps : (r : Rule) (s : SortId) (t : Term) (n : ℕ) → is_valid_rule p r ≡ true → IsKind p s t → Results (IsKind p s) (rule_items p r t n)
  rule_keeps r s t n e k = apply p (below p n) (keeps n) (reduces p valid) (unlabelled_good p valid) (rule_good p valid) (named_valid p valid) r s t n (checked p r e).good k

  pub tried_keeps : (r : Rule) (s : SortId) (t : Term) (n : ℕ) → Contains (unlabelled p) r → IsKind p s t → Results (IsKind p s) (rule_items p r t n)
  tried_keeps r s t n c k = apply p (below p n) (keeps n) (reduces p valid) (unlabelled_good p valid) (rule_good p valid) (named_valid p valid) r s t n (in_all (IsGood p) (unlabelled p) r (unlabelled_good p valid) (in_of_contains (unlabelled p) r c)) k

  pub node_keeps : (s : SortId) (u : Term) (n : ℕ) → IsValidOf (shapes_of p.signature) s u → IsCanonical (shapes_of p.signature) u → Results (IsKind p s) (node_item p u n ∷ [])
  node_keeps s u n v c = settled p (below p n) (keeps n) (reduces p valid) (unlabelled_good p valid) (rule_good p valid) (named_valid p valid) s u n v c

  pub answers_keep : (s : SortId) (by : Strategy) (q : Pattern) (n : ℕ) → IsFor p s by → IsWell p [] s q → Results (IsKind p s) (answers p by q n)
  unfolding answers
  answers_keep s by q n f w = results_then (IsKind p s) (IsKind p s) ((within p n).normal q [] n ∷ []) ((within p n).strategy by)
      ((level_keeps n).normal q [] [] s n w (record { numbered = refl; values = tt })) (λ t m k. (level_keeps n).strategy s by t m f k)
