-- The equations of truth values, of integers and of built-in operations.
use Rattle.std.proofs.Common.{◌≡◌, refl, sym, ◌∙◌, ap, subst, ℤ, Bool, false, Option, Some, None, List, [], ◌∷◌, length, arith}
use Rattle.std.specs.Prelude.{◌<◌, ◌≤◌}
use Rattle.elan_terms.specs.declared.tree.OpId.{OpId}
use Rattle.elan_terms.specs.declared.tree.Term.{Term}
use Rattle.elan_terms.specs.declared.tree.TermNode as term
use Rattle.elan_terms.specs.Trees.{int_term}
use Rattle.elan_terms.specs.Term.{same}
use Rattle.elan_terms.proofs.TreeLemmas.{case_term-app}
use Rattle.elan_terms.proofs.OrderLemmas.{same-equal, equal-same}
use Rattle.elan_program.specs.declared.signature.Builtin.{Builtin}
use Rattle.elan_program.specs.declared.signature.Truth.{Truth}
use Rattle.elan_program.specs.declared.signature.Signature.{Signature}
use Rattle.elan_program.specs.Signature.{builtin_at}
use Rattle.elan_program.specs.Builtins.{truth_of, constant, int_of, value_in, value_by}
use Rattle.elan_builtin.specs.declared.operand.Operand.{Operand}
use Rattle.elan_builtin.specs.declared.operand.Reduced.{Reduced}
use Rattle.elan_builtin.specs.Stands.{Stands, StandFor, TellsSame, term_of}

-- ---- truth values

pub truth_of-none : (t : Term) → None ≡ truth_of None t
unfolding truth_of
truth_of-none t = refl

module _ (truth : Truth) (t : Term) where
  pub truth_of-int : (z : ℤ) → t.node ≡ term.Int z → None ≡ truth_of (Some truth) t
  unfolding truth_of
  truth_of-int z e = sym (ap (λ i. truth_of (Some truth) (record { node = i })) e)

  truth_of-app : (op : OpId) (args : List Term) → t.node ≡ term.App op args → truth_of (Some truth) t ≡ constant truth op args
  unfolding truth_of
  truth_of-app op args e = ap (λ i. truth_of (Some truth) (record { node = i })) e ∙ case_term-app (λ _. None) (constant truth) op args

  no_argument : (op : OpId) (args : List Term) → length args < 1 → constant truth op args ≡ constant truth op []
  no_argument op [] none = refl
  no_argument op (u ∷ us) none = absurd (omega arith)

  some_argument : (op : OpId) (args : List Term) → 1 ≤ length args → constant truth op args ≡ None
  unfolding constant
  some_argument op [] some = absurd (omega arith)
  some_argument op (u ∷ us) some = refl

  module _ (op : OpId) (args : List Term) (e : t.node ≡ term.App op args) where
    pub truth_of-constant : length args < 1 → truth_of (Some truth) t ≡ constant truth op []
    truth_of-constant none = truth_of-app op args e ∙ no_argument op args none

    pub truth_of-more : 1 ≤ length args → None ≡ truth_of (Some truth) t
    truth_of-more some = sym (truth_of-app op args e ∙ some_argument op args some)

pub ruleset truths = (truth_of-none, truth_of-int, truth_of-constant, truth_of-more)

-- ---- integers

module _ (t : Term) where
  pub int_of-int : (z : ℤ) → t.node ≡ term.Int z → Some z ≡ int_of t
  unfolding int_of
  int_of-int z e = sym (ap (λ i. int_of (record { node = i })) e)

  pub int_of-app : (op : OpId) (args : List Term) → t.node ≡ term.App op args → None ≡ int_of t
  unfolding int_of
  int_of-app op args e = sym (ap (λ i. int_of (record { node = i })) e)

pub ruleset ints = (int_of-int, int_of-app)

-- ---- whole terms

module _ (g : Signature) (t : Term) where
  pub value_in-int : (z : ℤ) → t.node ≡ term.Int z → None ≡ value_in g t
  unfolding value_in
  value_in-int z e = sym (ap (λ i. value_in g (record { node = i })) e)

  pub value_in-app : (op : OpId) (args : List Term) → t.node ≡ term.App op args → value_in g t ≡ value_by g.truth (builtin_at g op) args
  unfolding value_in
  value_in-app op args e = ap (λ i. value_in g (record { node = i })) e ∙ case_term-app (λ _. None) (λ op ts. value_by g.truth (builtin_at g op) ts) op args

pub ruleset values = (value_in-int, value_in-app)

-- ---- operands

module _ (truth : Option Truth) (t : Term) where
  pub stands-int : (z : ℤ) → t.node ≡ term.Int z → t ≡ int_term z
  stands-int z e = ap (λ i. record { node = i }) e

  pub no_int : (op : OpId) (args : List Term) → t.node ≡ term.App op args → int_of t ≡ None
  no_int op args e = sym (int_of-app t op args e)

pub ruleset stands = (stands-int, no_int)

-- what is told of one operand, and of two
module _ (truth : Option Truth) (b : Builtin) where
  pub of_one : (os : List Operand) (o : Operand) (t : Term) (r : Option Reduced) → os ≡ o ∷ [] → Stands truth o t
      → ((g : Option Truth) (ts : List Term) → StandFor g os ts → TellsSame false ts → value_by g (Some b) ts ≡ term_of g r)
      → value_by truth (Some b) (t ∷ []) ≡ term_of truth r
  of_one os o t r is stands told =
      let P : List Operand → Type 0 = λ qs. StandFor truth qs (t ∷ []) in
      told truth (t ∷ []) (subst P (sym is) (stands, tt)) tt

  pub of_two : (os : List Operand) (o q : Operand) (t u : Term) (equal : Bool) (r : Option Reduced) → os ≡ o ∷ q ∷ []
      → Stands truth o t → Stands truth q u → equal ≡ same t u
      → ((g : Option Truth) (ts : List Term) → StandFor g os ts → TellsSame equal ts → value_by g (Some b) ts ≡ term_of g r)
      → value_by truth (Some b) (t ∷ u ∷ []) ≡ term_of truth r
  of_two os o q t u equal r is left right e told =
      let P : List Operand → Type 0 = λ qs. StandFor truth qs (t ∷ u ∷ []) in
      told truth (t ∷ u ∷ []) (subst P (sym is) (left, (right, tt))) (λ yes. same-equal t u (sym e ∙ yes), λ f. e ∙ equal-same t u f)

pub ruleset reductions = (of_one, of_two)
