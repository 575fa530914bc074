-- The equations of positions at one level of meaning, at plain lists.
use Rattle.std.proofs.Common.{◌≡◌, refl, sym, ◌∙◌, ap, ℕ, ℤ, List, map}
use Rattle.elan_terms.specs.declared.tree.OpId.{OpId}
use Rattle.elan_terms.specs.declared.tree.SortId.{SortId}
use Rattle.elan_terms.specs.declared.tree.Term.{Term}
use Rattle.elan_terms.specs.declared.tree.TermNode as term
use Rattle.elan_terms.proofs.TreeLemmas.{fold_term-app}
use Rattle.elan_program.specs.declared.strategy.Strategy.{Strategy}
use Rattle.elan_program.specs.declared.program.Program.{Program}
use Rattle.elan_meaning.specs.declared.item.Entry.{Entry}
use Rattle.elan_meaning.specs.Items.{items_of, before, then_before, rows}
use Rattle.elan_meaning.specs.Meaning as meaning
use Rattle.elan_meaning.specs.Meaning.{Meaning}

module _ (p : Program) (M : Meaning) (sort : SortId) (s : Strategy) (t : Term) (n : ℕ) where
  pub positions-int : (z : ℤ) → t.node ≡ term.Int z → meaning.positions p M sort s t n ≡ meaning.placed p M sort s t n
  unfolding meaning.positions
  positions-int z e = ap (λ i. meaning.positions p M sort s (record { node = i }) n) e ∙ ap (λ i. meaning.placed p M sort s (record { node = i }) n) (sym e)

  pub positions-app : (op : OpId) (args : List Term) → t.node ≡ term.App op args
      → meaning.positions p M sort s t n ≡ items_of (rows (map (meaning.positions p M sort s) args) n) (meaning.placed_node p M sort s op)
  unfolding meaning.positions
  positions-app op args e =
      ap (λ i. meaning.positions p M sort s (record { node = i }) n) e ∙ ap (λ f. f n) (fold_term-app (meaning.at_int p M sort s) (meaning.at_app p M sort s) op args)

pub then_before-is : (k : ℕ → List Entry) (u : Term) (m : ℕ) → then_before k u m ≡ before u (k m)
unfolding then_before
then_before-is k u m = refl

pub ruleset positions = (positions-int, positions-app, then_before-is)
