-- The lists of the definitions are what one level of meaning makes of themselves: so no level shows in their rows.
use Rattle.std.proofs.Common.{◌≡◌, refl, sym, ◌∙◌, ap, ℕ, zero, suc, ◌+◌, ◌<◌, ◌≤◌, List, [], ◌∷◌, arith}
use Rattle.std.proofs.Math.Path.{fun_ext}
use Rattle.elan_terms.specs.declared.tree.SortId.{SortId}
use Rattle.elan_terms.specs.declared.tree.Term.{Term}
use Rattle.elan_terms.specs.declared.tree.Pattern.{Pattern}
use Rattle.elan_program.specs.declared.strategy.Strategy.{Strategy}
use Rattle.elan_program.specs.declared.program.Clause.{Clause}
use Rattle.elan_program.specs.declared.program.Program.{Program}
use Rattle.elan_meaning.specs.declared.item.Item.{Item}
use Rattle.elan_meaning.specs.declared.item.Entry.{Entry}
use Rattle.elan_meaning.specs.declared.item.Entry.TheVariants.{At, Stop}
use Rattle.elan_meaning.specs.declared.item.Cause.TheVariants.{Steps, Depth}
use Rattle.elan_meaning.specs.Items.{first_or}
use Rattle.elan_meaning.specs.Meaning as meaning
use Rattle.elan_meaning.specs.Meaning.{Meaning, within, below, level}
use Rattle.elan_meaning.specs.Laws.{Follows, GoesRows, no_row, row, deep_row, out_row, on_row, strategy_items, rule_items, clause_entries, position_items, normal_item, node_item, place_items, meant}
use Rattle.elan_meaning.proofs.LawLemmas.{goes-same, within_follows}
use Rattle.elan_meaning.proofs.Steps.{one_level, apply as apply_goes, of_node as node_goes, placed as placed_goes}

pub one_same : (i j : Item) → i ∷ [] ≡ j ∷ [] → i ≡ j
one_same i j e = ap (λ is. first_or is i) e

pub rows-same : {k n : ℕ} {es fs : List Entry} → k ≡ 0 → GoesRows k n es fs → es ≡ fs
rows-same z no_row = refl
rows-same z (row {ts = ts} {m = m} {m' = m'} {is = is} le e g) =
    let same : m ≡ m' = omega arith in ap (λ i. At ts i ∷ is) same ∙ ap (λ is. At ts m' ∷ is) (rows-same z g)
rows-same z (deep_row g) = ap (λ is. Stop Depth ∷ is) (rows-same z g)
rows-same z (out_row g) = ap (λ is. Stop Steps ∷ is) (rows-same z g)
rows-same z (on_row some) = absurd (omega arith)

module _ (p : Program) where
  -- a level goes on as the lists themselves do
  follows_meant : (n : ℕ) → Follows 0 n (below p n) (meant p)
  unfolding below
  follows_meant zero = record {
    normal = λ q a m m' lt e. absurd (omega arith);
    clauses = λ cs a m m' lt e. absurd (omega arith);
    positions = λ sort s t m m' lt e. absurd (omega arith);
    strategy = λ s t m m' lt e. absurd (omega arith);
  }
  follows_meant (suc n) = record {
    normal = λ q a m m' lt e. (within_follows p 0 m n m' (omega arith) (omega arith)).normal q a m m' (omega arith) e;
    clauses = λ cs a m m' lt e. (within_follows p 0 m n m' (omega arith) (omega arith)).clauses cs a m m' (omega arith) e;
    positions = λ sort s t m m' lt e. (within_follows p 0 m n m' (omega arith) (omega arith)).positions sort s t m m' (omega arith) e;
    strategy = λ s t m m' lt e. (within_follows p 0 m n m' (omega arith) (omega arith)).strategy s t m m' (omega arith) e;
  }

  one_more : (n : ℕ) → Follows 0 (suc n) (within p n) (level p (meant p))
  one_more n = one_level p 0 n (below p n) (meant p) (follows_meant n)

  last : (n : ℕ) → n < suc n
  last n = omega arith

  none_more : (n : ℕ) → n ≡ n + 0
  none_more n = omega arith

  -- ---- each kind

  pub normal-fixed : meaning.normal p (meant p) ≡ normal_item p
  normal-fixed = fun_ext λ q. fun_ext λ a. fun_ext λ n.
      sym (one_same _ _ (goes-same refl ((one_more n).normal q a n n (last n) (none_more n))))

  pub clauses-fixed : meaning.clauses p (meant p) ≡ clause_entries p
  clauses-fixed = fun_ext λ cs. fun_ext λ a. fun_ext λ n. sym (rows-same refl ((one_more n).clauses cs a n n (last n) (none_more n)))

  pub positions-fixed : meaning.positions p (meant p) ≡ position_items p
  positions-fixed = fun_ext λ sort. fun_ext λ s. fun_ext λ t. fun_ext λ n.
      sym (goes-same refl ((one_more n).positions sort s t n n (last n) (none_more n)))

  pub strategy-fixed : meaning.strategy p (meant p) ≡ strategy_items p
  strategy-fixed = fun_ext λ s. fun_ext λ t. fun_ext λ n. sym (goes-same refl ((one_more n).strategy s t n n (last n) (none_more n)))

  pub apply-fixed : meaning.apply p (meant p) ≡ rule_items p
  apply-fixed = fun_ext λ r. fun_ext λ t. fun_ext λ n.
      sym (goes-same refl (apply_goes p 0 n (below p n) (meant p) (follows_meant n) r t n n (last n) (none_more n)))

  pub node-fixed : meaning.of_node p (meant p) ≡ node_item p
  node-fixed = fun_ext λ u. fun_ext λ n.
      sym (one_same _ _ (goes-same refl (node_goes p 0 n (below p n) (meant p) (follows_meant n) u n n (last n) (none_more n))))

  pub placed-fixed : meaning.placed p (meant p) ≡ place_items p
  placed-fixed = fun_ext λ sort. fun_ext λ s. fun_ext λ u. fun_ext λ n.
      sym (goes-same refl (placed_goes p 0 n (below p n) (meant p) (follows_meant n) sort s u n n (last n) (none_more n)))

  -- ---- all together

  made_of : (Pattern → List Term → ℕ → Item) → (List Clause → List Term → ℕ → List Entry) → (SortId → Strategy → Term → ℕ → List Item)
      → (Strategy → Term → ℕ → List Item) → Meaning
  made_of f g h i = record { normal = f; clauses = g; positions = h; strategy = i }

  -- one level over the lists makes the lists again
  pub fixed : level p (meant p) ≡ meant p
  unfolding made_of
  fixed =
      ap (λ f. made_of f (meaning.clauses p (meant p)) (meaning.positions p (meant p)) (meaning.strategy p (meant p))) normal-fixed
      ∙ ap (λ g. made_of (normal_item p) g (meaning.positions p (meant p)) (meaning.strategy p (meant p))) clauses-fixed
      ∙ ap (λ h. made_of (normal_item p) (clause_entries p) h (meaning.strategy p (meant p))) positions-fixed
      ∙ ap (λ i. made_of (normal_item p) (clause_entries p) (position_items p) i) strategy-fixed

  -- ---- any number of levels that is enough gives the same

  pub normal-enough : (q : Pattern) (a : List Term) (n f : ℕ) → n ≤ f → (within p f).normal q a n ≡ normal_item p q a n
  normal-enough q a n f le =
      let le' : n ≤ n = omega arith in one_same _ _ (goes-same refl ((within_follows p 0 n f n le le').normal q a n n (last n) (none_more n)))

  pub clauses-enough : (cs : List Clause) (a : List Term) (n f : ℕ) → n ≤ f → (within p f).clauses cs a n ≡ clause_entries p cs a n
  clauses-enough cs a n f le =
      let le' : n ≤ n = omega arith in rows-same refl ((within_follows p 0 n f n le le').clauses cs a n n (last n) (none_more n))

  pub positions-enough : (sort : SortId) (s : Strategy) (t : Term) (n f : ℕ) → n ≤ f → (within p f).positions sort s t n ≡ position_items p sort s t n
  positions-enough sort s t n f le =
      let le' : n ≤ n = omega arith in goes-same refl ((within_follows p 0 n f n le le').positions sort s t n n (last n) (none_more n))
