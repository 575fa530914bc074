-- The rows of the definitions with no level in them, from the lists as one level makes them of themselves.
use Rattle.std.proofs.Common.{◌≡◌, refl, sym, ◌∙◌, ap, ℕ, ℤ, suc, ◌<◌, ◌≤◌, Bool, true, false, List, [], ◌∷◌, ◌++◌, map}
use Rattle.std.proofs.Math.Path.{fun_ext}
use Rattle.std.proofs.Math.Nat.{min-eq_left}
use Rattle.std.proofs.lemmas.Bool.{lt-ltb, le-ltb, eq-eqb, ne_eqb}
use Rattle.std.specs.Prelude.{nat_lt, min, ◌==◌, if◌then◌else◌, Some, slice_get}
use Rattle.std.specs.List.{flat_map, zip}
use Rattle.elan_terms.specs.declared.tree.OpId.{OpId}
use Rattle.elan_terms.specs.declared.tree.SortId.{SortId}
use Rattle.elan_terms.specs.declared.tree.Term.{Term}
use Rattle.elan_terms.specs.declared.tree.Pattern.{Pattern}
use Rattle.elan_terms.specs.Trees.{int_term, app_term}
use Rattle.elan_terms.specs.Term.{depth, node, sort_of}
use Rattle.elan_terms.specs.Match.{matches, is_sort}
use Rattle.elan_program.specs.declared.strategy.Strategy.{Strategy}
use Rattle.elan_program.specs.declared.strategy.StrategyNode.TheVariants as kind
use Rattle.elan_program.specs.declared.program.Clause.{Clause}
use Rattle.elan_program.specs.declared.program.Clause.TheVariants.{If, Where}
use Rattle.elan_program.specs.declared.program.Rule.{Rule}
use Rattle.elan_program.specs.declared.program.Named.{Named}
use Rattle.elan_program.specs.declared.program.Program.{Program}
use Rattle.elan_program.specs.Signature.{shapes_of}
use Rattle.elan_program.specs.Strategies.{made, with_actuals}
use Rattle.elan_program.specs.Extension.{unlabelled, var_pattern, int_pattern, app_pattern}
use Rattle.elan_program.specs.Builtins.{reduced, is_true}
use Rattle.elan_meaning.specs.declared.item.Item.{Item}
use Rattle.elan_meaning.specs.declared.item.Item.TheVariants.{Res, Mark}
use Rattle.elan_meaning.specs.declared.item.Entry.{Entry}
use Rattle.elan_meaning.specs.declared.item.Entry.TheVariants.{At, Stop}
use Rattle.elan_meaning.specs.declared.item.Cause.{Cause}
use Rattle.elan_meaning.specs.declared.item.Cause.TheVariants.{Steps, Depth}
use Rattle.elan_meaning.specs.Items.{on_results, or_else, first_of, head, chosen, first_or, rows_of, items_of, one_of, matched, in_turn, rows, paired}
use Rattle.elan_meaning.specs.Meaning as meaning
use Rattle.elan_meaning.specs.Meaning.{max_depth, value_of, pattern_of, answers, within}
use Rattle.elan_meaning.specs.Laws.{AtMost, AtMostRows, lowered, lowered_rows, strategy_items, rule_items, clause_entries, position_items, normal_item, node_item, place_items, meant}
use Rattle.elan_meaning.proofs.LawLemmas.{enough, normal_left}
use Rattle.elan_meaning.proofs.Fixed.{normal-fixed, clauses-fixed, positions-fixed, strategy-fixed, apply-fixed, node-fixed, placed-fixed}
use Rattle.elan_meaning.proofs.NormalRules.{normal-var, normal-int, normal-app}
use Rattle.elan_meaning.proofs.PlaceRules.{positions-int, positions-app}
use Rattle.elan_meaning.proofs.StrategyRules.{strategy-id, strategy-fail, strategy-label, strategy-call, strategy-param, strategy-seq, strategy-all, strategy-first, strategy-repeat, strategy-iterate, strategy-iterate_plus, strategy-normalise, strategy-cong-int, strategy-cong-app}

module _ (p : Program) where
  -- ---- each list as one level makes it

  items : (s : Strategy) (t : Term) (n : ℕ) → strategy_items p s t n ≡ meaning.strategy p (meant p) s t n
  items s t n = ap (λ f. f s t n) (sym (strategy-fixed p))

  item : (q : Pattern) (a : List Term) (n : ℕ) → normal_item p q a n ≡ meaning.normal p (meant p) q a n
  item q a n = ap (λ f. f q a n) (sym (normal-fixed p))

  entries : (cs : List Clause) (a : List Term) (n : ℕ) → clause_entries p cs a n ≡ meaning.clauses p (meant p) cs a n
  entries cs a n = ap (λ f. f cs a n) (sym (clauses-fixed p))

  at_places : (sort : SortId) (s : Strategy) (t : Term) (n : ℕ) → position_items p sort s t n ≡ meaning.positions p (meant p) sort s t n
  at_places sort s t n = ap (λ f. f sort s t n) (sym (positions-fixed p))

  -- ---- normalising

  pub row-variable : (x : ℕ) (sort : SortId) (a : List Term) (n : ℕ) → normal_item p (var_pattern x sort) a n ≡ Res (value_of a x) n
  row-variable x sort a n = item (var_pattern x sort) a n ∙ normal-var p (meant p) (var_pattern x sort) a n x sort refl

  pub row-integer : (z : ℤ) (a : List Term) (n : ℕ) → normal_item p (int_pattern z) a n ≡ node_item p (int_term z) n
  row-integer z a n =
      item (int_pattern z) a n ∙ normal-int p (meant p) (int_pattern z) a n z refl
      ∙ ap (λ f. f (int_term z) n) (node-fixed p)

  pub row-application : (op : OpId) (qs : List Pattern) (a : List Term) (n : ℕ) → normal_item p (app_pattern op qs) a n
      ≡ one_of (in_turn (map (normal_item p) qs) a n) (λ us m. node_item p (node (shapes_of p.signature) op us) m)
  unfolding meaning.of_args
  row-application op qs a n =
      item (app_pattern op qs) a n ∙ normal-app p (meant p) (app_pattern op qs) a n op qs refl
      ∙ ap (λ f. one_of (in_turn (map f qs) a n) (meaning.of_args p (meant p) op)) (normal-fixed p)
      ∙ ap (λ f. one_of (in_turn (map (normal_item p) qs) a n) (λ us m. f (node (shapes_of p.signature) op us) m)) (node-fixed p)

  tried-is : (rs : List Rule) (w : Term) (n : ℕ) → meaning.tried p (meant p) rs w n ≡ first_of (map (λ r. rule_items p r w n) rs)
  tried-is [] w n = refl
  tried-is (r ∷ rs) w n =
      ap (λ f. or_else (f r w n) (meaning.tried p (meant p) rs w n)) (apply-fixed p)
      ∙ ap (λ is. or_else (rule_items p r w n) is) (tried-is rs w n)

  node-is : (u : Term) (n : ℕ) → node_item p u n
      ≡ (if nat_lt max_depth (depth u) then Mark Depth
      else first_or (first_of (map (λ r. rule_items p r (reduced p.signature u) n) (unlabelled p))) (Res (reduced p.signature u) n))
  unfolding meaning.of_node
  node-is u n =
      ap (λ f. f u n) (sym (node-fixed p))
      ∙ ap (λ is. if nat_lt max_depth (depth u) then Mark Depth else first_or is (Res (reduced p.signature u) n))
      (tried-is (unlabelled p) (reduced p.signature u) n)

  pub row-node-deep : (u : Term) (n : ℕ) → max_depth < depth u → node_item p u n ≡ Mark Depth
  row-node-deep u n deep = node-is u n ∙ ap (λ b. if b then Mark Depth else first_or (first_of (map (λ r. rule_items p r (reduced p.signature u) n) (unlabelled p))) (Res (reduced p.signature u) n)) (lt-ltb max_depth (depth u) deep)

  pub row-node : (u : Term) (n : ℕ) → depth u ≤ max_depth → node_item p u n
      ≡ first_or (first_of (map (λ r. rule_items p r (reduced p.signature u) n) (unlabelled p))) (Res (reduced p.signature u) n)
  row-node u n flat = node-is u n ∙ ap (λ b. if b then Mark Depth else first_or (first_of (map (λ r. rule_items p r (reduced p.signature u) n) (unlabelled p))) (Res (reduced p.signature u) n)) (le-ltb max_depth (depth u) flat)

  -- ---- conditions

  pub row-no_conditions : (a : List Term) (n : ℕ) → clause_entries p [] a n ≡ At a n ∷ []
  unfolding meaning.clauses
  row-no_conditions a n = refl

  if-is : (t : Pattern) (cs : List Clause) (a : List Term) (n : ℕ)
      → clause_entries p (If t ∷ cs) a n ≡ meaning.if_true p (meant p) (normal_item p t a n) (clause_entries p cs a)
  unfolding meaning.clauses
  if-is t cs a n =
      entries (If t ∷ cs) a n
      ∙ ap (λ f. meaning.if_true p (meant p) (f t a n) (meaning.clauses p (meant p) cs a)) (normal-fixed p)
      ∙ ap (λ f. meaning.if_true p (meant p) (normal_item p t a n) (f cs a)) (clauses-fixed p)

  pub row-if-mark : (t : Pattern) (cs : List Clause) (a : List Term) (n : ℕ) (c : Cause) → normal_item p t a n ≡ Mark c
      → clause_entries p (If t ∷ cs) a n ≡ Stop c ∷ []
  row-if-mark t cs a n c e = if-is t cs a n ∙ ap (λ i. meaning.if_true p (meant p) i (clause_entries p cs a)) e

  pub row-if-true : (t : Pattern) (cs : List Clause) (a : List Term) (n : ℕ) (u : Term) (m : ℕ) → normal_item p t a n ≡ Res u m
      → is_true p.signature.truth u ≡ true → clause_entries p (If t ∷ cs) a n ≡ clause_entries p cs a m
  row-if-true t cs a n u m e holds =
      if-is t cs a n ∙ ap (λ i. meaning.if_true p (meant p) i (clause_entries p cs a)) e
      ∙ ap (λ b. if b then clause_entries p cs a m else []) holds

  pub row-if-other : (t : Pattern) (cs : List Clause) (a : List Term) (n : ℕ) (u : Term) (m : ℕ) → normal_item p t a n ≡ Res u m
      → is_true p.signature.truth u ≡ false → clause_entries p (If t ∷ cs) a n ≡ []
  row-if-other t cs a n u m e other =
      if-is t cs a n ∙ ap (λ i. meaning.if_true p (meant p) i (clause_entries p cs a)) e
      ∙ ap (λ b. if b then clause_entries p cs a m else []) other

  -- the results of a condition's strategy, each with the matches of the condition's left side
  sought_rows : Pattern → Strategy → List Clause → List Term → Term → ℕ → List Entry
  sought_rows left s cs a u m =
      rows_of (strategy_items p s u m) (λ v k. flat_map (λ b. clause_entries p cs (a ++ b) k) (matches (shapes_of p.signature) left v))

  where-is : (left : Pattern) (s : Strategy) (t : Pattern) (cs : List Clause) (a : List Term) (n : ℕ)
      → clause_entries p (Where left s t ∷ cs) a n ≡ meaning.if_result p (meant p) (normal_item p t a n) (sought_rows left s cs a)
  unfolding meaning.clauses meaning.sought meaning.found matched sought_rows
  where-is left s t cs a n =
      entries (Where left s t ∷ cs) a n
      ∙ ap (λ f. meaning.if_result p (meant p) (f t a n) (meaning.sought p (meant p) left s (meaning.clauses p (meant p) cs) a)) (normal-fixed p)
      ∙ ap (λ f. meaning.if_result p (meant p) (normal_item p t a n) (meaning.sought p (meant p) left s (f cs) a)) (clauses-fixed p)
      ∙ ap (λ f. meaning.if_result p (meant p) (normal_item p t a n)
      (λ u m. rows_of (f s u m) (λ v k. flat_map (λ b. clause_entries p cs (a ++ b) k) (matches (shapes_of p.signature) left v)))) (strategy-fixed p)

  pub row-where-mark : (left : Pattern) (s : Strategy) (t : Pattern) (cs : List Clause) (a : List Term) (n : ℕ) (c : Cause)
      → normal_item p t a n ≡ Mark c → clause_entries p (Where left s t ∷ cs) a n ≡ Stop c ∷ []
  row-where-mark left s t cs a n c e = where-is left s t cs a n ∙ ap (λ i. meaning.if_result p (meant p) i (sought_rows left s cs a)) e

  pub row-where : (left : Pattern) (s : Strategy) (t : Pattern) (cs : List Clause) (a : List Term) (n : ℕ) (u : Term) (m : ℕ)
      → normal_item p t a n ≡ Res u m → clause_entries p (Where left s t ∷ cs) a n
      ≡ rows_of (strategy_items p s u m) (λ v k. flat_map (λ b. clause_entries p cs (a ++ b) k) (matches (shapes_of p.signature) left v))
  unfolding sought_rows
  row-where left s t cs a n u m e = where-is left s t cs a n ∙ ap (λ i. meaning.if_result p (meant p) i (sought_rows left s cs a)) e

  -- ---- rules

  pub row-rule-out : (r : Rule) (t : Term) → rule_items p r t 0 ≡ map (λ a. Mark Steps) (matches (shapes_of p.signature) r.left t)
  unfolding meaning.apply
  row-rule-out r t = ap (λ f. f r t 0) (sym (apply-fixed p)) ∙ each (matches (shapes_of p.signature) r.left t)
    where
      each : (bs : List (List Term)) → flat_map (λ a. Mark Steps ∷ []) bs ≡ map (λ a. Mark Steps) bs
      each [] = refl
      each (b ∷ bs) = ap (λ is. Mark Steps ∷ is) (each bs)

  pub row-rule : (r : Rule) (t : Term) (n : ℕ) → rule_items p r t (suc n)
      ≡ flat_map (λ a. items_of (clause_entries p r.clauses a n) (λ b m. normal_item p r.right b m ∷ [])) (matches (shapes_of p.signature) r.left t)
  unfolding meaning.apply
  row-rule r t n = ap (λ f. f r t (suc n)) (sym (apply-fixed p))

  -- ---- strategies

  pub row-id : (t : Term) (n : ℕ) → strategy_items p (made kind.Id) t n ≡ Res t n ∷ []
  row-id t n = items (made kind.Id) t n ∙ strategy-id p (meant p) (made kind.Id) t n refl

  pub row-fail : (t : Term) (n : ℕ) → strategy_items p (made kind.Fail) t n ≡ []
  row-fail t n = items (made kind.Fail) t n ∙ strategy-fail p (meant p) (made kind.Fail) t n refl

  labels : (ks : List ℕ) (t : Term) (n : ℕ) → strategy_items p (made (kind.Label ks)) t n ≡ flat_map (meaning.apply_number p (meant p) t n) ks
  labels ks t n = items (made (kind.Label ks)) t n ∙ strategy-label p (meant p) (made (kind.Label ks)) t n ks refl

  pub row-label-none : (t : Term) (n : ℕ) → strategy_items p (made (kind.Label [])) t n ≡ []
  row-label-none t n = labels [] t n

  pub row-label : (k : ℕ) (ks : List ℕ) (r : Rule) (t : Term) (n : ℕ) → slice_get p.rules k ≡ Some r
      → strategy_items p (made (kind.Label (k ∷ ks))) t n ≡ rule_items p r t n ++ strategy_items p (made (kind.Label ks)) t n
  unfolding meaning.apply_number
  row-label k ks r t n e =
      labels (k ∷ ks) t n
      ∙ ap (λ o. meaning.apply_found p (meant p) t n o ++ flat_map (meaning.apply_number p (meant p) t n) ks) e
      ∙ ap (λ f. f r t n ++ flat_map (meaning.apply_number p (meant p) t n) ks) (apply-fixed p)
      ∙ ap (λ is. rule_items p r t n ++ is) (sym (labels ks t n))

  pub row-sequence-none : (t : Term) (n : ℕ) → strategy_items p (made (kind.Seq [])) t n ≡ Res t n ∷ []
  row-sequence-none t n = items (made (kind.Seq [])) t n ∙ strategy-seq p (meant p) (made (kind.Seq [])) t n [] refl

  pub row-sequence : (s : Strategy) (ss : List Strategy) (t : Term) (n : ℕ)
      → strategy_items p (made (kind.Seq (s ∷ ss))) t n ≡ on_results (strategy_items p s t n) (strategy_items p (made (kind.Seq ss)))
  row-sequence s ss t n =
      items (made (kind.Seq (s ∷ ss))) t n ∙ strategy-seq p (meant p) (made (kind.Seq (s ∷ ss))) t n (s ∷ ss) refl
      ∙ ap (on_results (meaning.strategy p (meant p) s t n))
      (fun_ext λ u. fun_ext λ m. sym (strategy-seq p (meant p) (made (kind.Seq ss)) u m ss refl))
      ∙ ap (λ f. on_results (f s t n) (f (made (kind.Seq ss)))) (strategy-fixed p)

  pub row-all : (ss : List Strategy) (t : Term) (n : ℕ)
      → strategy_items p (made (kind.All ss)) t n ≡ flat_map (λ s. strategy_items p s t n) ss
  unfolding meaning.strategy_on
  row-all ss t n =
      items (made (kind.All ss)) t n ∙ strategy-all p (meant p) (made (kind.All ss)) t n ss refl
      ∙ ap (λ f. flat_map (λ s. f s t n) ss) (strategy-fixed p)

  firsts : (one : Bool) (ss : List Strategy) (t : Term) (n : ℕ)
      → strategy_items p (made (kind.First one ss)) t n ≡ chosen one (first_of (map (λ s. strategy_items p s t n) ss))
  unfolding meaning.strategy_on
  firsts one ss t n =
      items (made (kind.First one ss)) t n ∙ strategy-first p (meant p) (made (kind.First one ss)) t n one ss refl
      ∙ ap (λ f. chosen one (first_of (map (λ s. f s t n) ss))) (strategy-fixed p)

  pub row-first : (ss : List Strategy) (t : Term) (n : ℕ)
      → strategy_items p (made (kind.First false ss)) t n ≡ first_of (map (λ s. strategy_items p s t n) ss)
  unfolding chosen
  row-first ss t n = firsts false ss t n

  pub row-first-one : (ss : List Strategy) (t : Term) (n : ℕ)
      → strategy_items p (made (kind.First true ss)) t n ≡ head (first_of (map (λ s. strategy_items p s t n) ss))
  unfolding chosen
  row-first-one ss t n = firsts true ss t n

  calls : (d : ℕ) (actuals : List Strategy) (t : Term) (n : ℕ)
      → strategy_items p (made (kind.Call d actuals)) t n ≡ meaning.call p (meant p) (slice_get p.named d) actuals t n
  calls d actuals t n = items (made (kind.Call d actuals)) t n ∙ strategy-call p (meant p) (made (kind.Call d actuals)) t n d actuals refl

  pub row-call-out : (d : ℕ) (actuals : List Strategy) (t : Term) → strategy_items p (made (kind.Call d actuals)) t 0 ≡ Mark Steps ∷ []
  row-call-out d actuals t = calls d actuals t 0

  pub row-call : (d : ℕ) (actuals : List Strategy) (b : Named) (t : Term) (n : ℕ) → slice_get p.named d ≡ Some b
      → strategy_items p (made (kind.Call d actuals)) t (suc n) ≡ strategy_items p (with_actuals actuals b.body) t n
  row-call d actuals b t n e = calls d actuals t (suc n) ∙ ap (λ o. meaning.call p (meant p) o actuals t (suc n)) e

  pub row-param : (k : ℕ) (t : Term) (n : ℕ) → strategy_items p (made (kind.Param k)) t n ≡ []
  row-param k t n = items (made (kind.Param k)) t n ∙ strategy-param p (meant p) (made (kind.Param k)) t n k refl

  module _ (s : Strategy) (t : Term) where
    repeats : (n : ℕ) → strategy_items p (made (kind.Repeat s)) t n ≡ meaning.repeat p (meant p) s t n
    repeats n = items (made (kind.Repeat s)) t n ∙ strategy-repeat p (meant p) (made (kind.Repeat s)) t n s refl

    pub row-repeat-out : strategy_items p (made (kind.Repeat s)) t 0 ≡ Mark Steps ∷ []
    row-repeat-out = repeats 0

    pub row-repeat-end : (n : ℕ) → strategy_items p s t n ≡ [] → strategy_items p (made (kind.Repeat s)) t (suc n) ≡ Res t n ∷ []
    row-repeat-end n e = repeats (suc n) ∙ ap (meaning.repeat_or p (meant p) s t n) e

    pub row-repeat : (n : ℕ) (i : Item) (is : List Item) → strategy_items p s t n ≡ i ∷ is
        → strategy_items p (made (kind.Repeat s)) t (suc n) ≡ on_results (i ∷ is) (strategy_items p (made (kind.Repeat s)))
    row-repeat n i is e = repeats (suc n) ∙ ap (meaning.repeat_or p (meant p) s t n) e

    iterates : (n : ℕ) → strategy_items p (made (kind.Iterate s)) t n ≡ meaning.iterate p (meant p) s t n
    iterates n = items (made (kind.Iterate s)) t n ∙ strategy-iterate p (meant p) (made (kind.Iterate s)) t n s refl

    pub row-iterate-out : strategy_items p (made (kind.Iterate s)) t 0 ≡ Mark Steps ∷ []
    row-iterate-out = iterates 0

    pub row-iterate : (n : ℕ) → strategy_items p (made (kind.Iterate s)) t (suc n)
        ≡ Res t n ∷ on_results (strategy_items p s t n) (strategy_items p (made (kind.Iterate s)))
    row-iterate n = iterates (suc n)

    iterates_plus : (n : ℕ) → strategy_items p (made (kind.IteratePlus s)) t n ≡ meaning.iterate_plus p (meant p) s t n
    iterates_plus n = items (made (kind.IteratePlus s)) t n ∙ strategy-iterate_plus p (meant p) (made (kind.IteratePlus s)) t n s refl

    pub row-iterate_plus-out : strategy_items p (made (kind.IteratePlus s)) t 0 ≡ Mark Steps ∷ []
    row-iterate_plus-out = iterates_plus 0

    pub row-iterate_plus : (n : ℕ) → strategy_items p (made (kind.IteratePlus s)) t (suc n)
        ≡ on_results (strategy_items p s t n) (strategy_items p (made (kind.Iterate s)))
    row-iterate_plus n = iterates_plus (suc n)

    pub row-normalise : (sort : SortId) (n : ℕ) → strategy_items p (made (kind.Normalise sort s)) t n
        ≡ on_results (position_items p sort s t n) (λ u m. normal_item p (pattern_of u) [] m ∷ [])
    unfolding meaning.normal_term
    row-normalise sort n =
        items (made (kind.Normalise sort s)) t n ∙ strategy-normalise p (meant p) (made (kind.Normalise sort s)) t n sort s refl
        ∙ ap (λ f. on_results (f sort s t n) (meaning.normal_term p (meant p))) (positions-fixed p)
        ∙ ap (λ f. on_results (position_items p sort s t n) (λ u m. f (pattern_of u) [] m ∷ [])) (normal-fixed p)

  pub row-congruence-integer : (op : OpId) (ss : List Strategy) (z : ℤ) (n : ℕ) → strategy_items p (made (kind.Cong op ss)) (int_term z) n ≡ []
  row-congruence-integer op ss z n =
      items (made (kind.Cong op ss)) (int_term z) n ∙ strategy-cong-int p (meant p) (made (kind.Cong op ss)) (int_term z) n op ss z refl refl

  congruent-is : (op : OpId) (ss : List Strategy) (headed : OpId) (us : List Term) (n : ℕ)
      → strategy_items p (made (kind.Cong op ss)) (app_term headed us) n
      ≡ (if op.0 == headed.0 then items_of (rows (paired (map (strategy_items p) ss) us) n) (λ vs m. normal_item p (pattern_of (app_term op vs)) [] m ∷ []) else [])
  unfolding meaning.normal_app meaning.normal_term
  congruent-is op ss headed us n =
      items (made (kind.Cong op ss)) (app_term headed us) n
      ∙ strategy-cong-app p (meant p) (made (kind.Cong op ss)) (app_term headed us) n op ss headed us refl refl
      ∙ ap (λ f. if op.0 == headed.0 then items_of (rows (paired (map f ss) us) n) (meaning.normal_app p (meant p) op) else []) (strategy-fixed p)
      ∙ ap (λ f. if op.0 == headed.0 then items_of (rows (paired (map (strategy_items p) ss) us) n) (λ vs m. f (pattern_of (app_term op vs)) [] m ∷ []) else [])
      (normal-fixed p)

  pub row-congruence-other : (op : OpId) (ss : List Strategy) (headed : OpId) (us : List Term) (n : ℕ) → (op.0 ≡ headed.0 → ⊥)
      → strategy_items p (made (kind.Cong op ss)) (app_term headed us) n ≡ []
  row-congruence-other op ss headed us n other =
      congruent-is op ss headed us n ∙ ap (λ b. if b then items_of (rows (paired (map (strategy_items p) ss) us) n) (λ vs m. normal_item p (pattern_of (app_term op vs)) [] m ∷ []) else []) (ne_eqb op.0 headed.0 other)

  -- each strategy on the argument of its place
  paired-zip : (ss : List Strategy) (us : List Term) → paired (map (strategy_items p) ss) us ≡ map (λ x. strategy_items p x.0 x.1) (zip ss us)
  paired-zip [] us = refl
  paired-zip (s ∷ ss) [] = refl
  paired-zip (s ∷ ss) (u ∷ us) = ap (λ fs. strategy_items p s u ∷ fs) (paired-zip ss us)

  pub row-congruence : (op : OpId) (ss : List Strategy) (us : List Term) (n : ℕ)
      → strategy_items p (made (kind.Cong op ss)) (app_term op us) n
      ≡ items_of (rows (map (λ x. strategy_items p x.0 x.1) (zip ss us)) n) (λ vs m. normal_item p (pattern_of (app_term op vs)) [] m ∷ [])
  row-congruence op ss us n =
      congruent-is op ss op us n
      ∙ ap (λ b. if b then items_of (rows (paired (map (strategy_items p) ss) us) n) (λ vs m. normal_item p (pattern_of (app_term op vs)) [] m ∷ []) else [])
      (eq-eqb op.0 op.0 refl)
      ∙ ap (λ fs. items_of (rows fs n) (λ vs m. normal_item p (pattern_of (app_term op vs)) [] m ∷ [])) (paired-zip ss us)

  -- ---- positions

  module _ (sort : SortId) (s : Strategy) where
    pub row-places-integer : (z : ℤ) (n : ℕ) → position_items p sort s (int_term z) n ≡ place_items p sort s (int_term z) n
    row-places-integer z n =
        at_places sort s (int_term z) n ∙ positions-int p (meant p) sort s (int_term z) n z refl
        ∙ ap (λ f. f sort s (int_term z) n) (placed-fixed p)

    pub row-places : (op : OpId) (us : List Term) (n : ℕ) → position_items p sort s (app_term op us) n
        ≡ items_of (rows (map (position_items p sort s) us) n) (λ vs m. place_items p sort s (node (shapes_of p.signature) op vs) m)
    unfolding meaning.placed_node
    row-places op us n =
        at_places sort s (app_term op us) n ∙ positions-app p (meant p) sort s (app_term op us) n op us refl
        ∙ ap (λ f. items_of (rows (map (f sort s) us) n) (meaning.placed_node p (meant p) sort s op)) (positions-fixed p)
        ∙ ap (λ f. items_of (rows (map (position_items p sort s) us) n) (λ vs m. f sort s (node (shapes_of p.signature) op vs) m)) (placed-fixed p)

    module _ (u : Term) where
      -- a place, by its depth and its sort
      place-is : (n : ℕ) → place_items p sort s u n
          ≡ (if nat_lt max_depth (depth u) then Mark Depth ∷ []
          else (if is_sort (sort_of (shapes_of p.signature) u) sort then meaning.at_node p (meant p) sort s u n else Res u n ∷ []))
      unfolding meaning.placed
      place-is n = ap (λ f. f sort s u n) (sym (placed-fixed p))

      pub row-place-deep : (n : ℕ) → max_depth < depth u → place_items p sort s u n ≡ Mark Depth ∷ []
      row-place-deep n deep = place-is n ∙ ap (λ b. if b then Mark Depth ∷ [] else (if is_sort (sort_of (shapes_of p.signature) u) sort then meaning.at_node p (meant p) sort s u n else Res u n ∷ [])) (lt-ltb max_depth (depth u) deep)

      not_deep : (n : ℕ) → depth u ≤ max_depth → place_items p sort s u n
          ≡ (if is_sort (sort_of (shapes_of p.signature) u) sort then meaning.at_node p (meant p) sort s u n else Res u n ∷ [])
      not_deep n flat = place-is n ∙ ap (λ b. if b then Mark Depth ∷ [] else (if is_sort (sort_of (shapes_of p.signature) u) sort then meaning.at_node p (meant p) sort s u n else Res u n ∷ [])) (le-ltb max_depth (depth u) flat)

      pub row-place-elsewhere : (n : ℕ) → depth u ≤ max_depth → is_sort (sort_of (shapes_of p.signature) u) sort ≡ false
          → place_items p sort s u n ≡ Res u n ∷ []
      row-place-elsewhere n flat other = not_deep n flat ∙ ap (λ b. if b then meaning.at_node p (meant p) sort s u n else Res u n ∷ []) other

      here : (n : ℕ) → depth u ≤ max_depth → is_sort (sort_of (shapes_of p.signature) u) sort ≡ true
          → place_items p sort s u n ≡ meaning.at_node p (meant p) sort s u n
      here n flat same = not_deep n flat ∙ ap (λ b. if b then meaning.at_node p (meant p) sort s u n else Res u n ∷ []) same

      pub row-place-out : depth u ≤ max_depth → is_sort (sort_of (shapes_of p.signature) u) sort ≡ true
          → place_items p sort s u 0 ≡ Mark Steps ∷ []
      row-place-out flat same = here 0 flat same

      pub row-place-end : (n : ℕ) → depth u ≤ max_depth → is_sort (sort_of (shapes_of p.signature) u) sort ≡ true
          → strategy_items p s u n ≡ [] → place_items p sort s u (suc n) ≡ Res u n ∷ []
      row-place-end n flat same e = here (suc n) flat same ∙ ap (meaning.again_or p (meant p) sort s u n) e

      pub row-place : (n : ℕ) (i : Item) (is : List Item) → depth u ≤ max_depth
          → is_sort (sort_of (shapes_of p.signature) u) sort ≡ true → strategy_items p s u n ≡ i ∷ is
          → place_items p sort s u (suc n) ≡ on_results (i ∷ is) (position_items p sort s)
      row-place n i is flat same e = here (suc n) flat same ∙ ap (meaning.again_or p (meant p) sort s u n) e

  -- ---- answers

  pub row-answers : (start : Strategy) (query : Pattern) (n : ℕ)
      → answers p start query n ≡ on_results (normal_item p query [] n ∷ []) (strategy_items p start)
  unfolding answers
  row-answers start query n = from (normal_item p query [] n) (normal_left p n query [])
    where
      from : (i : Item) → AtMost n (i ∷ []) → on_results (i ∷ []) ((within p n).strategy start) ≡ on_results (i ∷ []) (strategy_items p start)
      from (Res t m) low = ap (λ is. is ++ []) (enough p start t m n low.0)
      from (Mark c) low = refl

-- ---- the lesser of the steps left and the steps that a list was made with

lesser : (m n : ℕ) → m ≤ n → min m n ≡ m
lesser m n le = min-eq_left le

pub lowered-same : (n : ℕ) (is : List Item) → AtMost n is → lowered n is ≡ is
lowered-same n [] low = refl
lowered-same n (Res t m ∷ is) low = ap (λ k. Res t k ∷ lowered n is) (lesser m n low.0) ∙ ap (λ js. Res t m ∷ js) (lowered-same n is low.1)
lowered-same n (Mark c ∷ is) low = ap (λ js. Mark c ∷ js) (lowered-same n is low)

pub lowered_rows-same : (n : ℕ) (es : List Entry) → AtMostRows n es → lowered_rows n es ≡ es
lowered_rows-same n [] low = refl
lowered_rows-same n (At ts m ∷ es) low = ap (λ k. At ts k ∷ lowered_rows n es) (lesser m n low.0) ∙ ap (λ fs. At ts m ∷ fs) (lowered_rows-same n es low.1)
lowered_rows-same n (Stop c ∷ es) low = ap (λ fs. Stop c ∷ fs) (lowered_rows-same n es low)
