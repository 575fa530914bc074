-- What is checked is valid: texts, strategies, conditions, rules and definitions.
use Rattle.std.proofs.lemmas.Grind.{common_steps}
use Rattle.elan_program.specs.declared.strategy.StrategyNode.TheVariants as made
use Rattle.elan_program.specs.Extension.{var_pattern}
use Rattle.elan_names.specs.declared.heads.Label.{Label}
use Rattle.elan_names.specs.declared.heads.Head.{Head}
use Rattle.std.proofs.Common.{append_assoc, append-nil, ◌≡◌, refl, sym, ap, subst, ◌∙◌, ℕ, ◌+◌, ◌<◌, ◌≤◌, ◌^◌, ◌==◌, Bool, true, false, ◌&&◌, List, [], ◌∷◌, ◌++◌, length, map, arith}
use Rattle.std.proofs.lemmas.Option.{slice_get-map}
use Rattle.std.specs.Prelude.{Option, Some, None, Result, Ok, Err, if◌then◌else◌, nat_lt, not, slice_get, slice_range, ℤ}
use Rattle.std.specs.List.{list_all, list_any}
use Rattle.std.specs.Option.{option_map}
use Rattle.elan_text.specs.declared.refusal.Code.{Code}
use Rattle.elan_terms.specs.declared.tree.OpId.{OpId}
use Rattle.elan_terms.specs.declared.tree.SortId.{SortId}
use Rattle.elan_terms.specs.declared.tree.Shape.{Shape}
use Rattle.elan_terms.specs.declared.tree.Pattern.{Pattern}
use Rattle.elan_terms.specs.declared.tree.PatternNode as pattern
use Rattle.elan_terms.specs.Trees.{fold_pattern_row}
use Rattle.elan_terms.specs.Match.{is_sort, occurrences, variables}
use Rattle.elan_program.specs.declared.signature.Signature.{Signature}
use Rattle.elan_program.specs.declared.signature.Truth.{Truth}
use Rattle.elan_program.specs.declared.signature.Operator.{Operator}
use Rattle.elan_program.specs.Signature.{shapes_of, shape_of}
use Rattle.elan_program.specs.Soundness.{most, has_sort_id, truth_sort, holes}
use Rattle.elan_program.specs.Patterns.{pattern_sort, sort_of_int, sort_over, args_fit, is_in_range, uses}
use Rattle.elan_program.specs.declared.strategy.Scope.TheVariants.{Inside}
use Rattle.elan_names.specs.declared.fault.Fault.{Fault}
use Rattle.elan_names.specs.declared.heads.Names.{Names}
use Rattle.elan_phrases.specs.declared.plan.Plan.{Plan}
use Rattle.elan_phrases.specs.declared.plan.Planned.{Planned}
use Rattle.elan_program.specs.declared.strategy.Strategy.{Strategy}
use Rattle.elan_names.specs.Resolved.{Site, Body, next, resolved}
use Rattle.elan_names.specs.Names.{is_taken}
use Rattle.elan_names.specs.Valid.{IsNamedBy, IsKnownAt, scope_in, named_part, head_part}
use Rattle.elan_names.proofs.ValidLemmas.{plan_good}
use Rattle.elan_modules.specs.declared.flat.LoadedText.{LoadedText}
use Rattle.elan_phrases.specs.declared.span.Span.{Span}
use Rattle.elan_syntax.specs.declared.parts.RuleOutline.{RuleOutline}
use Rattle.elan_syntax.specs.declared.parts.Definition.{Definition as DefinitionOutline}
use Rattle.elan_syntax.specs.declared.parts.ClauseOutline.{ClauseOutline}
use Rattle.elan_syntax.specs.declared.parts.ClauseOutline.TheVariants as written
use Rattle.elan_program.specs.declared.program.Clause.{Clause}
use Rattle.elan_program.specs.declared.program.Clause.TheVariants.{If, Where}
use Rattle.elan_program.specs.declared.program.Rule.{Rule}
use Rattle.elan_program.specs.declared.program.Named.{Named}
use Rattle.elan_reading.specs.declared.lexeme.Variable.{Variable}
use Rattle.elan_reading.specs.declared.sought.Sought.{Sought}
use Rattle.elan_reading.specs.declared.sought.Sought.TheVariants.{Sort, Any}
use Rattle.elan_clauses.specs.Refusals.{Checked, refusal_at, name_at}
use Rattle.elan_clauses.specs.Texts.{Reader, Bound, plan_of, at_text, unless, text_as, truth_as, closed, fresh, sort_of, sort_or_none, head_sort, made_by, is_numbered_in}
use Rattle.elan_clauses.specs.Rules.{numbered_rule, checked_if, checked_left, checked_start, checked_where, checked_clause, checked_clauses, checked_rule, strategy_in, at_token, checked_definition, resolved_in, none_seen, second_of, once_or}
use Rattle.elan_modules.specs.Sorts.{word_at}
use Rattle.elan_program.specs.Validity.{is_truth, are_joined, is_valid_strategy, is_valid_rule, is_valid_named}
use Rattle.elan_program.specs.declared.program.Parts.{Parts}
use Rattle.elan_program.specs.Soundness.{is_sound}
use Rattle.elan_clauses.specs.Offered.{is_declared, are_declared, IsOf, ReadsWell}
use Rattle.elan_clauses.proofs.NumberLemmas.{left_true, right_true, both_true, nat_same}
use Rattle.elan_clauses.proofs.RuleLemmas.{same_ok, no_ok, went_on, was_read, was_good, not_true, Chain, chain_more, sort_in, TestFits, LeftFits, RuleFits, rule_few, rule_numbered}

pub was_once : {A : Type 0} (text : LoadedText) (twice : Option ℕ) (more : Checked A) (a : A) → once_or text twice more ≡ Ok a → more ≡ Ok a
was_once text None more a e = e
was_once text (Some t) more a e = absurd (no_ok e)

-- ---- what is checked has the sort that is written

-- the sort of a definition that is written, and how many parameters it has
abbrev pub part_of : SortId → DefinitionOutline → SortId × ℕ
part_of sort d = (sort, length d.parameters)

-- the body of a definition
abbrev pub body_of : SortId → DefinitionOutline → Body
body_of sort d = record { parameters = d.parameters; sort = sort }

-- a rule that was checked has the sort of its section
pub rule_sort : (read : Reader) (g : Signature) (names : Names) (text : LoadedText) (declared : List Variable) (sort : SortId) (r : RuleOutline) (found : Rule × Bound)
    → checked_rule read g names text declared sort r ≡ Ok found → (numbered_rule found).sort ≡ sort
rule_sort read g names text declared sort r found e =
    let left = went_on (text_as read g text declared (Sort sort) r.left) _ found e in
    let right = went_on (text_as read g text declared (Sort sort) r.right) _ found left.1.1 in
    let clauses = went_on (checked_clauses read g names text declared [] (variables left.0) r.clauses) _ found right.1.1 in
    let right_too = went_on (closed text r.right clauses.0.1 right.0) _ found clauses.1.1 in
    ap (λ f. f.0.sort) (sym (same_ok right_too.1.1))

-- a definition that was checked has the sort of its section, and as many parameters as are written
pub named_sort : (read : Reader) (g : Signature) (names : Names) (text : LoadedText) (before : ℕ) (sort : SortId) (d : DefinitionOutline) (n : Named)
    → checked_definition read g names text before sort d ≡ Ok n → named_part n ≡ part_of sort d
named_sort read g names text before sort d n e =
    let body = went_on (strategy_in g names text (Some (body_of sort d)) sort (Some d.by)) _ n
    (was_once text (second_of text none_seen d.parameters) _ n (was_once text (if is_taken names before sort (word_at text d.name) then Some d.name else None) _ n e)) in
    ap named_part (sym (same_ok body.1.1))

-- ---- the sort of what was read

abbrev un_some : {A : Type 0} → A → Option A → A
un_some other (Some a) = a
un_some other None = other

no_some : {A : Type 0} {a : A} → None ≡ Some a → ⊥
no_some e = cc

module _ (g : Signature) where
  sort_made : (o : Option Operator) (found : List (Option SortId)) (s : SortId) → sort_over (option_map shape_of o) found ≡ Some s → made_by o ≡ Some s
  sort_made None found s e = absurd (no_some e)
  sort_made (Some o) found s e = go (args_fit (shape_of o) found) e
    where
      go : (b : Bool) → (if b then Some o.sort else None) ≡ Some s → Some o.sort ≡ Some s
      go true e = e
      go false e = absurd (no_some e)

  sort_node : (n : pattern.PatternNode) (s : SortId) → pattern_sort (shapes_of g) (record { node = n }) ≡ Some s → head_sort g n ≡ Some s
  unfolding pattern_sort shapes_of sort_of_int
  sort_node (pattern.Var x t) s e = e
  sort_node (pattern.Int z) s e = go (is_in_range z) e
    where
      go : (b : Bool) → (if b then g.int else None) ≡ Some s → g.int ≡ Some s
      go true e = e
      go false e = absurd (no_some e)
  sort_node (pattern.App' op shape row) s e =
      sort_made (slice_get g.operators op.0) (fold_pattern_row (λ x s. Some s) (sort_of_int (shapes_of g)) (λ op found. sort_over (slice_get (shapes_of g).shapes op.0) found) row) s
      (ap (λ o. sort_over o (fold_pattern_row (λ x s. Some s) (sort_of_int (shapes_of g)) (λ op found. sort_over (slice_get (shapes_of g).shapes op.0) found) row)) (sym (slice_get-map shape_of g.operators op.0)) ∙ e)

  there_is : (d : Option SortId) (s : SortId) → sort_or_none d ≡ Ok s → d ≡ Some s
  there_is None s e = absurd (no_ok e)
  there_is (Some t) s e = ap Some (same_ok e)

  -- the sort that was found is that of what was read
  any_sort : (text : LoadedText) (at : Span) (p : Pattern) (s : SortId) → IsOf g Any p → sort_of g text at p ≡ Ok s → pattern_sort (shapes_of g) p ≡ Some s
  any_sort text at p s valid e = valid.1 ∙ sym (sort_node p.node valid.0 valid.1) ∙ there_is (head_sort g p.node) s (was_read text at (sort_or_none (head_sort g p.node)) s e)

module _ (read : Reader) (g : Signature) (names : Names) (rs : List Rule) (ns : List Named) (named : IsNamedBy (record { signature = g; rules = rs; named = ns }) names) (sound : is_sound g ≡ true) where
  abbrev w : Parts
  w = record { signature = g; rules = rs; named = ns }

  -- ---- strategies

  token_read : (text : LoadedText) (r : Result Strategy Fault) (s : Strategy) → at_token text r ≡ Ok s → r ≡ Ok s
  token_read text (Ok t) s e = ap Ok (same_ok e)
  token_read text (Err f) s e = absurd (no_ok e)

  pub strategy_fits : (text : LoadedText) (body : Option Body) (sort : SortId) (by : Option Planned) (s : Strategy)
      → strategy_in g names text body sort by ≡ Ok s → is_valid_strategy w (scope_in body) s sort ≡ true
  strategy_fits text body sort by s e =
      plan_good w sc (record { operators = refl; named = named }) sound (plan_of by) sort s (token_read text (resolved sc (plan_of by) sort) s e)
    where
      sc : Site
      sc = record { bytes = text.bytes; tokens = text.tokens; names = names; operators = g.operators; body = body }

  module _ (text : LoadedText) (declared : List Variable) (reads : ReadsWell read g text) where
    pub text_fits : (sought : Sought) (at : Span) (p : Pattern) → text_as read g text declared sought at ≡ Ok p → IsOf g sought p × (list_all (is_declared declared) (occurrences p) ≡ true)
    text_fits sought at p e = reads declared sought at p (was_read text at (read.reading g declared sought text.bytes (slice_range text.tokens at.first at.past)) p e)

    truth_fits : (truth : Option Truth) (at : Span) (p : Pattern) → truth_as read g text declared truth at ≡ Ok p → is_truth (truth_sort truth) (pattern_sort (shapes_of g) p) ≡ true
    truth_fits None at p e = absurd (no_ok e)
    truth_fits (Some t) at p e = ap (λ d. is_sort d t.sort) (text_fits (Sort t.sort) at p e).0 ∙ nat_same t.sort.0

    -- ---- conditions

    -- the strategy of a `where` is valid at the sort of the term from which it starts
    start_fits : (bound : Bound) (sort : SortId) (by : Option Planned) (at : Span) (found : Strategy × Pattern) → checked_start read g names text declared bound sort by at ≡ Ok found
        → (uses bound found.1 ≡ true) × (are_joined w (Some sort) (pattern_sort (shapes_of g) found.1) found.0 ≡ true)
    start_fits bound sort by at found e =
        let s = went_on (strategy_in g names text None sort by) _ found e in
        let of = went_on (text_as read g text declared (Sort sort) at) _ found s.1.1 in
        let of_too = went_on (closed text at bound of.0) _ found of.1.1 in
        let bound_all = was_good text at _ (not (uses bound of.0)) of.0 of_too.0 of_too.1.0 in
        let reading = text_fits (Sort sort) at of.0 of.1.0 in
        subst (λ f. (uses bound f.1 ≡ true) × (are_joined w (Some sort) (pattern_sort (shapes_of g) f.1) f.0 ≡ true)) (same_ok of_too.1.1)
        (subst (λ q. (uses bound q ≡ true) × (are_joined w (Some sort) (pattern_sort (shapes_of g) q) s.0 ≡ true)) bound_all.1 (
          not_true (uses bound of.0) bound_all.0,
          both_true (is_sort (pattern_sort (shapes_of g) of.0) sort) _ (ap (λ d. is_sort d sort) reading.0 ∙ nat_same sort.0) (strategy_fits text None sort by s.0 s.1.0),
        ))

    clause_fits : (bound : Bound) (c : ClauseOutline) (found : Clause × Bound) → checked_clause read g names text declared bound c ≡ Ok found
        → Chain w declared bound (found.0 ∷ []) found.1
    clause_fits bound (written.If t) found e =
        let test_too = went_on (checked_if read g names text declared bound t) _ found e in
        let test = went_on (truth_as read g text declared g.truth t) _ test_too.0 test_too.1.0 in
        let good = was_good text t _ (not (uses bound test.0)) test.0 test_too.0 test.1.1 in
        subst (λ f. Chain w declared bound (f.0 ∷ []) f.1) (same_ok test_too.1.1)
        (subst (λ p. TestFits w declared bound p × (bound ≡ bound)) good.1
        (record { used = not_true (uses bound test.0) good.0; truth = truth_fits g.truth t test.0 test.1.0 }, refl))
    clause_fits bound (written.Where p by t) found e =
        let first = went_on (checked_left read g names text declared bound p) _ found e in
        let left = went_on (text_as read g text declared Any p) _ first.0 first.1.0 in
        let left_too = went_on (fresh text p bound left.0) _ first.0 left.1.1 in
        let new = was_good text p _ (list_any (is_numbered_in bound) (variables left.0)) left.0 left_too.0 left_too.1.0 in
        let sort = went_on (sort_of g text p left_too.0) _ first.0 left_too.1.1 in
        let last = went_on (checked_start read g names text declared bound first.0.1 by t) _ found first.1.1 in
        let fits = start_fits bound first.0.1 by t last.0 last.1.0 in
        let reading = text_fits Any p left.0 left.1.0 in
        let pair = same_ok sort.1.1 in
        let the_left = new.1 ∙ ap (λ f. f.0) pair in
        let the_sort = any_sort g text p left.0 sort.0 reading.0 (ap (sort_of g text p) new.1 ∙ sort.1.0) ∙ ap (λ f. Some f.1) pair in
        subst (λ f. Chain w declared bound (f.0 ∷ []) f.1) (same_ok last.1.1)
        (subst (λ q. Chain w declared bound (Where q last.0.0 last.0.1 ∷ []) (bound ++ variables q)) the_left (
          (
            record { there = reading.1; new = new.0 },
            (fits.0, ap (λ d. are_joined w d (pattern_sort (shapes_of g) last.0.1) last.0.0) the_sort ∙ fits.1),
          ),
          refl,
        ))

    clauses_fit : (before : List Clause) (bound : Bound) (cs : List ClauseOutline) (found : List Clause × Bound) → checked_clauses read g names text declared before bound cs ≡ Ok found
        → (made : List Clause) × ((found.0 ≡ before ++ made) × Chain w declared bound made found.1)
    clauses_fit before bound [] found e = ([], (sym (ap (λ f. f.0) (same_ok e)) ∙ sym (append-nil before), ap (λ f. f.1) (same_ok e)))
    clauses_fit before bound (c ∷ cs) found e =
        let one = went_on (checked_clause read g names text declared bound c) _ found e in
        let more = clauses_fit (before ++ one.0.0 ∷ []) one.0.1 cs found one.1.1 in (
          one.0.0 ∷ more.0,
          (
            more.1.0 ∙ append_assoc before (one.0.0 ∷ []) more.0,
            chain_more w declared bound (one.0.0 ∷ []) one.0.1 more.0 found.1 (clause_fits bound c one.0 one.1.0) more.1.1,
          ),
        )

    -- ---- rules

    module _ (known : are_declared g 0 declared ≡ true) (few : nat_lt (length declared) most ≡ true) where
      rule_fits : (sort : SortId) (r : RuleOutline) (found : Rule × Bound) → has_sort_id g sort ≡ true → checked_rule read g names text declared sort r ≡ Ok found
          → RuleFits w declared known found.0 found.1
      rule_fits sort r found there e =
          let left = went_on (text_as read g text declared (Sort sort) r.left) _ found e in
          let right = went_on (text_as read g text declared (Sort sort) r.right) _ found left.1.1 in
          let clauses = went_on (checked_clauses read g names text declared [] (variables left.0) r.clauses) _ found right.1.1 in
          let right_too = went_on (closed text r.right clauses.0.1 right.0) _ found clauses.1.1 in
          let bound_all = was_good text r.right _ (not (uses clauses.0.1 right.0)) right.0 right_too.0 right_too.1.0 in
          let left_reads = text_fits (Sort sort) r.left left.0 left.1.0 in
          let right_reads = text_fits (Sort sort) r.right right.0 right.1.0 in
          let chain = clauses_fit [] (variables left.0) r.clauses clauses.0 clauses.1.0 in
          subst (λ f. RuleFits w declared known f.0 f.1) (same_ok right_too.1.1) (record {
            sort = there;
            left = left_reads.0;
            right = ap (pattern_sort (shapes_of g)) (sym bound_all.1) ∙ right_reads.0;
            there = left_reads.1;
            clauses = subst (λ cs. Chain w declared (variables left.0) cs clauses.0.1) (sym chain.1.0) chain.1.1;
            used = ap (uses clauses.0.1) (sym bound_all.1) ∙ not_true (uses clauses.0.1 right.0) bound_all.0;
          })

      -- a rule that was checked binds few variables
      pub few_bound : (sort : SortId) (r : RuleOutline) (found : Rule × Bound) → has_sort_id g sort ≡ true → checked_rule read g names text declared sort r ≡ Ok found
          → length found.1 ≤ length declared
      few_bound sort r found there e = rule_few w declared known found.0 found.1 (rule_fits sort r found there e)

      -- a rule that was checked is valid when its variables are numbered
      pub rule_valid : (sort : SortId) (r : RuleOutline) (found : Rule × Bound) → has_sort_id g sort ≡ true → checked_rule read g names text declared sort r ≡ Ok found
          → is_valid_rule w (numbered_rule found) ≡ true
      rule_valid sort r found there e = rule_numbered w declared known found.0 found.1 few (rule_fits sort r found there e)

  -- ---- definitions

  -- a definition that was checked is valid
  pub named_valid : (text : LoadedText) (before : ℕ) (sort : SortId) (d : DefinitionOutline) (n : Named) → has_sort_id g sort ≡ true
      → checked_definition read g names text before sort d ≡ Ok n → is_valid_named w n ≡ true
  unfolding is_valid_named
  named_valid text before sort d n there e =
      let body = went_on (strategy_in g names text (Some (body_of sort d)) sort (Some d.by)) _ n
      (was_once text (second_of text none_seen d.parameters) _ n (was_once text (if is_taken names before sort (word_at text d.name) then Some d.name else None) _ n e)) in
      subst (λ n. has_sort_id g n.sort && is_valid_strategy w (Inside n.parameters n.sort) n.body n.sort ≡ true) (same_ok body.1.1)
      (both_true (has_sort_id g sort) _ there (strategy_fits text (Some (body_of sort d)) sort (Some d.by) body.0 body.1.0))

-- ---- how many variables a rule binds

-- a rule and a named strategy that stand for others of their sorts
abbrev a_rule : SortId → Rule
a_rule sort = record { label = None; sort = sort; left = var_pattern 0 sort; right = var_pattern 0 sort; clauses = [] }

abbrev a_named : Head → Named
a_named h = record { name = h.name; sort = h.sort; parameters = h.parameters; body = record { node = made.Id } }

sorts_stand : (ls : List Label) → map (λ (r : Rule). r.sort) (map (λ (l : Label). a_rule l.sort) ls) ≡ map (λ (l : Label). l.sort) ls
sorts_stand [] = refl
sorts_stand (l ∷ ls) = ap (λ ss. l.sort ∷ ss) (sorts_stand ls)

heads_stand : (hs : List Head) → map named_part (map a_named hs) ≡ map head_part hs
heads_stand [] = refl
heads_stand (h ∷ hs) = ap (λ ps. head_part h ∷ ps) (heads_stand hs)

-- a rule that was checked binds fewer than 4,294,967,296 variables
pub order_few : (read : Reader) (g : Signature) (names : Names) (text : LoadedText) (declared : List Variable) (sort : SortId) (r : RuleOutline) (rule : Rule) (order : Bound)
    → is_sound g ≡ true → ReadsWell read g text → are_declared g 0 declared ≡ true → nat_lt (length declared) most ≡ true → has_sort_id g sort ≡ true
    → checked_rule read g names text declared sort r ≡ Ok (rule, order) → length order < 2 ^ 32
order_few read g names text declared sort r rule order sound reads known few there e =
    below (length order) (length declared)
    (few_bound read g names (map (λ (l : Label). a_rule l.sort) names.labels) (map a_named names.heads) (record { rules = sorts_stand names.labels; named = heads_stand names.heads }) sound
    text declared reads known few sort r (rule, order) there e) few
  where
    below : (a b : ℕ) → a ≤ b → nat_lt b most ≡ true → a < 2 ^ 32
    below a b e f = grind (arith, common_steps)
