-- A rule that was checked is valid when its variables are numbered.
use Rattle.std.proofs.Common.{append_assoc, append-nil, length-append, ◌≡◌, refl, sym, ap, subst, ◌∙◌, ℕ, zero, suc, ◌+◌, ◌<◌, ◌≤◌, ◌==◌, Bool, true, false, ◌&&◌, ◌||◌, List, [], ◌∷◌, ◌++◌, length, map, arith}
use Rattle.std.proofs.lemmas.Grind.{common_steps}
use Rattle.std.proofs.lemmas.List.{map-append, length-map}
use Rattle.std.proofs.lemmas.List.Folds.{list_all-append, list_any-append}
use Rattle.std.specs.Prelude.{Option, Some, None, Result, Ok, Err, if◌then◌else◌, nat_lt, not, slice_get}
use Rattle.std.specs.List.{list_all, list_any, flat_map}
use Rattle.std.specs.Option.{option_and_then}
use Rattle.elan_text.specs.declared.refusal.Code.{Code}
use Rattle.elan_terms.specs.declared.tree.SortId.{SortId}
use Rattle.elan_terms.specs.declared.tree.Pattern.{Pattern}
use Rattle.elan_terms.specs.Match.{is_sort, noted, new_in, occurrences, variables}
use Rattle.elan_program.specs.declared.signature.Signature.{Signature}
use Rattle.elan_program.specs.declared.signature.Truth.{Truth}
use Rattle.elan_program.specs.declared.signature.Operator.{Operator}
use Rattle.elan_program.specs.Signature.{shapes_of}
use Rattle.elan_program.specs.Soundness.{most, has_sort_id, truth_sort, holes}
use Rattle.elan_program.specs.Patterns.{pattern_sort, uses, is_bound, are_numbered, binds}
use Rattle.elan_names.specs.declared.fault.Fault.{Fault}
use Rattle.elan_names.specs.declared.heads.Names.{Names}
use Rattle.elan_phrases.specs.declared.plan.Plan.{Plan}
use Rattle.elan_program.specs.declared.strategy.Strategy.{Strategy}
use Rattle.elan_names.specs.Resolved.{next, resolved}
use Rattle.elan_program.specs.declared.program.Parts.{Parts}
use Rattle.elan_modules.specs.declared.flat.LoadedText.{LoadedText}
use Rattle.elan_phrases.specs.declared.span.Span.{Span}
use Rattle.elan_syntax.specs.declared.parts.RuleOutline.{RuleOutline}
use Rattle.elan_syntax.specs.declared.parts.ClauseOutline.{ClauseOutline}
use Rattle.elan_syntax.specs.declared.parts.ClauseOutline.TheVariants as written
use Rattle.elan_program.specs.declared.program.Clause.{Clause}
use Rattle.elan_program.specs.declared.program.Clause.TheVariants.{If, Where}
use Rattle.elan_program.specs.declared.program.Rule.{Rule}
use Rattle.elan_reading.specs.declared.lexeme.Variable.{Variable}
use Rattle.elan_reading.specs.declared.sought.Sought.{Sought}
use Rattle.elan_reading.specs.declared.sought.Sought.TheVariants.{Sort, Any}
use Rattle.elan_clauses.specs.Refusals.{Checked, refusal_at}
use Rattle.elan_clauses.specs.Texts.{Reader, Bound, at_text, unless, text_as, truth_as, closed, fresh, sort_of, is_numbered_in}
use Rattle.elan_clauses.specs.Rules.{place_in, numbered_so, numbered_clause, numbered_rule, checked_clause, checked_clauses, checked_rule, strategy_in, at_token}
use Rattle.elan_program.specs.Validity.{is_truth, are_joined, where_true, is_valid_if, is_valid_where, bound_after, bound_by, is_bound_right, has_sides, is_valid_rule}
use Rattle.elan_clauses.specs.Offered.{is_declared, are_declared, IsOf, ReadsWell}
use Rattle.elan_clauses.proofs.NumberLemmas.{left_true, right_true, both_true, either_left, either_right, nat_same, nat_equal, nat_differs, is_in, renamed, new_renamed, occurrences_numbered, sort_numbered, uses_renamed, typed, uses_own, all_new, are_new, new_append, are_new_in, numbered_on}

-- ---- results

module _ {A F : Type 0} where
  abbrev the_ok : A → Result A F
  the_ok a = Ok a

  abbrev un_ok : A → Result A F → A
  un_ok other (Ok a) = a
  un_ok other (Err f) = other

  pub same_ok : {a b : A} → the_ok a ≡ the_ok b → a ≡ b
  same_ok {a} e = ap (un_ok a) e

  pub no_ok : {f : F} {a : A} → Err f ≡ the_ok a → ⊥
  no_ok e = cc

-- what came next had a value to go on from
pub went_on : {A B F : Type 0} (r : Result A F) (more : A → Result B F) (b : B) → next r more ≡ Ok b → (a : A) × ((r ≡ Ok a) × (more a ≡ Ok b))
went_on (Ok a) more b e = (a, (refl, e))
went_on (Err f) more b e = absurd (no_ok e)

pub was_read : {A : Type 0} (text : LoadedText) (at : Span) (r : Result A Code) (a : A) → at_text text at r ≡ Ok a → r ≡ Ok a
was_read text at (Ok b) a e = ap Ok (same_ok e)
was_read text at (Err c) a e = absurd (no_ok e)

pub was_good : {A : Type 0} (text : LoadedText) (at : Span) (code : Code) (bad : Bool) (a b : A) → unless text at code bad a ≡ Ok b → (bad ≡ false) × (a ≡ b)
was_good text at code true a b e = absurd (no_ok e)
was_good text at code false a b e = (refl, same_ok e)

pub not_true : (a : Bool) → not a ≡ false → a ≡ true
not_true true e = refl
not_true false e = cc

is_sort-same : (d : Option SortId) (s : SortId) → d ≡ Some s → is_sort d s ≡ true
is_sort-same d s e = ap (λ d. is_sort d s) e ∙ nat_same s.0

-- ---- declared variables

module _ (g : Signature) where
  -- the sort of the variable of a number
  abbrev pub number_sort : List Variable → ℕ → Option SortId
  number_sort [] x = None
  number_sort (v ∷ vs) x = if v.number == x then Some v.sort else number_sort vs x

  numbers : (k : ℕ) (vs : List Variable) (v : ℕ × SortId) → are_declared g k vs ≡ true → is_declared vs v ≡ true → (k ≤ v.0) × (v.0 < k + length vs)
  numbers k [] v d e = cc
  numbers k (w ∷ ws) v d e = go (numbers (suc k) ws v (right_true (w.number == k && has_sort_id g w.sort) _ d)) (w.number == v.0 && w.sort.0 == v.1.0) refl e
    where
      first : w.number ≡ k
      first = nat_equal w.number k (left_true (w.number == k) (has_sort_id g w.sort) (left_true _ (are_declared g (suc k) ws) d))

      go : (is_declared ws v ≡ true → (suc k ≤ v.0) × (v.0 < suc k + length ws)) → (b : Bool) → (w.number == v.0 && w.sort.0 == v.1.0) ≡ b → (b || is_declared ws v) ≡ true
          → (k ≤ v.0) × (v.0 < k + length (w ∷ ws))
      go more true here e = let same : w.number ≡ v.0 = nat_equal w.number v.0 (left_true (w.number == v.0) (w.sort.0 == v.1.0) here) in (omega (arith, first), omega (arith, first))
      go more false here e = (omega (arith, (more e).0), omega (arith, (more e).1))

  sorts : (k : ℕ) (vs : List Variable) (v : ℕ × SortId) → are_declared g k vs ≡ true → is_declared vs v ≡ true → (is_sort (number_sort vs v.0) v.1 ≡ true) × (nat_lt v.1.0 (length g.sorts) ≡ true)
  sorts k [] v d e = cc
  sorts k (w ∷ ws) v d e = go (sorts (suc k) ws v later) (numbers (suc k) ws v later) (w.number == v.0) refl (w.sort.0 == v.1.0) refl e
    where
      later : are_declared g (suc k) ws ≡ true
      later = right_true (w.number == k && has_sort_id g w.sort) _ d

      here_too : (w.number == k && has_sort_id g w.sort) ≡ true
      here_too = left_true _ (are_declared g (suc k) ws) d

      first : w.number ≡ k
      first = nat_equal w.number k (left_true (w.number == k) (has_sort_id g w.sort) here_too)

      go : (is_declared ws v ≡ true → (is_sort (number_sort ws v.0) v.1 ≡ true) × (nat_lt v.1.0 (length g.sorts) ≡ true))
          → (is_declared ws v ≡ true → (suc k ≤ v.0) × (v.0 < suc k + length ws))
          → (b : Bool) → (w.number == v.0) ≡ b → (c : Bool) → (w.sort.0 == v.1.0) ≡ c → ((b && c) || is_declared ws v) ≡ true
          → (is_sort (if b then Some w.sort else number_sort ws v.0) v.1 ≡ true) × (nat_lt v.1.0 (length g.sorts) ≡ true)
      go more after true p true q e = (q, ap (λ x. nat_lt x (length g.sorts)) (sym (nat_equal w.sort.0 v.1.0 q)) ∙ right_true (w.number == k) (has_sort_id g w.sort) here_too)
      go more after true p false q e = absurd (let same : w.number ≡ v.0 = nat_equal w.number v.0 p in let far : suc k ≤ v.0 = (after e).0 in omega (arith, first))
      go more after false p c q e = more e

  module _ (vs : List Variable) (d : are_declared g 0 vs ≡ true) where
    pub all_typed : (os : Bound) → list_all (is_declared vs) os ≡ true → typed (number_sort vs) os ≡ true
    all_typed [] e = refl
    all_typed (o ∷ os) e = both_true (is_sort (number_sort vs o.0) o.1) _ (sorts 0 vs o d (left_true _ (list_all (is_declared vs) os) e)).0 (all_typed os (right_true (is_declared vs o) _ e))

    pub all_ranged : (os : Bound) → list_all (is_declared vs) os ≡ true → list_all (λ v. nat_lt v.1.0 (length g.sorts)) os ≡ true
    all_ranged [] e = refl
    all_ranged (o ∷ os) e = both_true (nat_lt o.1.0 (length g.sorts)) _ (sorts 0 vs o d (left_true _ (list_all (is_declared vs) os) e)).1 (all_ranged os (right_true (is_declared vs o) _ e))

    pub all_below : (os : Bound) → list_all (is_declared vs) os ≡ true → list_all (λ v. nat_lt v.0 (length vs)) os ≡ true
    all_below [] e = refl
    all_below (o ∷ os) e = both_true (nat_lt o.0 (length vs)) _
        (let far : o.0 < 0 + length vs = (numbers 0 vs o d (left_true _ (list_all (is_declared vs) os) e)).1 in grind (arith, common_steps))
        (all_below os (right_true (is_declared vs o) _ e))

-- ---- different numbers below n are at most n

abbrev how_many : ℕ → Bound → ℕ
how_many x [] = 0
how_many x (v ∷ vs) = if v.0 == x then how_many x vs + 1 else how_many x vs

abbrev in_all : ℕ → Bound → ℕ
in_all zero vs = 0
in_all (suc n) vs = in_all n vs + how_many n vs

none_more : (x : ℕ) (before vs : Bound) → are_new before vs ≡ true → is_in before x ≡ true → how_many x vs ≡ 0
none_more x before [] n i = refl
none_more x before (v ∷ vs) n i = go
    (none_more x (before ++ v ∷ []) vs (right_true (not (is_in before v.0)) _ n) (list_any-append (λ w. w.0 == x) before (v ∷ []) ∙ either_left (is_in before x) _ i))
    (v.0 == x) refl
  where
    no : not true ≡ true → ⊥
    no e = cc

    go : how_many x vs ≡ 0 → (b : Bool) → (v.0 == x) ≡ b → (if b then how_many x vs + 1 else how_many x vs) ≡ 0
    go rest true e = absurd (no (ap not (sym (ap (is_in before) (nat_equal v.0 x e) ∙ i)) ∙ left_true (not (is_in before v.0)) (are_new (before ++ v ∷ []) vs) n))
    go rest false e = rest

one_at_most : (x : ℕ) (before vs : Bound) → are_new before vs ≡ true → how_many x vs ≤ 1
one_at_most x before [] n = omega arith
one_at_most x before (v ∷ vs) n = go (one_at_most x (before ++ v ∷ []) vs (right_true (not (is_in before v.0)) _ n)) (v.0 == x) refl
  where
    later : are_new (before ++ v ∷ []) vs ≡ true
    later = right_true (not (is_in before v.0)) _ n

    go : how_many x vs ≤ 1 → (b : Bool) → (v.0 == x) ≡ b → (if b then how_many x vs + 1 else how_many x vs) ≤ 1
    go rest true e = omega (arith, none_more x (before ++ v ∷ []) vs later (list_any-append (λ w. w.0 == x) before (v ∷ []) ∙ either_right (is_in before x) _ (either_left (v.0 == x) false e)))
    go rest false e = rest

in_all-nil : (n : ℕ) → in_all n [] ≡ 0
in_all-nil zero = refl
in_all-nil (suc n) = omega (arith, in_all-nil n)

in_all-above : (n : ℕ) (v : ℕ × SortId) (vs : Bound) → n ≤ v.0 → in_all n (v ∷ vs) ≡ in_all n vs
in_all-above zero v vs e = refl
in_all-above (suc n) v vs e = go (in_all-above n v vs (omega arith)) (v.0 == n) refl
  where
    go : in_all n (v ∷ vs) ≡ in_all n vs → (b : Bool) → (v.0 == n) ≡ b → in_all n (v ∷ vs) + (if b then how_many n vs + 1 else how_many n vs) ≡ in_all n vs + how_many n vs
    go rest true h = absurd (let same : v.0 ≡ n = nat_equal v.0 n h in omega arith)
    go rest false h = omega (arith, rest)

in_all-more : (n : ℕ) (v : ℕ × SortId) (vs : Bound) → v.0 < n → in_all n (v ∷ vs) ≡ in_all n vs + 1
in_all-more zero v vs e = absurd (omega arith)
in_all-more (suc n) v vs e = go (in_all-more n v vs) (v.0 == n) refl
  where
    go : (v.0 < n → in_all n (v ∷ vs) ≡ in_all n vs + 1) → (b : Bool) → (v.0 == n) ≡ b
        → in_all n (v ∷ vs) + (if b then how_many n vs + 1 else how_many n vs) ≡ in_all n vs + how_many n vs + 1
    go more true h = let same : v.0 ≡ n = nat_equal v.0 n h in omega (arith, in_all-above n v vs (omega arith))
    go more false h = omega (arith, more (below h))
      where
        below : (v.0 == n) ≡ false → v.0 < n
        below h = let other : v.0 ≡ n → ⊥ = nat_differs v.0 n h in grind (arith, common_steps)

all_counted : (n : ℕ) (vs : Bound) → list_all (λ v. nat_lt v.0 n) vs ≡ true → in_all n vs ≡ length vs
all_counted n [] e = in_all-nil n
all_counted n (v ∷ vs) e = omega (arith, in_all-more n v vs (under (left_true (nat_lt v.0 n) (list_all (λ v. nat_lt v.0 n) vs) e)), all_counted n vs (right_true (nat_lt v.0 n) _ e))
  where
    under : nat_lt v.0 n ≡ true → v.0 < n
    under e = grind (arith, common_steps)

few_counted : (n : ℕ) (vs : Bound) → are_new [] vs ≡ true → in_all n vs ≤ n
few_counted zero vs e = omega arith
few_counted (suc n) vs e = omega (arith, few_counted n vs e, one_at_most n [] vs e)

pub few_new : (n : ℕ) (vs : Bound) → are_new [] vs ≡ true → list_all (λ v. nat_lt v.0 n) vs ≡ true → length vs ≤ n
few_new n vs e f = omega (arith, few_counted n vs e, all_counted n vs f)

-- ---- what a rule has before its variables are numbered

-- the sort of a pattern in a program
abbrev pub sort_in : Parts → Pattern → Option SortId
sort_in w p = pattern_sort (shapes_of w.signature) p

module _ (w : Parts) (declared : List Variable) where
  -- a test asks for a truth value, and uses bound variables
  pub record TestFits (bound : Bound) (test : Pattern) : Type 0 where
    pub used : uses bound test ≡ true
    pub truth : is_truth (truth_sort w.signature.truth) (sort_in w test) ≡ true

  -- a left side has declared variables, none of which was bound before
  pub record LeftFits (bound : Bound) (left : Pattern) : Type 0 where
    pub there : list_all (is_declared declared) (occurrences left) ≡ true
    pub new : list_any (λ v. is_in bound v.0) (variables left) ≡ false

  -- conditions that bind these variables behind those
  abbrev pub Chain : Bound → List Clause → Bound → Type 0
  Chain bound [] final = bound ≡ final
  Chain bound (If test ∷ cs) final = TestFits bound test × Chain bound cs final
  Chain bound (Where left by of ∷ cs) final =
      (LeftFits bound left × ((uses bound of ≡ true) × (are_joined w (sort_in w left) (sort_in w of) by ≡ true))) × Chain (bound ++ variables left) cs final

  -- what is bound in the end begins with what was bound
  pub chain_prefix : (bound : Bound) (cs : List Clause) (final : Bound) → Chain bound cs final → (rest : Bound) × (final ≡ bound ++ rest)
  chain_prefix bound [] final c = ([], sym c ∙ sym (append-nil bound))
  chain_prefix bound (If test ∷ cs) final c = chain_prefix bound cs final c.1
  chain_prefix bound (Where left by of ∷ cs) final c =
      let more : (rest : Bound) × (final ≡ (bound ++ variables left) ++ rest) = chain_prefix (bound ++ variables left) cs final c.1 in
      (variables left ++ more.0, more.1 ∙ append_assoc bound (variables left) more.0)

  -- a condition more
  pub chain_more : (bound : Bound) (cs : List Clause) (middle : Bound) (ds : List Clause) (final : Bound) → Chain bound cs middle → Chain middle ds final → Chain bound (cs ++ ds) final
  chain_more bound [] middle ds final c d = subst (λ b. Chain b ds final) (sym c) d
  chain_more bound (If test ∷ cs) middle ds final c d = (c.0, chain_more bound cs middle ds final c.1 d)
  chain_more bound (Where left by of ∷ cs) middle ds final c d = (c.0, chain_more (bound ++ variables left) cs middle ds final c.1 d)

  module _ (known : are_declared w.signature 0 declared ≡ true) where
    own : (p : Pattern) → list_all (is_declared declared) (occurrences p) ≡ true → uses (variables p) p ≡ true
    own p d = uses_own (number_sort w.signature declared) p (all_typed w.signature declared known (occurrences p) d)

    bound_in : (vs : Bound) (v : ℕ × SortId) → is_bound vs v ≡ true → is_in vs v.0 ≡ true
    bound_in [] v e = e
    bound_in (u ∷ us) v e = go (bound_in us v) (u.0 == v.0) (u.1.0 == v.1.0) e
      where
        go : (is_bound us v ≡ true → is_in us v.0 ≡ true) → (b c : Bool) → ((b && c) || is_bound us v) ≡ true → (b || is_in us v.0) ≡ true
        go more true c e = refl
        go more false c e = more e

    all_in : (before us rest vs : Bound) → list_all (is_bound us) vs ≡ true → list_all (λ v. is_in (before ++ (us ++ rest)) v.0) vs ≡ true
    all_in before us rest [] e = refl
    all_in before us rest (v ∷ vs) e = both_true (is_in (before ++ (us ++ rest)) v.0) _
        (list_any-append (λ w. w.0 == v.0) before (us ++ rest) ∙ either_right (is_in before v.0) _
        (list_any-append (λ w. w.0 == v.0) us rest ∙ either_left (is_in us v.0) _ (bound_in us v (left_true _ (list_all (is_bound us) vs) e))))
        (all_in before us rest vs (right_true (is_bound us v) _ e))

    -- the variables of a left side, numbered
    variables_numbered : (bound : Bound) (left : Pattern) (rest : Bound) → list_all (is_declared declared) (occurrences left) ≡ true
        → variables (numbered_so (bound ++ (variables left ++ rest)) left) ≡ map (renamed (bound ++ (variables left ++ rest))) (variables left)
    unfolding variables uses
    variables_numbered bound left rest d = ap (new_in []) (occurrences_numbered (bound ++ (variables left ++ rest)) left)
        ∙ new_renamed (bound ++ (variables left ++ rest)) [] (occurrences left) (all_in bound (variables left) rest (occurrences left) (own left d))

    new_left : (bound : Bound) (left : Pattern) → list_any (λ v. is_in bound v.0) (variables left) ≡ false → are_new bound (variables left) ≡ true
    unfolding variables
    new_left bound left e = are_new_in bound [] (occurrences left) refl e

    all_left : (test : ℕ × SortId → Bool) (left : Pattern) → list_all test (occurrences left) ≡ true → list_all test (variables left) ≡ true
    unfolding variables
    all_left test left e = all_new test [] (occurrences left) refl e

    -- a left side that is numbered binds fresh variables
    binds_numbered : (bound : Bound) (left : Pattern) (rest : Bound) → LeftFits bound left
        → binds (length w.signature.sorts) (length bound) (numbered_so (bound ++ (variables left ++ rest)) left) ≡ true
    unfolding binds
    binds_numbered bound left rest l = both_true _ _
        (ap (are_numbered (length w.signature.sorts) (length bound)) (variables_numbered bound left rest l.there)
        ∙ numbered_on (length w.signature.sorts) (length bound) (bound ++ (variables left ++ rest)) bound (variables left) rest refl refl (new_left bound left l.new)
        (all_ranged w.signature declared known (variables left) (all_left (is_declared declared) left l.there)))
        (ap (λ vs. uses vs (numbered_so (bound ++ (variables left ++ rest)) left)) (variables_numbered bound left rest l.there)
        ∙ uses_renamed (bound ++ (variables left ++ rest)) (variables left) left (own left l.there))

    sorted : (order : Bound) (p : Pattern) → sort_in w (numbered_so order p) ≡ sort_in w p
    sorted order p = sort_numbered order (shapes_of w.signature) p

    -- conditions that are numbered bind the numbered variables
    pub chain_numbered : (order bound : Bound) (cs : List Clause) → Chain bound cs order
        → bound_by w (map (renamed order) bound) (map (numbered_clause order) cs) ≡ Some (map (renamed order) order)
    unfolding is_valid_if is_valid_where
    chain_numbered order bound [] c = ap (λ b. Some (map (renamed order) b)) c
    chain_numbered order bound (If test ∷ cs) c =
        ap (λ b. option_and_then (λ more. bound_by w more (map (numbered_clause order) cs)) (where_true b (map (renamed order) bound)))
        (both_true (uses (map (renamed order) bound) (numbered_so order test)) _ (uses_renamed order bound test c.0.used)
        (ap (is_truth (truth_sort w.signature.truth)) (sorted order test) ∙ c.0.truth))
        ∙ chain_numbered order bound cs c.1
    chain_numbered order bound (Where left by of ∷ cs) c =
        ap (λ b. option_and_then (λ more. bound_by w more (map (numbered_clause order) cs)) (where_true b (map (renamed order) bound ++ variables (numbered_so order left)))) fits
        ∙ ap (λ b. bound_by w b (map (numbered_clause order) cs)) (ap (λ vs. map (renamed order) bound ++ vs) vars ∙ sym (map-append (renamed order) bound (variables left)))
        ∙ chain_numbered order (bound ++ variables left) cs c.1
      where
        more : (rest : Bound) × (order ≡ (bound ++ variables left) ++ rest)
        more = chain_prefix (bound ++ variables left) cs order c.1

        split : order ≡ bound ++ (variables left ++ more.0)
        split = more.1 ∙ append_assoc bound (variables left) more.0

        vars : variables (numbered_so order left) ≡ map (renamed order) (variables left)
        vars = subst (λ o. variables (numbered_so o left) ≡ map (renamed o) (variables left)) (sym split) (variables_numbered bound left more.0 c.0.0.there)

        binds_here : binds (length w.signature.sorts) (length (map (renamed order) bound)) (numbered_so order left) ≡ true
        binds_here = ap (λ n. binds (length w.signature.sorts) n (numbered_so order left)) (length-map bound (renamed order))
            ∙ subst (λ o. binds (length w.signature.sorts) (length bound) (numbered_so o left) ≡ true) (sym split) (binds_numbered bound left more.0 c.0.0)

        fits : is_valid_where w (map (renamed order) bound) (numbered_so order left) by (numbered_so order of) ≡ true
        fits = both_true _ _
            (both_true (uses (map (renamed order) bound) (numbered_so order of)) _ (uses_renamed order bound of c.0.1.0) binds_here)
            (ap (λ d. are_joined w d (sort_in w (numbered_so order of)) by) (sorted order left) ∙ ap (λ d. are_joined w (sort_in w left) d by) (sorted order of) ∙ c.0.1.1)

    -- what is bound in the end is declared, and each is new
    chain_declared : (bound : Bound) (cs : List Clause) (final : Bound) → Chain bound cs final → list_all (is_declared declared) bound ≡ true → list_all (is_declared declared) final ≡ true
    chain_declared bound [] final c d = ap (list_all (is_declared declared)) (sym c) ∙ d
    chain_declared bound (If test ∷ cs) final c d = chain_declared bound cs final c.1 d
    chain_declared bound (Where left by of ∷ cs) final c d = chain_declared (bound ++ variables left) cs final c.1
        (list_all-append (is_declared declared) bound (variables left) ∙ both_true (list_all (is_declared declared) bound) _ d (all_left (is_declared declared) left c.0.0.there))

    chain_new : (bound : Bound) (cs : List Clause) (final : Bound) → Chain bound cs final → are_new [] bound ≡ true → are_new [] final ≡ true
    chain_new bound [] final c n = ap (are_new []) (sym c) ∙ n
    chain_new bound (If test ∷ cs) final c n = chain_new bound cs final c.1 n
    chain_new bound (Where left by of ∷ cs) final c n = chain_new (bound ++ variables left) cs final c.1
        (new_append [] bound (variables left) ∙ both_true (are_new [] bound) _ n (new_left bound left c.0.0.new))

    -- a rule before its variables are numbered, with the variables that it binds in order
    pub record RuleFits (r : Rule) (order : Bound) : Type 0 where
      pub sort : has_sort_id w.signature r.sort ≡ true
      pub left : sort_in w r.left ≡ Some r.sort
      pub right : sort_in w r.right ≡ Some r.sort
      pub there : list_all (is_declared declared) (occurrences r.left) ≡ true
      pub clauses : Chain (variables r.left) r.clauses order
      pub used : uses order r.right ≡ true

    none_before : (vs : Bound) → list_any (λ v. is_in [] v.0) vs ≡ false
    none_before [] = refl
    none_before (v ∷ vs) = none_before vs

    pub rule_few : (r : Rule) (order : Bound) → RuleFits r order → length order ≤ length declared
    rule_few r order fit = few_new (length declared) order (chain_new (variables r.left) r.clauses order fit.clauses (new_left [] r.left (none_before (variables r.left))))
        (all_below w.signature declared known order (chain_declared (variables r.left) r.clauses order fit.clauses (all_left (is_declared declared) r.left fit.there)))

    -- a rule is valid when its variables are numbered
    pub rule_numbered : (r : Rule) (order : Bound) → nat_lt (length declared) most ≡ true → RuleFits r order → is_valid_rule w (numbered_rule (r, order)) ≡ true
    unfolding is_valid_rule
    rule_numbered r order few fit = both_true (has_sides w (numbered_rule (r, order))) _
        (both_true _ _ (both_true (has_sort_id w.signature r.sort) _ fit.sort (is_sort-same _ r.sort (sorted order r.left ∙ fit.left))) (is_sort-same _ r.sort (sorted order r.right ∙ fit.right)))
        (both_true _ _ (subst (λ o. binds (length w.signature.sorts) 0 (numbered_so o r.left) ≡ true) (sym more.1) (binds_numbered [] r.left more.0 first))
        (ap (λ vs. is_bound_right (numbered_so order r.right) (bound_by w vs (map (numbered_clause order) r.clauses))) vars
        ∙ ap (is_bound_right (numbered_so order r.right)) (chain_numbered order (variables r.left) r.clauses fit.clauses)
        ∙ both_true (uses (map (renamed order) order) (numbered_so order r.right)) _ (uses_renamed order order r.right fit.used)
        (ap (λ n. nat_lt n most) (length-map order (renamed order)) ∙ under)))
      where
        first : LeftFits [] r.left
        first = record { there = fit.there; new = none_before (variables r.left) }

        more : (rest : Bound) × (order ≡ variables r.left ++ rest)
        more = chain_prefix (variables r.left) r.clauses order fit.clauses

        vars : variables (numbered_so order r.left) ≡ map (renamed order) (variables r.left)
        vars = subst (λ o. variables (numbered_so o r.left) ≡ map (renamed o) (variables r.left)) (sym more.1) (variables_numbered [] r.left more.0 fit.there)

        under : nat_lt (length order) most ≡ true
        under = below (length order) (length declared) most (rule_few r order fit) few
          where
            below : (a b c : ℕ) → a ≤ b → nat_lt b c ≡ true → nat_lt a c ≡ true
            below a b c e f = grind (arith, common_steps)
