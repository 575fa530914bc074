-- What is read from a plan is valid, in each program that has what is known where the plan stands.
use Rattle.std.proofs.Common.{append_assoc, append-nil, length-append, ◌≡◌, refl, sym, ap, subst, ◌∙◌, ℕ, ◌+◌, ◌<◌, ◌==◌, Bool, true, false, ◌&&◌, List, [], ◌∷◌, ◌++◌, length, arith}
use Rattle.std.proofs.lemmas.Grind.{common_steps}
use Rattle.std.specs.Str.{bytes_eq}
use Rattle.elan_names.specs.declared.fault.Stopped.{Stopped}
use Rattle.elan_names.specs.declared.fault.Stopped.TheVariants.{Refused, NoMemory}
use Rattle.elan_names.specs.Gives.{Gives}
use Rattle.std.specs.Prelude.{IfOk, Result, Ok, Err, Option, Some, None, zero, suc, codes, if◌then◌else◌, nat_lt, slice_get}
use Rattle.std.specs.List.{list_all}
use Rattle.std.specs.Option.{option_map}
use Rattle.std.proofs.lemmas.Option.{slice_get_within, slice_get-map}
use Rattle.std.proofs.lemmas.List.Folds.{list_all-append}
use Rattle.elan_text.specs.declared.refusal.Code.{Code}
use Rattle.elan_text.specs.declared.refusal.Code.TheVariants.{E07, E22}
use Rattle.elan_terms.specs.declared.tree.SortId.{SortId}
use Rattle.elan_program.specs.declared.signature.Operator.{Operator}
use Rattle.elan_program.specs.declared.signature.Piece.{Piece}
use Rattle.elan_program.specs.declared.signature.Piece.TheVariants.{Hole, Word as APiece}
use Rattle.elan_program.specs.declared.program.Rule.{Rule}
use Rattle.elan_program.specs.declared.program.Named.{Named}
use Rattle.elan_program.specs.declared.program.Parts.{Parts}
use Rattle.elan_program.specs.declared.strategy.Scope.{Scope}
use Rattle.elan_program.specs.declared.strategy.Strategy.{Strategy}
use Rattle.elan_program.specs.declared.strategy.StrategyNode.{StrategyNode}
use Rattle.elan_program.specs.declared.strategy.StrategyNode.TheVariants as made
use Rattle.elan_program.specs.Soundness.{same_sort, holes, is_some_list, is_sound, is_sound_operator, is_spelling_of}
use Rattle.elan_program.specs.Validity.{is_valid_strategy, is_rule_for, is_named_for, is_valid_param, congruent_sorts, congruence_fits, each_fits, do_ascend}
use Rattle.elan_program.proofs.ValidLemmas as program
use Rattle.elan_names.specs.declared.fault.Fault.{Fault}
use Rattle.elan_names.specs.declared.heads.Target.{Target}
use Rattle.elan_names.specs.declared.heads.Target.TheVariants.{Definition, Operator as AnOperator}
use Rattle.elan_names.specs.declared.heads.Head.{Head}
use Rattle.elan_names.specs.declared.heads.Label.{Label}
use Rattle.elan_phrases.specs.declared.plan.Plan.{Plan}
use Rattle.elan_phrases.specs.declared.plan.PlanNode.{PlanNode, Row_of-Plan, end_of-Plan, more_of-Plan}
use Rattle.elan_phrases.specs.declared.plan.PlanNode.TheVariants as plan
use Rattle.elan_phrases.specs.Plans as plans
use Rattle.elan_names.specs.Names.{Word, first, places, named, applied, call_or, rules_or, missing, is_anywhere, is_applied_anywhere, is_head, is_head_of, is_wide_head_of, has_parameters, is_labelled, is_rule_of, is_mark, closing, prefix_of, is_prefix, is_prefixed, is_prefixed_of, operator_or, definition_or}
use Rattle.elan_names.specs.Resolved.{Site, Body, AtSort, resolved, at_level, all_at, each_at, next, made_so, over, sorts_of, refused_at, name_at, name_in, parameter_or, is_parameter, target_at, applied_at, word_at}
use Rattle.elan_names.specs.Valid.{IsKnownAt, head_part, named_part, scope_in}
use Rattle.elan_names.proofs.LeafLemmas.{places_ascend, places_hold, first_found, place_found}

-- ---- results

abbrev the_ok : {A : Type 0} (F : Type 0) → A → Result A F
the_ok F a = Ok a

abbrev the_err : {F : Type 0} (A : Type 0) → F → Result A F
the_err A f = Err f

abbrev un_ok : {A F : Type 0} → A → Result A F → A
un_ok other (Ok a) = a
un_ok other (Err f) = other

abbrev un_some : {A : Type 0} → A → Option A → A
un_some other (Some a) = a
un_some other None = other

same_ok : {A F : Type 0} {a b : A} → the_ok F a ≡ the_ok F b → a ≡ b
same_ok {A} {F} {a} e = ap (un_ok a) e

no_ok : {A F : Type 0} {f : F} {a : A} → the_err A f ≡ the_ok F a → ⊥
no_ok e = cc

-- ---- truth values

all_at_once : {A : Type 0} (f g : A → Bool) → ((x : A) → f x ≡ g x) → (xs : List A) → list_all f xs ≡ list_all g xs
all_at_once f g e [] = refl
all_at_once f g e (x ∷ xs) = ap (λ b. b && list_all f xs) (e x) ∙ ap (λ b. g x && b) (all_at_once f g e xs)

nat_same : (n : ℕ) → n == n ≡ true
nat_same n = grind (arith, common_steps)

both : (a b : Bool) → a ≡ true → b ≡ true → a && b ≡ true
both a b e f = ap (λ x. x && b) e ∙ f

left : (a b : Bool) → a && b ≡ true → a ≡ true
left true b e = refl
left false b e = cc

right : (a b : Bool) → a && b ≡ true → b ≡ true
right true b e = e
right false b e = cc

below : (k n : ℕ) → k < n → nat_lt k n ≡ true
below k n lt = grind (arith, common_steps)

count_same : (n m : ℕ) → (m == n) ≡ true → m ≡ n
count_same n m e = grind (arith, common_steps)

no_bool : (b : Bool) → b ≡ true → b ≡ false → ⊥
no_bool true e f = cc
no_bool false e f = cc

-- ---- spellings

-- a name over so many holes has so many arguments, one at least
closing_holes : (ps : List Piece) (n : ℕ) → closing ps ≡ Some n → (holes ps ≡ n) × (0 < n)
closing_holes [] n e = cc
closing_holes (APiece mark ∷ ps) n e = cc
closing_holes (Hole ∷ []) n e = cc
closing_holes (Hole ∷ Hole ∷ ps) n e = cc
closing_holes (Hole ∷ APiece mark ∷ []) n e = go (is_mark (codes ")") mark) e
  where
    go : (b : Bool) → (if b then Some 1 else None) ≡ Some n → (1 ≡ n) × (0 < n)
    go true e = let same : 1 ≡ n = ap (un_some 0) e in (same, omega arith)
    go false e = cc
closing_holes (Hole ∷ APiece mark ∷ p ∷ ps) n e = go (closing_holes (p ∷ ps)) (is_mark (codes ",") mark) (closing (p ∷ ps)) refl e
  where
    go : ((m : ℕ) → closing (p ∷ ps) ≡ Some m → (holes (p ∷ ps) ≡ m) × (0 < m)) → (b : Bool) (d : Option ℕ) → closing (p ∷ ps) ≡ d
        → (if b then option_map (λ n. n + 1) d else None) ≡ Some n → (suc (holes (p ∷ ps)) ≡ n) × (0 < n)
    go rest true (Some m) here e = let same : m + 1 ≡ n = ap (un_some 0) e in let more : holes (p ∷ ps) ≡ m = (rest m here).0 in (omega arith, omega arith)
    go rest true None here e = cc
    go rest false d here e = cc

prefix_holes : (w : Word) (n : ℕ) (ps : List Piece) → is_prefix w n (prefix_of ps) ≡ true → (holes ps ≡ n) × (0 < n)
prefix_holes w n [] e = cc
prefix_holes w n (Hole ∷ ps) e = cc
prefix_holes w n (APiece name ∷ []) e = cc
prefix_holes w n (APiece name ∷ Hole ∷ ps) e = cc
prefix_holes w n (APiece name ∷ APiece mark ∷ ps) e = go (is_mark (codes "(") mark) (closing ps) refl e
  where
    go : (b : Bool) (d : Option ℕ) → closing ps ≡ d → is_prefix w n (if b then option_map (λ n. (name.bytes, n)) d else None) ≡ true → (holes ps ≡ n) × (0 < n)
    go true None here e = cc
    go true (Some m) here e = subst (λ k. (holes ps ≡ k) × (0 < k)) (count_same n m (right (bytes_eq name.bytes w) (m == n) e)) (closing_holes ps m here)
    go false d here e = cc

prefixed_holes : (w : Word) (n : ℕ) (o : Operator) → is_prefixed w n o ≡ true → (o.ac ≡ false) × (holes o.pieces ≡ n) × (0 < n)
prefixed_holes w n o e = go o.ac refl e
  where
    go : (b : Bool) → o.ac ≡ b → is_prefix w n (if b then None else prefix_of o.pieces) ≡ true → (b ≡ false) × (holes o.pieces ≡ n) × (0 < n)
    go true here e = cc
    go false here e = let many = prefix_holes w n o.pieces e in (refl, many.0, many.1)

all_there : {A : Type 0} (test : A → Bool) (xs : List A) (k : ℕ) (x : A) → list_all test xs ≡ true → slice_get xs k ≡ Some x → test x ≡ true
all_there test [] k x e f = absurd (none_is_some x f)
  where
    none_is_some : {A : Type 0} (x : A) → None ≡ Some x → ⊥
    none_is_some x f = cc
all_there test (y ∷ ys) zero x e f = ap test (sym (ap (un_some y) f)) ∙ left (test y) (list_all test ys) e
all_there test (y ∷ ys) (suc k) x e f = all_there test ys k x (right (test y) (list_all test ys) e) f

-- in a sound signature an operator has as many arguments as its spelling has holes
spelled_so : (p : Parts) → is_sound p.signature ≡ true → (k : ℕ) (o : Operator) → slice_get p.signature.operators k ≡ Some o → holes o.pieces ≡ length o.args
unfolding is_sound is_sound_operator is_spelling_of
spelled_so p e k o at =
    let one : is_sound_operator p.signature o ≡ true = all_there (is_sound_operator p.signature) p.signature.operators k o (left _ _ (right _ _ e)) at in
    count_same (length o.args) (holes o.pieces) (left _ _ (right _ _ (left _ _ (left _ _ one))))

-- ---- what a program says of a number

abbrev sort_there : SortId → Option SortId → Bool
sort_there sort None = false
sort_there sort (Some own) = same_sort own sort

abbrev part_there : SortId → ℕ → Option (SortId × ℕ) → Bool
part_there sort n None = false
part_there sort n (Some h) = same_sort h.0 sort && h.1 == n

rule_sort : (sort : SortId) (r : Option Rule) → is_rule_for sort r ≡ sort_there sort (option_map (λ (r : Rule). r.sort) r)
rule_sort sort None = refl
rule_sort sort (Some r) = refl

named_there : (sort : SortId) (n : ℕ) (d : Option Named) → is_named_for sort n d ≡ part_there sort n (option_map named_part d)
named_there sort n None = refl
named_there sort n (Some d) = refl

module _ (p : Parts) (sc : Site) (known : IsKnownAt p sc) where
  abbrev scope : Scope
  scope = scope_in sc.body

  abbrev valid : Strategy → SortId → Bool
  valid = is_valid_strategy p scope

  abbrev all_are : SortId → List Strategy → Bool
  all_are sort ss = list_all (λ s. valid s sort) ss

  abbrev node_of : StrategyNode → Strategy
  node_of i = record { node = i }

  equal_sorts : (s : SortId) → same_sort s s ≡ true
  equal_sorts s = nat_same s.0

  rule_at : (sort : SortId) (k : ℕ) → is_rule_for sort (slice_get p.rules k) ≡ sort_there sort (option_map (λ (l : Label). l.sort) (slice_get sc.names.labels k))
  rule_at sort k =
      rule_sort sort (slice_get p.rules k)
      ∙ ap (sort_there sort) (sym (slice_get-map (λ (r : Rule). r.sort) p.rules k) ∙ ap (λ xs. slice_get xs k) known.named.rules ∙ slice_get-map (λ (l : Label). l.sort) sc.names.labels k)

  named_at : (sort : SortId) (n d : ℕ) → is_named_for sort n (slice_get p.named d) ≡ part_there sort n (option_map head_part (slice_get sc.names.heads d))
  named_at sort n d =
      named_there sort n (slice_get p.named d)
      ∙ ap (part_there sort n) (sym (slice_get-map named_part p.named d) ∙ ap (λ xs. slice_get xs d) known.named.named ∙ slice_get-map head_part sc.names.heads d)

  -- ---- what is read

  -- what is read at a sort is valid there
  abbrev Good : AtSort → Type 0
  Good r = (sort : SortId) (s : Strategy) → r sort ≡ Ok s → valid s sort ≡ true

  abbrev AllGood : List AtSort → Type 0
  AllGood [] = Unit {0}
  AllGood (r ∷ rs) = Good r × AllGood rs

  one_more : (sort : SortId) (ss : List Strategy) (s : Strategy) → all_are sort ss ≡ true → valid s sort ≡ true → all_are sort (ss ++ s ∷ []) ≡ true
  one_more sort ss s e f = list_all-append (λ s. valid s sort) ss (s ∷ [])
      ∙ both (all_are sort ss) (valid s sort && true) e (both (valid s sort) true f refl)

  all_good : (sort : SortId) (before : List Strategy) (rs : List AtSort) → AllGood rs → (ss : List Strategy)
      → all_at sort before rs ≡ Ok ss → all_are sort before ≡ true → all_are sort ss ≡ true
  all_good sort before [] g ss e b = ap (all_are sort) (sym (same_ok e)) ∙ b
  all_good sort before (r ∷ rs) g ss e b = go (λ s more here. all_good sort (before ++ s ∷ []) rs g.1 ss more (one_more sort before s b (g.0 sort s here))) (r sort) refl e
    where
      go : ((s : Strategy) → all_at sort (before ++ s ∷ []) rs ≡ Ok ss → r sort ≡ Ok s → all_are sort ss ≡ true)
          → (d : Result Strategy Fault) → r sort ≡ d → next d (λ s. all_at sort (before ++ s ∷ []) rs) ≡ Ok ss → all_are sort ss ≡ true
      go further (Ok s) e1 e2 = further s e2 e1
      go further (Err f) e1 e2 = absurd (no_ok e2)

  -- a kind of strategy over several at one sort
  several : (make : List Strategy → StrategyNode) → ((sort : SortId) (ss : List Strategy) → valid (node_of (make ss)) sort ≡ all_are sort ss)
      → (rs : List AtSort) → AllGood rs → Good (λ sort. next (all_at sort [] rs) (λ ss. made_so (make ss)))
  several make same rs g sort s e = go (all_at sort [] rs) refl e
    where
      go : (d : Result (List Strategy) Fault) → all_at sort [] rs ≡ d → next d (λ ss. made_so (make ss)) ≡ Ok s → valid s sort ≡ true
      go (Ok ss) e1 e2 = ap (λ x. valid x sort) (sym (same_ok e2)) ∙ same sort ss ∙ all_good sort [] rs g ss e1 refl
      go (Err f) e1 e2 = absurd (no_ok e2)

  -- a kind of strategy over one at the same sort
  single : (make : SortId → Strategy → StrategyNode) → ((sort : SortId) (s : Strategy) → valid s sort ≡ true → valid (node_of (make sort s)) sort ≡ true)
      → (r : AtSort) → Good r → Good (λ sort. next (r sort) (λ s. made_so (make sort s)))
  single make same r g sort s e = go (r sort) refl e
    where
      go : (d : Result Strategy Fault) → r sort ≡ d → next d (λ s. made_so (make sort s)) ≡ Ok s → valid s sort ≡ true
      go (Ok q) e1 e2 = ap (λ x. valid x sort) (sym (same_ok e2)) ∙ same sort q (g sort q e1)
      go (Err f) e1 e2 = absurd (no_ok e2)

  -- ---- a name alone

  rules_good : (sort : SortId) (w : Word) (s : Strategy) (code : Code)
      → rules_or (places (is_rule_of w sort) 0 sc.names.labels) code ≡ Ok s → valid s sort ≡ true
  rules_good sort w s code e = go (places (is_rule_of w sort) 0 sc.names.labels)
      (places_ascend (is_rule_of w sort) 0 sc.names.labels)
      (all_at_once _ _ (rule_at sort) _
      ∙ places_hold (is_rule_of w sort) (λ (l : Option Label). sort_there sort (option_map (λ (l : Label). l.sort) l))
      (λ l h. right (is_labelled w l) (same_sort l.sort sort) h) sc.names.labels [] sc.names.labels 0 refl refl) e
    where
      go : (ns : List ℕ) → do_ascend ns ≡ true → list_all (λ k. is_rule_for sort (slice_get p.rules k)) ns ≡ true
          → rules_or ns code ≡ Ok s → valid s sort ≡ true
      go [] up there e = absurd (no_ok e)
      go (n ∷ ns) up there e = ap (λ x. valid x sort) (sym (same_ok e)) ∙ program.valid-label p scope (node_of (made.Label (n ∷ ns))) sort (n ∷ ns) refl ∙ both _ _ up there

  none_wanted : (h : Head) (sort : SortId) (w : Word) → has_parameters h ≡ false → is_head_of w sort h ≡ true → part_there sort 0 (Some (head_part h)) ≡ true
  none_wanted h sort w few here = both (same_sort h.sort sort) (h.parameters == 0) (right (is_head w h) (same_sort h.sort sort) here) (grind (arith, common_steps))

  call_there : (sort : SortId) (d : ℕ) (h : Head) (ss : List Strategy) → slice_get sc.names.heads d ≡ Some h
      → part_there sort (length ss) (Some (head_part h)) ≡ true → all_are sort ss ≡ true → valid (node_of (made.Call d ss)) sort ≡ true
  call_there sort d h ss at fit all = program.valid-call p scope (node_of (made.Call d ss)) sort d ss refl
      ∙ both _ _ (named_at sort (length ss) d ∙ ap (λ x. part_there sort (length ss) (option_map head_part x)) at ∙ fit) all

  -- what a name alone stands for is valid
  named_good : (sort : SortId) (w : Word) (s : Strategy) → named sc.names sort w ≡ Ok s → valid s sort ≡ true
  unfolding named
  named_good sort w s e = go (first (is_head_of w sort) 0 sc.names.heads) refl e
    where
      called : (d : ℕ) (h : Head) → slice_get sc.names.heads d ≡ Some h → is_head_of w sort h ≡ true → (b : Bool) → has_parameters h ≡ b
          → (if b then Err E07 else Ok (node_of (made.Call d []))) ≡ Ok s → valid s sort ≡ true
      called d h at here true few e = absurd (no_ok e)
      called d h at here false few e = ap (λ x. valid x sort) (sym (same_ok e)) ∙ call_there sort d h [] at (none_wanted h sort w few here) refl

      go : (f : Option (ℕ × Head)) → first (is_head_of w sort) 0 sc.names.heads ≡ f
          → call_or f (rules_or (places (is_rule_of w sort) 0 sc.names.labels) (missing (is_anywhere sc.names w))) ≡ Ok s → valid s sort ≡ true
      go None f e = rules_good sort w s (missing (is_anywhere sc.names w)) e
      go (Some (d, h)) f e = let found = first_found (is_head_of w sort) sc.names.heads [] sc.names.heads 0 refl refl d h f in
          called d h found.0 found.1 (has_parameters h) refl e

  without_token : (t : ℕ) (r : Result Strategy Code) (s : Strategy) → refused_at t r ≡ Ok s → r ≡ Ok s
  without_token t (Ok a) s e = ap (λ x. the_ok Code x) (same_ok e)
  without_token t (Err c) s e = absurd (no_ok e)

  param_there : (sort : SortId) (k : ℕ) (b : Body) → sc.body ≡ Some b → k < length b.parameters → same_sort b.sort sort ≡ true
      → valid (node_of (made.Param k)) sort ≡ true
  param_there sort k b here in_range same = program.valid-param p scope (node_of (made.Param k)) sort k refl
      ∙ ap (λ x. is_valid_param (scope_in x) sort k) here ∙ both _ _ (below k (length b.parameters) in_range) same

  body_good : (sort : SortId) (w : Word) (s : Strategy) (b : Body) → sc.body ≡ Some b → name_in sc sort w (Some b) ≡ Ok s → valid s sort ≡ true
  body_good sort w s b here e = go (first (is_parameter sc w) 0 b.parameters) refl e
    where
      owned : (k x : ℕ) → slice_get b.parameters k ≡ Some x → (same : Bool) → same_sort b.sort sort ≡ same
          → (if same then Ok (node_of (made.Param k)) else Err E22) ≡ Ok s → valid s sort ≡ true
      owned k x at true same e = ap (λ x. valid x sort) (sym (same_ok e)) ∙ param_there sort k b here (slice_get_within b.parameters k x at) same
      owned k x at false same e = absurd (no_ok e)

      go : (f : Option (ℕ × ℕ)) → first (is_parameter sc w) 0 b.parameters ≡ f
          → parameter_or b.sort sort (option_map (λ p. p.0) f) (named sc.names sort w) ≡ Ok s → valid s sort ≡ true
      go None f e = named_good sort w s e
      go (Some (k, x)) f e = owned k x (first_found (is_parameter sc w) b.parameters [] b.parameters 0 refl refl k x f).0 (same_sort b.sort sort) refl e

  word_good : (sort : SortId) (w : Word) (s : Strategy) → name_at sc sort w ≡ Ok s → valid s sort ≡ true
  unfolding name_at
  word_good sort w s e = go sc.body refl e
    where
      go : (b : Option Body) → sc.body ≡ b → name_in sc sort w b ≡ Ok s → valid s sort ≡ true
      go None here e = named_good sort w s e
      go (Some b) here e = body_good sort w s b here e

  name_good : (t : ℕ) → Good (λ sort. refused_at t (name_at sc sort (word_at sc t)))
  name_good t sort s e = word_good sort (word_at sc t) s (without_token t (name_at sc sort (word_at sc t)) s e)

  -- ---- a name over strategies

  all_long : (sort : SortId) (before : List Strategy) (rs : List AtSort) (ss : List Strategy)
      → all_at sort before rs ≡ Ok ss → length ss ≡ length before + length rs
  all_long sort before [] ss e = let same : ss ≡ before = sym (same_ok e) in omega (arith, ap length same)
  all_long sort before (r ∷ rs) ss e = go (λ s more. all_long sort (before ++ s ∷ []) rs ss more) (r sort) e
    where
      go : ((s : Strategy) → all_at sort (before ++ s ∷ []) rs ≡ Ok ss → length ss ≡ length (before ++ s ∷ []) + length rs)
          → (d : Result Strategy Fault) → next d (λ s. all_at sort (before ++ s ∷ []) rs) ≡ Ok ss → length ss ≡ length before + length (r ∷ rs)
      go further (Ok s) e = omega (arith, further s e, length-append before (s ∷ []))
      go further (Err f) e = absurd (no_ok e)

  all_count : (sort : SortId) (rs : List AtSort) (ss : List Strategy) → all_at sort [] rs ≡ Ok ss → length ss ≡ length rs
  all_count sort rs ss e = omega (arith, all_long sort [] rs ss e)

  each_more : (sorts : List SortId) (sort : SortId) (ss : List Strategy) (s : Strategy) → each_fits valid ss sorts ≡ true → valid s sort ≡ true
      → each_fits valid (ss ++ s ∷ []) (sorts ++ sort ∷ []) ≡ true
  each_more [] sort [] s e f = both (valid s sort) true f refl
  each_more [] sort (q ∷ qs) s e f = cc
  each_more (t ∷ ts) sort [] s e f = cc
  each_more (t ∷ ts) sort (q ∷ qs) s e f = both (valid q t) _ (left _ _ e) (each_more ts sort qs s (right (valid q t) (each_fits valid qs ts) e) f)

  each_good : (sorts earlier : List SortId) (before : List Strategy) (rs : List AtSort) → AllGood rs → length sorts ≡ length rs → (ss : List Strategy)
      → each_at sorts before rs ≡ Ok ss → each_fits valid before earlier ≡ true → each_fits valid ss (earlier ++ sorts) ≡ true
  each_good [] earlier before [] g l ss e b = ap (each_fits valid ss) (append-nil earlier) ∙ ap (λ x. each_fits valid x earlier) (sym (same_ok e)) ∙ b
  each_good [] earlier before (r ∷ rs) g l ss e b = cc
  each_good (t ∷ ts) earlier before [] g l ss e b = cc
  each_good (t ∷ ts) earlier before (r ∷ rs) g l ss e b =
      go (λ s more here. each_good ts (earlier ++ t ∷ []) (before ++ s ∷ []) rs g.1 (omega (arith, l)) ss more (each_more earlier t before s b (g.0 t s here))) (r t) refl e
    where
      go : ((s : Strategy) → each_at ts (before ++ s ∷ []) rs ≡ Ok ss → r t ≡ Ok s → each_fits valid ss ((earlier ++ t ∷ []) ++ ts) ≡ true)
          → (d : Result Strategy Fault) → r t ≡ d → next d (λ s. each_at ts (before ++ s ∷ []) rs) ≡ Ok ss → each_fits valid ss (earlier ++ t ∷ ts) ≡ true
      go further (Ok s) e1 e2 = ap (each_fits valid ss) (sym (append_assoc earlier (t ∷ []) ts)) ∙ further s e2 e1
      go further (Err f) e1 e2 = absurd (no_ok e2)

  each_some : (ss : List Strategy) (sorts : List SortId) → 0 < length sorts → each_fits valid ss sorts ≡ true → is_some_list ss ≡ true
  each_some [] [] some e = absurd (omega arith)
  each_some [] (sort ∷ sorts) some e = cc
  each_some (s ∷ ss) sorts some e = refl

  the_wanted : (h : Head) (sort : SortId) (w : Word) (n : ℕ) → (h.parameters == n) ≡ true → is_wide_head_of w sort h ≡ true → part_there sort n (Some (head_part h)) ≡ true
  the_wanted h sort w n many here = both (same_sort h.sort sort) (h.parameters == n)
      (right (is_head w h) (same_sort h.sort sort) (left (is_head_of w sort h) (has_parameters h) here)) many

  over_call : (sort : SortId) (rs : List AtSort) → AllGood rs → (d : ℕ) (h : Head) → slice_get sc.names.heads d ≡ Some h → part_there sort (length rs) (Some (head_part h)) ≡ true
      → (s : Strategy) → over sc sort rs (Definition d) ≡ Ok s → valid s sort ≡ true
  over_call sort rs g d h at fit s e = go (all_at sort [] rs) refl e
    where
      go : (r : Result (List Strategy) Fault) → all_at sort [] rs ≡ r → next r (λ ss. made_so (made.Call d ss)) ≡ Ok s → valid s sort ≡ true
      go (Err f) here e = absurd (no_ok e)
      go (Ok ss) here e = ap (λ x. valid x sort) (sym (same_ok e))
          ∙ call_there sort d h ss at (ap (λ n. part_there sort n (Some (head_part h))) (all_count sort rs ss here) ∙ fit) (all_good sort [] rs g ss here refl)

  cong_fits : (o : Operator) (ss : List Strategy) → o.ac ≡ false → 0 < length o.args → each_fits valid ss o.args ≡ true → congruence_fits valid ss (congruent_sorts (Some o)) ≡ true
  cong_fits o ss plain some each =
      ap (λ b. congruence_fits valid ss (if b then None else Some o.args)) plain ∙ both (is_some_list ss) (each_fits valid ss o.args) (each_some ss o.args some each) each

  module _ (sound : is_sound p.signature ≡ true) where
    spelled : (k : ℕ) (o : Operator) → slice_get sc.operators k ≡ Some o → holes o.pieces ≡ length o.args
    spelled k o at = spelled_so p sound k o (ap (λ xs. slice_get xs k) known.operators ∙ at)

    over_cong : (sort : SortId) (rs : List AtSort) → AllGood rs → (w : Word) (k : ℕ) (o : Operator) → slice_get sc.operators k ≡ Some o → is_prefixed_of w (length rs) sort o ≡ true
        → (s : Strategy) → over sc sort rs (AnOperator (record { 0 = k })) ≡ Ok s → valid s sort ≡ true
    over_cong sort rs g w k o at fit s e = go (each_at (sorts_of (slice_get sc.operators k)) [] rs) refl e
      where
        holed : (o.ac ≡ false) × (holes o.pieces ≡ length rs) × (0 < length rs)
        holed = prefixed_holes w (length rs) o (left (is_prefixed w (length rs) o) (same_sort o.sort sort) fit)

        go : (r : Result (List Strategy) Fault) → each_at (sorts_of (slice_get sc.operators k)) [] rs ≡ r → next r (λ ss. made_so (made.Cong (record { 0 = k }) ss)) ≡ Ok s
            → valid s sort ≡ true
        go (Err f) here e = absurd (no_ok e)
        go (Ok ss) here e =
            let many : length o.args ≡ length rs = sym (spelled k o at) ∙ holed.1 in
            ap (λ x. valid x sort) (sym (same_ok e))
            ∙ program.valid-cong p scope (node_of (made.Cong (record { 0 = k }) ss)) sort (record { 0 = k }) ss refl
            ∙ ap (λ xs. congruence_fits valid ss (congruent_sorts (slice_get xs k))) known.operators
            ∙ ap (λ x. congruence_fits valid ss (congruent_sorts x)) at
            ∙ cong_fits o ss holed.0 (omega (arith, many, holed.2)) (each_good o.args [] [] rs g many ss (ap (λ x. each_at (sorts_of x) [] rs) (sym at) ∙ here) refl)

    over_good : (sort : SortId) (rs : List AtSort) → AllGood rs → (w : Word) (target : Target) → applied sc.names sc.operators sort w (length rs) ≡ Ok target
        → (s : Strategy) → over sc sort rs target ≡ Ok s → valid s sort ≡ true
    unfolding applied
    over_good sort rs g w target e s e2 = go (first (is_wide_head_of w sort) 0 sc.names.heads) refl e
      where
        code : Code
        code = missing (is_applied_anywhere sc.names sc.operators w (length rs))

        called : (d : ℕ) (h : Head) → slice_get sc.names.heads d ≡ Some h → is_wide_head_of w sort h ≡ true → (b : Bool) → (h.parameters == length rs) ≡ b
            → (if b then Ok (Definition d) else Err E07) ≡ Ok target → valid s sort ≡ true
        called d h at wide true many e = over_call sort rs g d h at (the_wanted h sort w (length rs) many wide) s (ap (over sc sort rs) (same_ok e) ∙ e2)
        called d h at wide false many e = absurd (no_ok e)

        operators : (ks : List ℕ) → places (is_prefixed_of w (length rs) sort) 0 sc.operators ≡ ks → operator_or ks code ≡ Ok target → valid s sort ≡ true
        operators [] f e = absurd (no_ok e)
        operators (k ∷ []) f e = let there = place_found (is_prefixed_of w (length rs) sort) sc.operators [] sc.operators 0 refl refl k [] f in
            over_cong sort rs g w k there.0 there.1 there.2 s (ap (over sc sort rs) (same_ok e) ∙ e2)
        operators (k ∷ j ∷ more) f e = absurd (no_ok e)

        go : (f : Option (ℕ × Head)) → first (is_wide_head_of w sort) 0 sc.names.heads ≡ f
            → definition_or (length rs) f (operator_or (places (is_prefixed_of w (length rs) sort) 0 sc.operators) code) ≡ Ok target → valid s sort ≡ true
        go None f e = operators (places (is_prefixed_of w (length rs) sort) 0 sc.operators) refl e
        go (Some (d, h)) f e = let found = first_found (is_wide_head_of w sort) sc.names.heads [] sc.names.heads 0 refl refl d h f in
            called d h found.0 found.1 (h.parameters == length rs) refl e

    applied_good : (t : ℕ) (rs : List AtSort) → AllGood rs → Good (λ sort. applied_at sc t sort rs)
    unfolding target_at
    applied_good t rs g sort s e = go (applied sc.names sc.operators sort (word_at sc t) (length rs)) refl e
      where
        go : (d : Result Target Code) → applied sc.names sc.operators sort (word_at sc t) (length rs) ≡ d → next (refused_at t d) (over sc sort rs) ≡ Ok s → valid s sort ≡ true
        go (Ok target) here e = over_good sort rs g (word_at sc t) target here s e
        go (Err code) here e = absurd (no_ok e)

    -- ---- plans

    valid_seq : (sort : SortId) (ss : List Strategy) → valid (node_of (made.Seq ss)) sort ≡ all_are sort ss
    valid_seq sort ss = program.valid-seq p scope (node_of (made.Seq ss)) sort ss refl

    valid_all : (sort : SortId) (ss : List Strategy) → valid (node_of (made.All ss)) sort ≡ all_are sort ss
    valid_all sort ss = program.valid-all p scope (node_of (made.All ss)) sort ss refl

    valid_first : (one : Bool) (sort : SortId) (ss : List Strategy) → valid (node_of (made.First one ss)) sort ≡ all_are sort ss
    valid_first one sort ss = program.valid-first p scope (node_of (made.First one ss)) sort one ss refl

    valid_repeat : (sort : SortId) (s : Strategy) → valid s sort ≡ true → valid (node_of (made.Repeat s)) sort ≡ true
    valid_repeat sort s v = program.valid-repeat p scope (node_of (made.Repeat s)) sort s refl ∙ v

    valid_iterate : (sort : SortId) (s : Strategy) → valid s sort ≡ true → valid (node_of (made.Iterate s)) sort ≡ true
    valid_iterate sort s v = program.valid-iterate p scope (node_of (made.Iterate s)) sort s refl ∙ v

    valid_iterate_plus : (sort : SortId) (s : Strategy) → valid s sort ≡ true → valid (node_of (made.IteratePlus s)) sort ≡ true
    valid_iterate_plus sort s v = program.valid-iterate_plus p scope (node_of (made.IteratePlus s)) sort s refl ∙ v

    valid_normalise : (sort : SortId) (s : Strategy) → valid s sort ≡ true → valid (node_of (made.Normalise sort s)) sort ≡ true
    valid_normalise sort s v = program.valid-normalise p scope (node_of (made.Normalise sort s)) sort sort s refl ∙ both (same_sort sort sort) (valid s sort) (equal_sorts sort) v

    mutual
      node_good : (i : PlanNode) → Good (plans.fold_node (at_level sc) i)
      node_good plan.Id = λ sort s e. ap (λ x. valid x sort) (sym (same_ok e)) ∙ program.valid-id p scope (node_of made.Id) sort refl
      node_good plan.Fail = λ sort s e. ap (λ x. valid x sort) (sym (same_ok e)) ∙ program.valid-fail p scope (node_of made.Fail) sort refl
      node_good (plan.Name t) = name_good t
      node_good (plan.Applied' t shape row) = applied_good t _ (row_good row)
      node_good (plan.Seq' shape row) = several made.Seq valid_seq _ (row_good row)
      node_good (plan.All' shape row) = several made.All valid_all _ (row_good row)
      node_good (plan.First' one shape row) = several (made.First one) (valid_first one) _ (row_good row)
      node_good (plan.Repeat' shape (more_of-Plan p end_of-Plan)) = single (λ _ s. made.Repeat s) valid_repeat _ (node_good p)
      node_good (plan.Iterate' shape (more_of-Plan p end_of-Plan)) = single (λ _ s. made.Iterate s) valid_iterate _ (node_good p)
      node_good (plan.IteratePlus' shape (more_of-Plan p end_of-Plan)) = single (λ _ s. made.IteratePlus s) valid_iterate_plus _ (node_good p)
      node_good (plan.Normalise' shape (more_of-Plan p end_of-Plan)) = single made.Normalise valid_normalise _ (node_good p)

      row_good : {n : _} (row : Row_of-Plan n) → AllGood (plans.fold_row (at_level sc) row)
      row_good end_of-Plan = tt
      row_good (more_of-Plan p rest) = (node_good p, row_good rest)

    -- what is read from a plan at a sort is valid there
    pub plan_good : (q : Plan) → Good (resolved sc q)
    unfolding resolved
    plan_good q = node_good q.node

-- what a call read is valid, in each program that has what is known
pub read_valid : (sc : Site) (sort : SortId) (q : Plan) (r : Result Strategy Stopped) → Gives r (resolved sc q sort)
    → IfOk r (λ s. (p : Parts) → IsKnownAt p sc → is_sound p.signature ≡ true → is_valid_strategy p (scope_in sc.body) s sort ≡ true)
read_valid sc sort q (Ok s) g = λ p known sound. plan_good p sc known sound q sort s g
read_valid sc sort q (Err (Refused f)) g = tt
read_valid sc sort q (Err NoMemory) g = tt
