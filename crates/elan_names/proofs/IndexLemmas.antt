-- What an index finds is what going through all names finds.
use Rattle.std.proofs.Common.{◌≡◌, refl, sym, ap, ◌∙◌, ℕ, zero, suc, ◌+◌, ◌<◌, ◌≤◌, ◌==◌, Bool, true, false, ◌&&◌, ◌||◌, List, [], ◌∷◌, ◌++◌, length, append_assoc, length-append, arith}
use Rattle.elan_text.specs.declared.refusal.Code.{Code}
use Rattle.elan_program.specs.declared.strategy.Strategy.{Strategy}
use Rattle.elan_names.specs.declared.heads.Target.{Target}
use Rattle.std.specs.Prelude.{Result, Option, Some, None, if◌then◌else◌, nat_lt, take, slice_get}
use Rattle.std.proofs.lemmas.Grind.{common_steps}
use Rattle.std.specs.List.{list_any}
use Rattle.std.specs.Option.{option_map}
use Rattle.std.specs.Str.{bytes_eq}
use Rattle.std.proofs.lemmas.Option.{slice_get-get_or}
use Rattle.std.proofs.Math.Seq.{get_or-append_seam}
use Rattle.elan_text.specs.declared.name.Name.{Name}
use Rattle.elan_terms.specs.declared.tree.SortId.{SortId}
use Rattle.elan_program.specs.declared.signature.Operator.{Operator}
use Rattle.elan_program.specs.Soundness.{same_sort, is_some_list}
use Rattle.elan_names.specs.declared.heads.Label.{Label}
use Rattle.elan_names.specs.declared.heads.Head.{Head}
use Rattle.elan_names.specs.declared.heads.Names.{Names}
use Rattle.elan_names.specs.declared.index.Index.{Index}
use Rattle.elan_names.specs.Names.{Word, where_passed, places, first, has_parameters, is_head, is_head_of, is_wide_head, is_wide_head_of, is_labelled, is_label, is_rule_of, prefix_at, is_prefix, is_prefixed, is_prefixed_of, is_anywhere, is_applied_anywhere, is_taken, missing, named, applied, call_or, rules_or, definition_or, operator_or}
use Rattle.elan_names.specs.Groups.{KeyValue, under, is_key, by_name, by_sort, by_holes, by_prefix}
use Rattle.elan_names.specs.Indexed.{name_key, head_key, wide_name_key, wide_key, label_key, rule_key, prefix_key, operator_key, found, below_first, IsIndexOf}

-- ---- numbers

module _ {A : Type 0} where
  pub same_places : (p q : A → Bool) → ((x : A) → p x ≡ q x) → (n : ℕ) (xs : List A) → places p n xs ≡ places q n xs
  same_places p q e n [] = refl
  same_places p q e n (x ∷ xs) = ap (λ b. where_passed b n ++ places p (n + 1) xs) (e x) ∙ ap (λ r. where_passed (q x) n ++ r) (same_places p q e (n + 1) xs)

  pub some_places : (p : A → Bool) (n : ℕ) (xs : List A) → is_some_list (places p n xs) ≡ list_any p xs
  some_places p n [] = refl
  some_places p n (x ∷ xs) = go (p x) (some_places p (n + 1) xs)
    where
      go : (b : Bool) → is_some_list (places p (n + 1) xs) ≡ list_any p xs → is_some_list (where_passed b n ++ places p (n + 1) xs) ≡ b || list_any p xs
      go true more = refl
      go false more = more

  -- ---- the item of a number

  seam : (pre : List A) (x : A) (xs : List A) → slice_get (pre ++ x ∷ xs) (length pre) ≡ Some x
  seam pre x xs = slice_get-get_or (pre ++ x ∷ xs) (length pre) x (omega (arith, length-append pre (x ∷ xs))) ∙ ap Some (get_or-append_seam pre x xs x)

  pub at_seam : (w pre : List A) (x : A) (xs : List A) (n : ℕ) → w ≡ pre ++ x ∷ xs → n ≡ length pre → slice_get w n ≡ Some x
  at_seam w pre x xs n e l = ap (λ v. slice_get v n) e ∙ ap (slice_get (pre ++ x ∷ xs)) l ∙ seam pre x xs

  pub longer : (w pre : List A) (x : A) (xs : List A) → w ≡ pre ++ x ∷ xs → w ≡ (pre ++ x ∷ []) ++ xs
  longer w pre x xs e = e ∙ sym (append_assoc pre (x ∷ []) xs)

  pub one_more : (pre : List A) (x : A) (n : ℕ) → n ≡ length pre → n + 1 ≡ length (pre ++ x ∷ [])
  one_more pre x n l = omega (arith, length-append pre (x ∷ []))

  found_first : (p : A → Bool) (w pre xs : List A) (n : ℕ) → w ≡ pre ++ xs → n ≡ length pre → found w (places p n xs) ≡ first p n xs
  found_first p w pre [] n e l = refl
  found_first p w pre (x ∷ xs) n e l = go (p x) (found_first p w (pre ++ x ∷ []) xs (n + 1) (longer w pre x xs e) (one_more pre x n l))
    where
      go : (b : Bool) → found w (places p (n + 1) xs) ≡ first p (n + 1) xs
          → found w (where_passed b n ++ places p (n + 1) xs) ≡ (if b then Some (n, x) else first p (n + 1) xs)
      go true r = ap (option_map (λ x. (n, x))) (at_seam w pre x xs n e l)
      go false r = r

  first_there : (p : A → Bool) (xs : List A) → found xs (places p 0 xs) ≡ first p 0 xs
  first_there p xs = found_first p xs [] xs 0 refl refl

-- ---- the first number

no_lower : (m n : ℕ) → m ≤ n → nat_lt n m ≡ false
no_lower m n e = grind (arith, common_steps)

lower : (m n : ℕ) → m < n → nat_lt m n ≡ true
lower m n e = grind (arith, common_steps)

module _ {A : Type 0} (p : A → Bool) where
  -- no number is below the first of all
  none_below : (m n : ℕ) (xs : List A) → m ≤ n → below_first m (places p n xs) ≡ false
  none_below m n [] e = refl
  none_below m n (x ∷ xs) e = go (p x) (none_below m (n + 1) xs (omega (arith, e)))
    where
      go : (b : Bool) → below_first m (places p (n + 1) xs) ≡ false → below_first m (where_passed b n ++ places p (n + 1) xs) ≡ false
      go true more = no_lower m n e
      go false more = more

  first_below : (m k : ℕ) (xs : List A) → list_any p (take k xs) ≡ below_first (m + k) (places p m xs)
  first_below m zero xs = sym (none_below (m + zero) m xs (omega arith))
  first_below m (suc k) [] = refl
  first_below m (suc k) (x ∷ xs) = go (p x) (first_below (m + 1) k xs)
    where
      same : (m + 1) + k ≡ m + suc k
      same = omega arith

      go : (b : Bool) → list_any p (take k xs) ≡ below_first ((m + 1) + k) (places p (m + 1) xs)
          → b || list_any p (take k xs) ≡ below_first (m + suc k) (where_passed b m ++ places p (m + 1) xs)
      go true more = sym (lower m (m + suc k) (omega arith))
      go false more = more ∙ ap (λ n. below_first n (places p (m + 1) xs)) same

  taken_before : (k : ℕ) (xs : List A) → below_first k (places p 0 xs) ≡ list_any p (take k xs)
  taken_before k xs = ap (λ n. below_first n (places p 0 xs)) from_none ∙ sym (first_below 0 k xs)
    where
      from_none : k ≡ 0 + k
      from_none = omega arith

-- ---- keys

pub and_true : (a : Bool) → a && true ≡ a
and_true true = refl
and_true false = refl

and_false : (a : Bool) → a && false ≡ false
and_false true = refl
and_false false = refl

and_assoc : (a b c : Bool) → a && (b && c) ≡ (a && b) && c
and_assoc true b c = refl
and_assoc false b c = refl

at_head : (w : Word) (sort : SortId) (h : Head) → is_key (by_sort w sort) (head_key h) ≡ is_head_of w sort h
at_head w sort h = refl

at_name : (w : Word) (h : Head) → is_key (by_name w) (name_key h) ≡ is_head w h
at_name w h = and_true (is_head w h)

if_wide : (asked : KeyValue) (key : Option KeyValue) (b : Bool) → is_key asked (if b then key else None) ≡ is_key asked key && b
if_wide asked key true = sym (and_true (is_key asked key))
if_wide asked key false = sym (and_false (is_key asked key))

at_wide : (w : Word) (sort : SortId) (h : Head) → is_key (by_sort w sort) (wide_key h) ≡ is_wide_head_of w sort h
at_wide w sort h = if_wide (by_sort w sort) (head_key h) (has_parameters h)

at_wide_name : (w : Word) (h : Head) → is_key (by_name w) (wide_name_key h) ≡ is_wide_head w h
at_wide_name w h = if_wide (by_name w) (name_key h) (has_parameters h) ∙ ap (λ b. b && has_parameters h) (at_name w h)

at_label : (w : Word) (l : Label) → is_key (by_name w) (label_key l) ≡ is_labelled w l
at_label w l = go l.name
  where
    go : (name : Option Name) → is_key (by_name w) (option_map (λ name. by_name name.bytes) name) ≡ is_label w name
    go None = refl
    go (Some name) = and_true (is_label w (Some name))

at_rule : (w : Word) (sort : SortId) (l : Label) → is_key (by_sort w sort) (rule_key l) ≡ is_rule_of w sort l
at_rule w sort l = go l.name
  where
    go : (name : Option Name) → is_key (by_sort w sort) (option_map (λ name. by_sort name.bytes l.sort) name) ≡ (is_label w name && same_sort l.sort sort)
    go None = refl
    go (Some name) = refl

at_prefix : (w : Word) (n : ℕ) (o : Operator) → is_key (by_holes w n) (prefix_key o) ≡ is_prefixed w n o
at_prefix w n o = go (prefix_at o)
  where
    go : (p : Option (Word × ℕ)) → is_key (by_holes w n) (option_map (λ p. by_holes p.0 p.1) p) ≡ is_prefix w n p
    go None = refl
    go (Some p) = ap (λ b. bytes_eq p.0 w && b) (and_true (p.1 == n))

at_operator : (w : Word) (n : ℕ) (sort : SortId) (o : Operator) → is_key (by_prefix w n sort) (operator_key o) ≡ is_prefixed_of w n sort o
at_operator w n sort o = go (prefix_at o)
  where
    go : (p : Option (Word × ℕ)) → is_key (by_prefix w n sort) (option_map (λ p. by_prefix p.0 p.1 o.sort) p) ≡ (is_prefix w n p && same_sort o.sort sort)
    go None = refl
    go (Some p) = and_assoc (bytes_eq p.0 w) (p.1 == n) (same_sort o.sort sort)

-- ---- what is found

module _ (i : Index) (names : Names) (operators : List Operator) (known : IsIndexOf i names operators) where
  module _ (w : Word) (sort : SortId) (key : KeyValue) (asked : key ≡ by_sort w sort) (ns : List ℕ) where
    pub first_head : ns ≡ under i.heads.sorted key → found names.heads ns ≡ first (is_head_of w sort) 0 names.heads
    first_head e = ap (found names.heads) (e ∙ ap (under i.heads.sorted) asked ∙ known.heads.sorted (by_sort w sort)) ∙ first_there (is_head_of w sort) names.heads

    pub first_wide : ns ≡ under i.heads.wide key → found names.heads ns ≡ first (is_wide_head_of w sort) 0 names.heads
    first_wide e = ap (found names.heads) (e ∙ ap (under i.heads.wide) asked ∙ known.heads.wide (by_sort w sort) ∙ same_places _ _ (at_wide w sort) 0 names.heads)
        ∙ first_there (is_wide_head_of w sort) names.heads

    pub rules_there : ns ≡ under i.labels.sorted key → ns ≡ places (is_rule_of w sort) 0 names.labels
    rules_there e = e ∙ ap (under i.labels.sorted) asked ∙ known.labels.sorted (by_sort w sort) ∙ same_places _ _ (at_rule w sort) 0 names.labels

  pub taken_there : (w : Word) (sort : SortId) (key : KeyValue) → key ≡ by_sort w sort → (before : ℕ) (hs rs : List ℕ)
      → hs ≡ under i.heads.sorted key → rs ≡ under i.labels.sorted key
      → below_first before hs || is_some_list rs ≡ is_taken names before sort w
  taken_there w sort key asked before hs rs e f =
      ap (λ x. below_first before x || is_some_list rs) (e ∙ ap (under i.heads.sorted) asked ∙ known.heads.sorted (by_sort w sort))
      ∙ ap (λ b. b || is_some_list rs) (taken_before (is_head_of w sort) before names.heads)
      ∙ ap (λ x. list_any (is_head_of w sort) (take before names.heads) || is_some_list x) (rules_there w sort key asked rs f)
      ∙ ap (λ b. list_any (is_head_of w sort) (take before names.heads) || b) (some_places (is_rule_of w sort) 0 names.labels)

  heads_named : (w : Word) → is_some_list (under i.heads.named (by_name w)) ≡ list_any (is_head w) names.heads
  heads_named w = ap is_some_list (known.heads.named (by_name w) ∙ same_places _ _ (at_name w) 0 names.heads) ∙ some_places (is_head w) 0 names.heads

  labels_named : (w : Word) → is_some_list (under i.labels.named (by_name w)) ≡ list_any (is_labelled w) names.labels
  labels_named w = ap is_some_list (known.labels.named (by_name w) ∙ same_places _ _ (at_label w) 0 names.labels) ∙ some_places (is_labelled w) 0 names.labels

  wide_named : (w : Word) → is_some_list (under i.heads.wide_named (by_name w)) ≡ list_any (is_wide_head w) names.heads
  wide_named w = ap is_some_list (known.heads.wide_named (by_name w) ∙ same_places _ _ (at_wide_name w) 0 names.heads) ∙ some_places (is_wide_head w) 0 names.heads

  prefixed : (w : Word) (n : ℕ) → is_some_list (under i.operators.counted (by_holes w n)) ≡ list_any (is_prefixed w n) operators
  prefixed w n = ap is_some_list (known.operators.counted (by_holes w n) ∙ same_places _ _ (at_prefix w n) 0 operators) ∙ some_places (is_prefixed w n) 0 operators

  pub named_anywhere : (w : Word) (key : KeyValue) → key ≡ by_name w → (hs ls : List ℕ) → hs ≡ under i.heads.named key → ls ≡ under i.labels.named key
      → is_some_list hs || is_some_list ls ≡ is_anywhere names w
  named_anywhere w key asked hs ls e f =
      ap (λ x. is_some_list x || is_some_list ls) (e ∙ ap (under i.heads.named) asked)
      ∙ ap (λ x. is_some_list (under i.heads.named (by_name w)) || is_some_list x) (f ∙ ap (under i.labels.named) asked)
      ∙ ap (λ b. b || is_some_list (under i.labels.named (by_name w))) (heads_named w)
      ∙ ap (λ b. list_any (is_head w) names.heads || b) (labels_named w)

  pub applied_anywhere : (w : Word) (n : ℕ) (key over : KeyValue) → key ≡ by_name w → over ≡ by_holes w n → (hs os : List ℕ)
      → hs ≡ under i.heads.wide_named key → os ≡ under i.operators.counted over
      → is_some_list hs || is_some_list os ≡ is_applied_anywhere names operators w n
  applied_anywhere w n key over asked counted hs os e f =
      ap (λ x. is_some_list x || is_some_list os) (e ∙ ap (under i.heads.wide_named) asked)
      ∙ ap (λ x. is_some_list (under i.heads.wide_named (by_name w)) || is_some_list x) (f ∙ ap (under i.operators.counted) counted)
      ∙ ap (λ b. b || is_some_list (under i.operators.counted (by_holes w n))) (wide_named w)
      ∙ ap (λ b. list_any (is_wide_head w) names.heads || b) (prefixed w n)

  pub operators_there : (w : Word) (n : ℕ) (sort : SortId) (key : KeyValue) → key ≡ by_prefix w n sort → (os : List ℕ)
      → os ≡ under i.operators.sorted key → os ≡ places (is_prefixed_of w n sort) 0 operators
  operators_there w n sort key asked os e = e ∙ ap (under i.operators.sorted) asked ∙ known.operators.sorted (by_prefix w n sort) ∙ same_places _ _ (at_operator w n sort) 0 operators

-- ---- what was found first decides

pub named_call : (names : Names) (sort : SortId) (w : Word) (d : ℕ × Head) (r : Result Strategy Code) → first (is_head_of w sort) 0 names.heads ≡ Some d
    → ((other : Result Strategy Code) → r ≡ call_or (Some d) other) → r ≡ named names sort w
unfolding named
named_call names sort w d r f e =
    e (rules_or (places (is_rule_of w sort) 0 names.labels) (missing (is_anywhere names w)))
    ∙ ap (λ d. call_or d (rules_or (places (is_rule_of w sort) 0 names.labels) (missing (is_anywhere names w)))) (sym f)

pub applied_call : (names : Names) (operators : List Operator) (sort : SortId) (w : Word) (n : ℕ) (d : ℕ × Head) (r : Result Target Code)
    → first (is_wide_head_of w sort) 0 names.heads ≡ Some d → ((other : Result Target Code) → r ≡ definition_or n (Some d) other) → r ≡ applied names operators sort w n
unfolding applied
applied_call names operators sort w n d r f e =
    e (operator_or (places (is_prefixed_of w n sort) 0 operators) (missing (is_applied_anywhere names operators w n)))
    ∙ ap (λ d. definition_or n d (operator_or (places (is_prefixed_of w n sort) 0 operators) (missing (is_applied_anywhere names operators w n)))) (sym f)
