-- What stands behind the `for` of a section of rules, told by its first tokens, is the plain rule with its condition.
use Rattle.std.proofs.Common.{◌≡◌, ℕ, ◌+◌, Bool, true, false, ◌||◌, List, [], ◌∷◌, ◌++◌, length, ◌⊎◌, inl, inr, Option, Some, None, refl, sym, ap, subst, ◌∙◌, arith}
use Rattle.std.specs.Prelude.{not, drop, ◌↔◌}
use Rattle.elan_forms.specs.Form.{Form, ◌>>=◌, ◌>>◌, pure, either}
use Rattle.elan_forms.proofs.Exact.{Starts, silent_in, silent_out, assoc_in, assoc_out}
use Rattle.elan_forms.proofs.Choices.{left_in, right_in, either_out}
use Rattle.elan_forms.proofs.Loops.{none_in, more_in, loop_out}
use Rattle.elan_phrases.specs.declared.span.Span.{Span}
use Rattle.elan_phrases.specs.declared.symbol.Symbol.{Symbol}
use Rattle.elan_phrases.specs.declared.symbol.Symbol.TheVariants.{LeftSquare, RightSquare}
use Rattle.elan_phrases.specs.Symbols.{Seen, same_symbol, one, a, names, labels, visibilities}
use Rattle.elan_phrases.specs.Beginnings.{begins_ruled}
use Rattle.elan_phrases.specs.Tokens.{Rule, sign, number_of, span, span_of, visibility}
use Rattle.elan_phrases.specs.SortExpressions.{closing_arguments, sort_span}
use Rattle.elan_phrases.proofs.SymbolSets.{separate}
use Rattle.elan_phrases.proofs.ExactTokens.{sign_takes, visibility_takes}
use Rattle.elan_syntax.specs.declared.parts.Vars.{Vars}
use Rattle.elan_syntax.specs.declared.parts.RuleOutline.{RuleOutline}
use Rattle.elan_syntax.specs.declared.rules.RulesFor.{RulesFor}
use Rattle.elan_syntax.specs.Grammar.{vars, more_vars, bracket, some_label, sides, rule, ruled, more_ruled, rules_of, bare_rule_first, ruled_sort, ruled_bracket, vars_first, visibility_first, behind_ruled, rules_for}
use Rattle.elan_syntax.specs.PlainGrammar.{plain_rules, is_closed, LeavesNoBracket}
use Rattle.elan_syntax.proofs.ExactGrammar.{vars_takes}
use Rattle.elan_syntax.proofs.SortWords.{one_number, one_span, span_one, number_one, sort_bare, sort_bracketed, IsBare, HasArguments, sort_out}

pub bind_map : {T A B : Type 0} (f : Form T A) (g h : A → Form T B) (n : ℕ) (ts : List T) (y : B) →
    ((x : A) (m : ℕ) (v : List T) → (g x).words m v y → (h x).words m v y) → (f >>= g).words n ts y → (f >>= h).words
    n ts y
bind_map f g h n ts y k (u, v, x, fw, gw, e) = (u, v, x, fw, k x _ v gw, e)

-- one more turn from a value that was found
pub into : {T A S R : Type 0} (f : Form T A) (make : A → S) (k : S → Form T R) (n : ℕ) (ts : List T) (y : R) →
    (f >>= (λ x. k (make x))).words n ts y → (f >>= (λ x. pure (make x)) >>= k).words n ts y
into f make k n ts y w =
    assoc_in f (λ x. pure (make x)) k n ts y
    (bind_map f (λ x. k (make x)) (λ x. pure (make x) >>= k) n ts y (λ x m v kw. silent_in (λ _. make x) k m v y kw) w)

pub out_of : {T A S R : Type 0} (f : Form T A) (make : A → S) (k : S → Form T R) (n : ℕ) (ts : List T) (y : R) →
    (f >>= (λ x. pure (make x)) >>= k).words n ts y → (f >>= (λ x. k (make x))).words n ts y
out_of f make k n ts y w =
    bind_map f (λ x. pure (make x) >>= k) (λ x. k (make x)) n ts y (λ x m v kw. silent_out (λ _. make x) k m v y kw)
    (assoc_out f (λ x. pure (make x)) k n ts y w)

-- what follows the `[` of a rule
abbrev behind : ℕ → Option ℕ → Rule RuleOutline
behind at label = sign RightSquare >>= (λ _. sides at label)

-- ---- what begins so is closed

closed_behind : (p : Symbol → Bool) (ts : List Seen) → Starts (a p) ts →
    ((s : Symbol) → p s ≡ true → one LeftSquare s ≡ true → ⊥) → is_closed ts ≡ true
closed_behind p [] s apart = refl
closed_behind p (t ∷ []) s apart = refl
closed_behind p (t ∷ u ∷ ts) s apart = go (one LeftSquare t.symbol) refl
  where
    go : (d : Bool) → one LeftSquare t.symbol ≡ d → not d || a (one RightSquare) u ≡ true
    go true e = absurd (apart t.symbol s e)
    go false e = refl

starts_part : (p : Seen → Bool) (u v ts : List Seen) → ts ≡ u ++ v → Starts p u → Starts p ts
starts_part p [] v ts e s = absurd s
starts_part p (t ∷ u) v ts e s = subst (Starts p) (sym e) s

-- what stands behind the `[` of a bare rule begins with `]`
closed_second : (t : Seen) (v : List Seen) → Starts (a (one RightSquare)) v → is_closed (t ∷ v) ≡ true
closed_second t [] s = refl
closed_second t (u ∷ v) s = go (not (a (one LeftSquare) t)) s
  where
    go : (d : Bool) → a (one RightSquare) u ≡ true → d || a (one RightSquare) u ≡ true
    go true e = refl
    go false e = e

-- ---- behind a sort

module _ (s : Span) where
  -- { vis | rule } behind these
  abbrev tail_from : List Vars → List RuleOutline → Rule RulesFor
  tail_from vs rs = more_ruled rs >>= (λ found. pure (rules_of s vs found))

  -- { vars } { vis | rule }
  abbrev tail : Rule RulesFor
  tail = more_vars [] >>= (λ vs. tail_from vs [])

  first_ruled : (n : ℕ) (ts : List Seen) (y : RulesFor) → (rule >>= (λ r. tail_from [] (r ∷ []))).words n ts y →
      (tail_from [] []).words n ts y
  unfolding more_ruled ruled
  first_ruled n ts y w =
      more_in (λ _. a begins_ruled) ruled (λ found. pure (rules_of s [] found)) [] n ts y
      (right_in (visibility >> pure []) (rule >>= (λ r. pure (r ∷ []))) (tail_from []) n ts y
      (into rule (λ r. r ∷ []) (tail_from []) n ts y w))

  first_visible : (n : ℕ) (ts : List Seen) (y : RulesFor) → (visibility >> tail_from [] []).words n ts y →
      (tail_from [] []).words n ts y
  unfolding more_ruled ruled
  first_visible n ts y w =
      more_in (λ _. a begins_ruled) ruled (λ found. pure (rules_of s [] found)) [] n ts y
      (left_in (visibility >> pure []) (rule >>= (λ r. pure (r ∷ []))) (tail_from []) n ts y
      (into visibility (λ _. []) (tail_from []) n ts y w))

  no_vars : (n : ℕ) (ts : List Seen) (y : RulesFor) → (tail_from [] []).words n ts y → tail.words n ts y
  unfolding more_vars
  no_vars n ts y w = none_in (λ _. a names) (λ found. vars >>= (λ v. pure (found ++ v ∷ []))) (λ vs. tail_from vs [])
      [] n ts y w

  some_vars : (n : ℕ) (ts : List Seen) (y : RulesFor) → (vars_first s).words n ts y → tail.words n ts y
  unfolding more_vars vars_first
  some_vars n ts y w =
      more_in (λ _. a names) (λ found. vars >>= (λ v. pure (found ++ v ∷ []))) (λ vs. tail_from vs []) [] n ts y
      (into vars (λ v. v ∷ []) (λ vs. more_vars vs >>= (λ vs. tail_from vs [])) n ts y w)

  nothing : (n : ℕ) (ts : List Seen) (y : RulesFor) → (ts ≡ []) × (y ≡ rules_of s [] []) →
      (tail_from [] []).words n ts y
  unfolding more_ruled
  nothing n ts y w = none_in (λ _. a begins_ruled) ruled (λ found. pure (rules_of s [] found)) [] n ts y w

  vars_closed : (n : ℕ) (ts : List Seen) (y : RulesFor) → (vars_first s).words n ts y → is_closed ts ≡ true
  unfolding vars_first same_symbol names
  vars_closed n ts y (u, v, x, fw, gw, e) =
      closed_behind names ts (starts_part (a names) u v ts e ((vars_takes 0).begins.words n u x fw))
      (separate {p = names} {q = one LeftSquare} refl).never

  visible_closed : (n : ℕ) (ts : List Seen) (y : RulesFor) → (visibility_first s).words n ts y → is_closed ts ≡ true
  unfolding visibility_first same_symbol visibilities
  visible_closed n ts y (u, v, x, fw, gw, e) =
      closed_behind visibilities ts (starts_part (a visibilities) u v ts e ((visibility_takes 0).begins.words n u x fw))
      (separate {p = visibilities} {q = one LeftSquare} refl).never

  -- a rule without a label and what follows it
  bare_is_ruled : (n : ℕ) (ts : List Seen) (y : RulesFor) → (bracket >>= bare_rule_first s).words n ts y →
      (rule >>= (λ r. tail_from [] (r ∷ []))).words n ts y
  unfolding bare_rule_first rule
  bare_is_ruled n ts y w =
      assoc_in bracket (λ at. some_label >>= behind at) (λ r. tail_from [] (r ∷ [])) n ts y
      (bind_map bracket (bare_rule_first s)
      (λ at. (some_label >>= behind at) >>= (λ r. tail_from [] (r ∷ []))) n ts y (λ at m v bw.
      assoc_in some_label (behind at) (λ r. tail_from [] (r ∷ [])) m v y
      (right_in (number_of (a labels) >>= (λ l. pure (Some l))) (pure None)
      (λ label. behind at label >>= (λ r. tail_from [] (r ∷ []))) m v y
      (silent_in (λ _. None) (λ label. behind at label >>= (λ r. tail_from [] (r ∷ []))) m v y
      (assoc_in (sign RightSquare) (λ _. sides at None) (λ r. tail_from [] (r ∷ [])) m v y bw)))) w)

  -- and the other way round, where no label may stand
  ruled_is_bare : (n : ℕ) (ts : List Seen) (y : RulesFor) → is_closed ts ≡ true →
      (rule >>= (λ r. tail_from [] (r ∷ []))).words n ts y → (bracket >>= bare_rule_first s).words n ts y
  unfolding bare_rule_first rule same_symbol labels names
  ruled_is_bare n ts y closed w =
      go (assoc_out bracket (λ at. some_label >>= behind at) (λ r. tail_from [] (r ∷ [])) n ts y w)
    where
      apart : (s : Symbol) → labels s ≡ true → one RightSquare s ≡ true → ⊥
      apart = (separate {p = labels} {q = one RightSquare} refl).never

      no_label : (t : Seen) (v : List Seen) → a (one LeftSquare) t ≡ true → is_closed (t ∷ v) ≡ true →
          Starts (a labels) v → ⊥
      no_label t [] b c s = s
      no_label t (u ∷ v) b c s = apart u.symbol s (subst (λ z. not z || a (one RightSquare) u ≡ true) b c)

      label_first : (at m : ℕ) (v : List Seen) →
          (number_of (a labels) >>= (λ l. pure (Some l)
          >>= (λ l. behind at l >>= (λ r. tail_from [] (r ∷ []))))).words m v y →
          Starts (a labels) v
      label_first at m v (u1, v1, x1, fw1, gw1, e1) =
          let o1 = one_number (a labels) m u1 x1 fw1 in
          starts_part (a labels) u1 v1 v e1 (subst (Starts (a labels)) (sym o1.1) o1.2)

      go : (bracket >>= (λ at. (some_label >>= behind at) >>= (λ r. tail_from [] (r ∷ [])))).words n ts y →
          (bracket >>= bare_rule_first s).words n ts y
      go (u, v, at, bw, w, e) =
          let o = one_number (a (one LeftSquare)) n u at bw in
          let c : is_closed (o.0 ∷ v) ≡ true = subst (λ z. is_closed z ≡ true) (e ∙ ap (λ z. z ++ v) o.1) closed in
          elim (either_out (number_of (a labels) >>= (λ l. pure (Some l))) (pure None)
          (λ l. behind at l >>= (λ r. tail_from [] (r ∷ [])))
          (n + length u) v y
          (assoc_out some_label (behind at) (λ r. tail_from [] (r ∷ [])) (n + length u) v y w)) [
            | inl x ↦ absurd (no_label o.0 v o.2 c (label_first at (n + length u) v
                (assoc_out (number_of (a labels)) (λ l. pure (Some l))
                (λ l. behind at l >>= (λ r. tail_from [] (r ∷ []))) (n + length u) v y x)))
            | inr x ↦ (
              u,
              v,
              at,
              bw,
              assoc_out (sign RightSquare) (λ _. sides at None) (λ r. tail_from [] (r ∷ [])) (n + length u) v y
                  (silent_out (λ _. None) (λ l. behind at l >>= (λ r. tail_from [] (r ∷ []))) (n + length u) v y x),
              e,
            )
          ]

  bare_closed : (n : ℕ) (ts : List Seen) (y : RulesFor) → (bracket >>= bare_rule_first s).words n ts y →
      is_closed ts ≡ true
  unfolding bare_rule_first
  bare_closed n ts y (u, v, at, bw, (u1, v1, x1, fw1, gw1, e1), e) =
      let o = one_number (a (one LeftSquare)) n u at bw in
      let second : Starts (a (one RightSquare)) v = starts_part (a (one RightSquare)) u1 v1 v e1
      ((sign_takes 0 RightSquare).begins.words (n + length u) u1 x1 fw1) in
      subst (λ z. is_closed z ≡ true) (sym (e ∙ ap (λ z. z ++ v) o.1)) (closed_second o.0 v second)

  -- the bracket of a rule is that of a rule or of a sort
  bare_in : (n : ℕ) (ts : List Seen) (y : RulesFor) → (bracket >>= bare_rule_first s).words n ts y →
      (ruled_bracket s).words n ts y
  unfolding ruled_bracket
  bare_in n ts y w = bind_map bracket (bare_rule_first s) (λ at. either (bare_rule_first s at) (ruled_sort s)) n ts y
      (λ at m v bw. inl bw) w

  ruled_told : (n : ℕ) (ts : List Seen) (y : RulesFor) → is_closed ts ≡ true → (tail_from [] []).words n ts y →
      (behind_ruled s).words n ts y
  unfolding behind_ruled more_ruled ruled visibility_first
  ruled_told n ts y c w = elim (loop_out (λ _. a begins_ruled) ruled (λ found. pure (rules_of s [] found)) [] n ts y
      w) [
        | inl e ↦ inr (inr (inr e))
        | inr x ↦ elim (either_out (visibility >> pure []) (rule >>= (λ r. pure (r ∷ []))) (tail_from []) n ts y x) [
          | inl v ↦ inr (inr (inl (out_of visibility (λ _. []) (tail_from []) n ts y v)))
          | inr r ↦ inl (bare_in n ts y (ruled_is_bare n ts y c (out_of rule (λ r. r ∷ []) (tail_from []) n ts y r)))
        ]
      ]

  -- what is told by the first token, where no sort goes on
  tail_told : (n : ℕ) (ts : List Seen) (y : RulesFor) → is_closed ts ≡ true → tail.words n ts y →
      (behind_ruled s).words n ts y
  unfolding behind_ruled more_vars vars_first
  tail_told n ts y c w = elim (loop_out (λ _. a names) (λ found. vars >>= (λ v. pure (found ++ v ∷ [])))
      (λ vs. tail_from vs []) [] n ts y w) [
        | inl x ↦ ruled_told n ts y c x
        | inr x ↦ inr (inl (out_of vars (λ v. v ∷ []) (λ vs. more_vars vs >>= (λ vs. tail_from vs [])) n ts y x))
      ]

  tail_sort : (n : ℕ) (ts : List Seen) (y : RulesFor) → tail.words n ts y → y.sort ≡ s
  tail_sort n ts y (u, v, vs, fw, (u1, v1, rs, gw, (ev, ey), e1), e) = ap (λ z. z.sort) ey

  -- ---- from what is told by the first token

  bare_tail : (n : ℕ) (ts : List Seen) (y : RulesFor) → (bracket >>= bare_rule_first s).words n ts y → tail.words n ts y
  bare_tail n ts y w = no_vars n ts y (first_ruled n ts y (bare_is_ruled n ts y w))

  visible_tail : (n : ℕ) (ts : List Seen) (y : RulesFor) → (visibility_first s).words n ts y → tail.words n ts y
  unfolding visibility_first
  visible_tail n ts y w = no_vars n ts y (first_visible n ts y w)

  nothing_tail : (n : ℕ) (ts : List Seen) (y : RulesFor) → (ts ≡ []) × (y ≡ rules_of s [] []) → tail.words n ts y
  nothing_tail n ts y w = no_vars n ts y (nothing n ts y w)

-- the arguments of a sort, and then the tail of that sort
argued_tail : (name : Span) (m : ℕ) (ts : List Seen) (y : RulesFor) → (ruled_sort name).words m ts y →
    (w : List Seen) × (v : List Seen) × closing_arguments.words m w tt
    × (tail (span name.first (m + length w))).words (m + length w) v y × (ts ≡ w ++ v)
unfolding ruled_sort
argued_tail name m ts y (w, v, x, cw, pw, e) = (
  w,
  v,
  cw,
  silent_out (λ k. k) (λ past. tail (span name.first past)) (m + length w) v y pw,
  e,
)

argued_in : (name : Span) (m : ℕ) (w v : List Seen) (y : RulesFor) → closing_arguments.words m w tt →
    (tail (span name.first (m + length w))).words (m + length w) v y → (ruled_sort name).words m (w ++ v) y
unfolding ruled_sort
argued_in name m w v y cw tw = (
  w,
  v,
  tt,
  cw,
  silent_in (λ k. k) (λ past. tail (span name.first past)) (m + length w) v y tw,
  refl,
)

-- a sort of one token has the tail behind it
bare_plain : (n : ℕ) (ts u v : List Seen) (s : Span) (y : RulesFor) → IsBare n u s → ts ≡ u ++ v →
    (tail s).words (n + length u) v y → is_closed v ≡ true →
    plain_rules.words n ts y × LeavesNoBracket ts y
unfolding plain_rules
bare_plain n ts u v s y (t, eu, nt, es) e tw c = (
  (
    u,
    v,
    s,
    subst (λ z. sort_span.words n u z) (sym es) (subst (λ z. sort_span.words n z (span n (n + 1))) (sym eu)
        (sort_bare n t nt)),
    tw,
    e,
  ),
  λ _. subst (λ z. is_closed (drop 1 z) ≡ true) (sym (e ∙ ap (λ z. z ++ v) eu)) c,
)

-- a sort with arguments has the tail behind it
argued_plain : (n : ℕ) (ts v : List Seen) (t b : Seen) (w : List Seen) (y : RulesFor) → a names t ≡ true →
    a (one LeftSquare) b ≡ true → closing_arguments.words (n + 1 + 1) w tt →
    (tail (span n (n + 1 + 1 + length w))).words (n + 1 + 1 + length w) v y → ts ≡ t ∷ b ∷ (w ++ v) →
    plain_rules.words n ts y × LeavesNoBracket ts y
unfolding plain_rules
argued_plain n ts v t b w y nt eb cw tw e =
    let place : n + 1 + 1 + length w ≡ n + length (t ∷ b ∷ w) = omega arith in
    let tw2 : (tail (span n (n + length (t ∷ b ∷ w)))).words (n + length (t ∷ b ∷ w)) v y =
    subst (λ k. (tail (span n k)).words k v y) place tw in (
      (t ∷ b ∷ w, v, span n (n + length (t ∷ b ∷ w)), sort_bracketed n t b w tt nt eb cw, tw2, e),
      λ short.
          let sort_is : y.sort ≡ span n (n + length (t ∷ b ∷ w)) = tail_sort (span n (n + length (t ∷ b ∷ w)))
          (n + length (t ∷ b ∷ w)) v y tw2 in
          let past_is : y.sort.past ≡ n + length (t ∷ b ∷ w) = ap (λ z. z.past) sort_is in
          let first_is : y.sort.first ≡ n = ap (λ z. z.first) sort_is in
          absurd (omega arith),
    )

there : (n : ℕ) (ts : List Seen) (y : RulesFor) → rules_for.words n ts y →
    plain_rules.words n ts y × LeavesNoBracket ts y
unfolding rules_for behind_ruled ruled_bracket
there n ts y (u, v, name, nw, bw, e) = go bw
  where
    o : (t : Seen) × (u ≡ t ∷ []) × (a names t ≡ true) × (name ≡ span n (n + 1))
    o = one_span (a names) n u name nw

    alone : (tail name).words (n + length u) v y → is_closed v ≡ true → plain_rules.words n ts y × LeavesNoBracket ts y
    alone tw c = bare_plain n ts u v name y o e tw c

    argued : (u1 v1 : List Seen) (at : ℕ) → bracket.words (n + length u) u1 at →
        (ruled_sort name).words (n + length u + length u1) v1 y → v ≡ u1 ++ v1 →
        plain_rules.words n ts y × LeavesNoBracket ts y
    argued u1 v1 at brw rs e1 =
        let b = one_number (a (one LeftSquare)) (n + length u) u1 at brw in
        let k : n + length u + length u1 ≡ n + 1 + 1 = ap (λ z. n + length z + length u1) o.1 ∙ ap
        (λ z. n + 1 + length z) b.1 in
        let rs1 : (ruled_sort name).words (n + 1 + 1) v1 y = subst (λ z. (ruled_sort name).words z v1 y) k rs in
        let g = argued_tail name (n + 1 + 1) v1 y rs1 in
        let tw : (tail (span n (n + 1 + 1 + length g.0))).words (n + 1 + 1 + length g.0) g.1 y =
        subst (λ z. (tail (span z.first (n + 1 + 1 + length g.0))).words (n + 1 + 1 + length g.0) g.1 y) o.3 g.3 in
        argued_plain n ts g.1 o.0 b.0 g.0 y o.2 b.2 g.2 tw
        (e ∙ ap (λ z. z ++ v) o.1 ∙ ap (λ z. o.0 ∷ z) (e1 ∙ ap (λ z. z ++ v1) b.1 ∙ ap (λ z. b.0 ∷ z) g.4))

    go : (behind_ruled name).words (n + length u) v y → plain_rules.words n ts y × LeavesNoBracket ts y
    go (inl (u1, v1, at, brw, inl bare, e1)) =
        let w : (bracket >>= bare_rule_first name).words (n + length u) v y = (u1, v1, at, brw, bare, e1) in
        alone (bare_tail name (n + length u) v y w) (bare_closed name (n + length u) v y w)
    go (inl (u1, v1, at, brw, inr rs, e1)) = argued u1 v1 at brw rs e1
    go (inr (inl w)) = alone (some_vars name (n + length u) v y w) (vars_closed name (n + length u) v y w)
    go (inr (inr (inl w))) = alone (visible_tail name (n + length u) v y w) (visible_closed name (n + length u) v y w)
    go (inr (inr (inr w))) = alone (nothing_tail name (n + length u) v y w) (subst (λ z. is_closed z ≡ true) (sym w.0)
        refl)

back : (n : ℕ) (ts : List Seen) (y : RulesFor) → plain_rules.words n ts y × LeavesNoBracket ts y →
    rules_for.words n ts y
unfolding rules_for plain_rules behind_ruled ruled_bracket
back n ts y ((u, v, s, sw, tw, e), c) = go (sort_out n u s sw)
  where
    sort_is : y.sort ≡ s
    sort_is = tail_sort s (n + length u) v y tw

    go : IsBare n u s ⊎ HasArguments n u s → rules_for.words n ts y
    go (inl (t, eu, nt, es)) =
        let same : y.sort ≡ span n (n + 1) = sort_is ∙ es in
        let one_token : y.sort.past ≡ y.sort.first + 1 = ap (λ z. z.past) same ∙ ap (λ z. z + 1)
        (sym (ap (λ z. z.first) same)) in
        let closed : is_closed v ≡ true = subst (λ z. is_closed (drop 1 z) ≡ true) (e ∙ ap (λ z. z ++ v) eu)
        (c one_token) in (
          u,
          v,
          s,
          subst (λ z. (span_of (a names)).words n u z) (sym es) (subst (λ z. (span_of (a names)).words n z
              (span n (n + 1))) (sym eu) (span_one (a names) n t nt)),
          tail_told s (n + length u) v y closed tw,
          e,
        )
    go (inr (t, b, w, eu, nt, eb, cw, es)) =
        let place : n + length u ≡ n + 1 + 1 + length w = ap (λ z. n + length z) eu ∙ omega arith in
        let es2 : s ≡ span n (n + 1 + 1 + length w) = es ∙ ap (span n) (omega arith) in
        let tw1 : (tail (span n (n + 1 + 1 + length w))).words (n + length u) v y =
        subst (λ z. (tail z).words (n + length u) v y) es2 tw in
        let tw2 : (tail (span n (n + 1 + 1 + length w))).words (n + 1 + 1 + length w) v y =
        subst (λ z. (tail (span n (n + 1 + 1 + length w))).words z v y) place tw1 in (
          t ∷ [],
          b ∷ (w ++ v),
          span n (n + 1),
          span_one (a names) n t nt,
          inl (
            b ∷ [],
            w ++ v,
            n + 1,
            number_one (a (one LeftSquare)) (n + 1) b eb,
            inr (argued_in (span n (n + 1)) (n + 1 + 1) w v y cw tw2),
            refl,
          ),
          e ∙ ap (λ z. z ++ v) eu,
        )

pub factored : (n : ℕ) (ts : List Seen) (y : RulesFor) →
    rules_for.words n ts y ↔ (plain_rules.words n ts y × LeavesNoBracket ts y)
factored n ts y = (there n ts y, back n ts y)
