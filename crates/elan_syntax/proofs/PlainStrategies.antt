-- What stands behind the `for` of a section of strategies, told by its first tokens, is the plain rule.
use Rattle.std.proofs.Common.{◌≡◌, ℕ, ◌+◌, true, List, [], ◌∷◌, ◌++◌, length, ◌⊎◌, inl, inr, refl, sym, ap, subst, ◌∙◌, arith}
use Rattle.std.specs.Prelude.{◌↔◌}
use Rattle.elan_forms.specs.Form.{◌>>=◌, ◌>>◌, pure, either}
use Rattle.elan_forms.proofs.Exact.{silent_in, silent_out, assoc_in, assoc_out}
use Rattle.elan_forms.proofs.Choices.{left_in, right_in, either_out}
use Rattle.elan_forms.proofs.Loops.{none_in, more_in, loop_out}
use Rattle.elan_phrases.specs.declared.span.Span.{Span}
use Rattle.elan_phrases.specs.declared.symbol.Symbol.TheVariants.{LeftSquare}
use Rattle.elan_phrases.specs.Symbols.{Seen, one, a, names}
use Rattle.elan_phrases.specs.Beginnings.{begins_defined}
use Rattle.elan_phrases.specs.Tokens.{Rule, span, span_of}
use Rattle.elan_phrases.specs.SortExpressions.{closing_arguments, sort_span}
use Rattle.elan_syntax.specs.declared.definitions.StrategiesFor.{StrategiesFor}
use Rattle.elan_syntax.specs.Grammar.{bracket, definition_behind, definition, mark, defined, more_defined, strategies_of, definition_first, defined_sort, defined_bracket, mark_first, behind_defined, strategies_for}
use Rattle.elan_syntax.specs.PlainGrammar.{plain_strategies}
use Rattle.elan_syntax.proofs.SortWords.{one_number, one_span, span_one, number_one, sort_bare, sort_bracketed, IsBare, HasArguments, sort_out}
use Rattle.elan_syntax.proofs.PlainRules.{bind_map, into, out_of}

module _ (s : Span) where
  -- { vis | "implicit" | definition }
  abbrev tail : Rule StrategiesFor
  tail = more_defined [] >>= (λ found. pure (strategies_of s found))

  abbrev tail_from_first : Rule StrategiesFor
  tail_from_first = definition >>= (λ d. more_defined (d ∷ []) >>= (λ found. pure (strategies_of s found)))

  -- a definition whose `[` is told, and what follows it
  first_is_defined : (n : ℕ) (ts : List Seen) (y : StrategiesFor) → (bracket >>= definition_first s).words n ts y →
      tail_from_first.words n ts y
  unfolding definition definition_first
  first_is_defined n ts y w = assoc_in bracket definition_behind
      (λ d. more_defined (d ∷ []) >>= (λ found. pure (strategies_of s found))) n ts y w

  defined_is_first : (n : ℕ) (ts : List Seen) (y : StrategiesFor) → tail_from_first.words n ts y →
      (bracket >>= definition_first s).words n ts y
  unfolding definition definition_first
  defined_is_first n ts y w = assoc_out bracket definition_behind
      (λ d. more_defined (d ∷ []) >>= (λ found. pure (strategies_of s found))) n ts y w

  first_tail : (n : ℕ) (ts : List Seen) (y : StrategiesFor) → (bracket >>= definition_first s).words n ts y →
      tail.words n ts y
  unfolding more_defined defined
  first_tail n ts y w =
      more_in (λ _. a begins_defined) defined (λ found. pure (strategies_of s found)) [] n ts y
      (right_in (mark >> pure []) (definition >>= (λ d. pure (d ∷ [])))
      (λ ds. more_defined ds >>= (λ found. pure (strategies_of s found))) n ts y
      (into definition (λ d. d ∷ []) (λ ds. more_defined ds >>= (λ found. pure (strategies_of s found))) n ts y
      (first_is_defined n ts y w)))

  mark_tail : (n : ℕ) (ts : List Seen) (y : StrategiesFor) → (mark_first s).words n ts y → tail.words n ts y
  unfolding more_defined defined mark_first
  mark_tail n ts y w =
      more_in (λ _. a begins_defined) defined (λ found. pure (strategies_of s found)) [] n ts y
      (left_in (mark >> pure []) (definition >>= (λ d. pure (d ∷ [])))
      (λ ds. more_defined ds >>= (λ found. pure (strategies_of s found))) n ts y
      (into mark (λ _. []) (λ ds. more_defined ds >>= (λ found. pure (strategies_of s found))) n ts y w))

  nothing_tail : (n : ℕ) (ts : List Seen) (y : StrategiesFor) → (ts ≡ []) × (y ≡ strategies_of s []) → tail.words n ts y
  unfolding more_defined
  nothing_tail n ts y w = none_in (λ _. a begins_defined) defined (λ found. pure (strategies_of s found)) [] n ts y w

  first_in : (n : ℕ) (ts : List Seen) (y : StrategiesFor) → (bracket >>= definition_first s).words n ts y →
      (defined_bracket s).words n ts y
  unfolding defined_bracket
  first_in n ts y w = bind_map bracket (definition_first s) (λ at. either (definition_first s at) (defined_sort s)) n ts
      y (λ at m v bw. inl bw) w

  -- what is told by the first token, where no sort goes on
  tail_told : (n : ℕ) (ts : List Seen) (y : StrategiesFor) → tail.words n ts y → (behind_defined s).words n ts y
  unfolding behind_defined more_defined defined mark_first
  tail_told n ts y w = elim (loop_out (λ _. a begins_defined) defined (λ found. pure (strategies_of s found)) [] n ts y
      w) [
        | inl e ↦ inr (inr e)
        | inr x ↦ elim (either_out (mark >> pure []) (definition >>= (λ d. pure (d ∷ [])))
            (λ ds. more_defined ds >>= (λ found. pure (strategies_of s found))) n ts y x) [
              | inl v ↦ inr (inl (out_of mark (λ _. []) (λ ds. more_defined ds >>= (λ found. pure (strategies_of s found)))
                  n ts y v))
              | inr r ↦ inl (first_in n ts y (defined_is_first n ts y (out_of definition (λ d. d ∷ [])
                  (λ ds. more_defined ds >>= (λ found. pure (strategies_of s found))) n ts y r)))
            ]
      ]

-- the arguments of a sort, and then the tail of that sort
argued_tail : (name : Span) (m : ℕ) (ts : List Seen) (y : StrategiesFor) → (defined_sort name).words m ts y →
    (w : List Seen) × (v : List Seen) × closing_arguments.words m w tt
    × (tail (span name.first (m + length w))).words (m + length w) v y × (ts ≡ w ++ v)
unfolding defined_sort
argued_tail name m ts y (w, v, x, cw, pw, e) = (
  w,
  v,
  cw,
  silent_out (λ k. k) (λ past. tail (span name.first past)) (m + length w) v y pw,
  e,
)

argued_in : (name : Span) (m : ℕ) (w v : List Seen) (y : StrategiesFor) → closing_arguments.words m w tt →
    (tail (span name.first (m + length w))).words (m + length w) v y → (defined_sort name).words m (w ++ v) y
unfolding defined_sort
argued_in name m w v y cw tw = (
  w,
  v,
  tt,
  cw,
  silent_in (λ k. k) (λ past. tail (span name.first past)) (m + length w) v y tw,
  refl,
)

bare_plain : (n : ℕ) (ts u v : List Seen) (s : Span) (y : StrategiesFor) → IsBare n u s → ts ≡ u ++ v →
    (tail s).words (n + length u) v y → plain_strategies.words n ts y
unfolding plain_strategies
bare_plain n ts u v s y (t, eu, nt, es) e tw = (
  u,
  v,
  s,
  subst (λ z. sort_span.words n u z) (sym es) (subst (λ z. sort_span.words n z (span n (n + 1))) (sym eu)
      (sort_bare n t nt)),
  tw,
  e,
)

argued_plain : (n : ℕ) (ts v : List Seen) (t b : Seen) (w : List Seen) (y : StrategiesFor) → a names t ≡ true →
    a (one LeftSquare) b ≡ true → closing_arguments.words (n + 1 + 1) w tt →
    (tail (span n (n + 1 + 1 + length w))).words (n + 1 + 1 + length w) v y → ts ≡ t ∷ b ∷ (w ++ v) →
    plain_strategies.words n ts y
unfolding plain_strategies
argued_plain n ts v t b w y nt eb cw tw e =
    let place : n + 1 + 1 + length w ≡ n + length (t ∷ b ∷ w) = omega arith in (
      t ∷ b ∷ w,
      v,
      span n (n + length (t ∷ b ∷ w)),
      sort_bracketed n t b w tt nt eb cw,
      subst (λ k. (tail (span n k)).words k v y) place tw,
      e,
    )

there : (n : ℕ) (ts : List Seen) (y : StrategiesFor) → strategies_for.words n ts y → plain_strategies.words n ts y
unfolding strategies_for behind_defined defined_bracket
there n ts y (u, v, name, nw, bw, e) = go bw
  where
    o : (t : Seen) × (u ≡ t ∷ []) × (a names t ≡ true) × (name ≡ span n (n + 1))
    o = one_span (a names) n u name nw

    alone : (tail name).words (n + length u) v y → plain_strategies.words n ts y
    alone tw = bare_plain n ts u v name y o e tw

    argued : (u1 v1 : List Seen) (at : ℕ) → bracket.words (n + length u) u1 at →
        (defined_sort name).words (n + length u + length u1) v1 y → v ≡ u1 ++ v1 →
        plain_strategies.words n ts y
    argued u1 v1 at brw rs e1 =
        let b = one_number (a (one LeftSquare)) (n + length u) u1 at brw in
        let k : n + length u + length u1 ≡ n + 1 + 1 = ap (λ z. n + length z + length u1) o.1 ∙ ap
        (λ z. n + 1 + length z) b.1 in
        let rs1 : (defined_sort name).words (n + 1 + 1) v1 y = subst (λ z. (defined_sort name).words z v1 y) k rs in
        let g = argued_tail name (n + 1 + 1) v1 y rs1 in
        let tw : (tail (span n (n + 1 + 1 + length g.0))).words (n + 1 + 1 + length g.0) g.1 y =
        subst (λ z. (tail (span z.first (n + 1 + 1 + length g.0))).words (n + 1 + 1 + length g.0) g.1 y) o.3 g.3 in
        argued_plain n ts g.1 o.0 b.0 g.0 y o.2 b.2 g.2 tw
        (e ∙ ap (λ z. z ++ v) o.1 ∙ ap (λ z. o.0 ∷ z) (e1 ∙ ap (λ z. z ++ v1) b.1 ∙ ap (λ z. b.0 ∷ z) g.4))

    go : (behind_defined name).words (n + length u) v y → plain_strategies.words n ts y
    go (inl (u1, v1, at, brw, inl first, e1)) = alone (first_tail name (n + length u) v y (u1, v1, at, brw, first, e1))
    go (inl (u1, v1, at, brw, inr rs, e1)) = argued u1 v1 at brw rs e1
    go (inr (inl w)) = alone (mark_tail name (n + length u) v y w)
    go (inr (inr w)) = alone (nothing_tail name (n + length u) v y w)

back : (n : ℕ) (ts : List Seen) (y : StrategiesFor) → plain_strategies.words n ts y → strategies_for.words n ts y
unfolding strategies_for plain_strategies behind_defined defined_bracket
back n ts y (u, v, s, sw, tw, e) = go (sort_out n u s sw)
  where
    go : IsBare n u s ⊎ HasArguments n u s → strategies_for.words n ts y
    go (inl (t, eu, nt, es)) = (
      u,
      v,
      s,
      subst (λ z. (span_of (a names)).words n u z) (sym es) (subst (λ z. (span_of (a names)).words n z
          (span n (n + 1))) (sym eu) (span_one (a names) n t nt)),
      tail_told s (n + length u) v y tw,
      e,
    )
    go (inr (t, b, w, eu, nt, eb, cw, es)) =
        let place : n + length u ≡ n + 1 + 1 + length w = ap (λ z. n + length z) eu ∙ omega arith in
        let es2 : s ≡ span n (n + 1 + 1 + length w) = es ∙ ap (span n) (omega arith) in
        let tw1 : (tail (span n (n + 1 + 1 + length w))).words (n + length u) v y =
        subst (λ z. (tail z).words (n + length u) v y) es2 tw in
        let tw2 : (tail (span n (n + 1 + 1 + length w))).words (n + 1 + 1 + length w) v y =
        subst (λ z. (tail (span n (n + 1 + 1 + length w))).words z v y) place tw1 in (
          t ∷ [],
          b ∷ (w ++ v),
          span n (n + 1),
          span_one (a names) n t nt,
          inl (
            b ∷ [],
            w ++ v,
            n + 1,
            number_one (a (one LeftSquare)) (n + 1) b eb,
            inr (argued_in (span n (n + 1)) (n + 1 + 1) w v y cw tw2),
            refl,
          ),
          e ∙ ap (λ z. z ++ v) eu,
        )

pub factored : (n : ℕ) (ts : List Seen) (y : StrategiesFor) → strategies_for.words n ts y ↔ plain_strategies.words n ts y
factored n ts y = (there n ts y, back n ts y)
