-- Which tokens spell one token, and a sort expression.
use Rattle.std.proofs.Common.{◌≡◌, ℕ, ◌+◌, Bool, true, List, [], ◌∷◌, ◌++◌, length, ◌⊎◌, inl, inr, refl, sym, ap, subst, ◌∙◌, append-nil}
use Rattle.elan_forms.specs.Form.{Form, ◌>>=◌, token, silent, spanned}
use Rattle.elan_forms.proofs.Exact.{silent_in, silent_out}
use Rattle.elan_phrases.specs.declared.span.Span.{Span}
use Rattle.elan_phrases.specs.declared.symbol.Symbol.TheVariants.{LeftSquare}
use Rattle.elan_phrases.specs.Symbols.{Seen, one, a, names}
use Rattle.elan_phrases.specs.Tokens.{taken, number_of, span, span_of}
use Rattle.elan_phrases.specs.SortExpressions.{sort, sort_body, bracketed, arguments, most_sort_names, most_argument_names, closing_arguments, sort_span}
use Rattle.elan_phrases.proofs.ExactSorts.{sort_same}

-- ---- one token

pub one_taken : (p : Seen → Bool) (n : ℕ) (ts : List Seen) (x : Unit {0}) → (taken p).words n ts x →
    (t : Seen) × (ts ≡ t ∷ []) × (p t ≡ true)
one_taken p n ts x (u, v, z, (eu, pz), (ev, ew), e) = (
  z,
  e ∙ ap (λ q. q ++ v) eu ∙ ap (λ q. z ∷ q) ev,
  pz,
)

pub taken_one : (p : Seen → Bool) (n : ℕ) (t : Seen) → p t ≡ true → (taken p).words n (t ∷ []) tt
taken_one p n t e = (t ∷ [], [], t, (refl, e), (refl, refl), refl)

module _ {V S : Type 0} (make : ℕ → ℕ → S) (f : Form Seen V) (n : ℕ) (ts : List Seen) where
  pub spanned_out : (v : S) → (spanned make f).words n ts v → (x : V) × f.words n ts x × (v ≡ make n (n + length ts))
  spanned_out v w = go (silent_out (λ m. m) (λ start. f >>= (λ _. silent (make start))) n ts v w)
    where
      go : (f >>= (λ _. silent (make n))).words n ts v → (x : V) × f.words n ts x × (v ≡ make n (n + length ts))
      go (u, r, x, fw, (er, ev), e) =
          let same : u ≡ ts = sym (e ∙ ap (λ q. u ++ q) er ∙ append-nil u) in
          (x, subst (λ q. f.words n q x) same fw, ev ∙ ap (λ q. make n (n + length q)) same)

  pub spanned_in : (x : V) → f.words n ts x → (spanned make f).words n ts (make n (n + length ts))
  spanned_in x fw = silent_in (λ m. m) (λ start. f >>= (λ _. silent (make start))) n ts (make n (n + length ts))
      (ts, [], x, fw, (refl, refl), sym (append-nil ts))

pub one_number : (p : Seen → Bool) (n : ℕ) (ts : List Seen) (x : ℕ) → (number_of p).words n ts x →
    (t : Seen) × (ts ≡ t ∷ []) × (p t ≡ true) × (x ≡ n)
one_number p n ts x w = let o = spanned_out (λ first past. first) (token p) n ts x w in (o.0, o.1.0, o.1.1, o.2)

pub one_span : (p : Seen → Bool) (n : ℕ) (ts : List Seen) (x : Span) → (span_of p).words n ts x →
    (t : Seen) × (ts ≡ t ∷ []) × (p t ≡ true) × (x ≡ span n (n + 1))
one_span p n ts x w =
    let o = spanned_out span (token p) n ts x w in
    (o.0, o.1.0, o.1.1, o.2 ∙ ap (λ q. span n (n + length q)) o.1.0)

pub span_one : (p : Seen → Bool) (n : ℕ) (t : Seen) → p t ≡ true → (span_of p).words n (t ∷ []) (span n (n + 1))
span_one p n t e = spanned_in span (token p) n (t ∷ []) t (refl, e)

pub number_one : (p : Seen → Bool) (n : ℕ) (t : Seen) → p t ≡ true → (number_of p).words n (t ∷ []) n
number_one p n t e = spanned_in (λ first past. first) (token p) n (t ∷ []) t (refl, e)

-- ---- a sort expression

pub closing_out : (m : ℕ) (w : List Seen) (x : Unit {0}) → closing_arguments.words m w x →
    (left : ℕ) × (arguments sort most_argument_names).words m w left
unfolding closing_arguments
closing_out m w x (u, v, left, aw, (ev, ex), e) = (
  left,
  subst (λ q. (arguments sort most_argument_names).words m q left)
      (sym (e ∙ ap (λ q. u ++ q) ev ∙ append-nil u)) aw,
)

pub closing_in : (m : ℕ) (w : List Seen) (left : ℕ) → (arguments sort most_argument_names).words m w left →
    closing_arguments.words m w tt
unfolding closing_arguments
closing_in m w left aw = (w, [], left, aw, (refl, refl), sym (append-nil w))

-- a name alone
pub sort_bare : (n : ℕ) (t : Seen) → a names t ≡ true → sort_span.words n (t ∷ []) (span n (n + 1))
unfolding sort_span sort_body
sort_bare n t e = spanned_in span (sort most_sort_names) n (t ∷ []) most_argument_names
    ((sort_same most_sort_names).words n (t ∷ []) most_argument_names
    (t ∷ [], [], most_argument_names, (t, refl, e, refl), inr (refl, refl), refl))

-- a name with arguments
pub sort_bracketed : (n : ℕ) (t b : Seen) (w : List Seen) (x : Unit {0}) → a names t ≡ true →
    a (one LeftSquare) b ≡ true → closing_arguments.words (n + 1 + 1) w x →
    sort_span.words n (t ∷ b ∷ w) (span n (n + length (t ∷ b ∷ w)))
unfolding sort_span sort_body bracketed
sort_bracketed n t b w x et eb cw =
    let c = closing_out (n + 1 + 1) w x cw in
    spanned_in span (sort most_sort_names) n (t ∷ b ∷ w) c.0
    ((sort_same most_sort_names).words n (t ∷ b ∷ w) c.0 (
      t ∷ [],
      b ∷ w,
      most_argument_names,
      (t, refl, et, refl),
      inl (b ∷ [], w, tt, taken_one (a (one LeftSquare)) (n + 1) b eb, c.1, refl),
      refl,
    ))

-- a sort expression that is a name alone, or has arguments
abbrev pub IsBare : ℕ → List Seen → Span → Type 0
IsBare n ts s = (t : Seen) × (ts ≡ t ∷ []) × (a names t ≡ true) × (s ≡ span n (n + 1))

abbrev pub HasArguments : ℕ → List Seen → Span → Type 0
HasArguments n ts s =
    (t : Seen) × (b : Seen) × (w : List Seen) × (ts ≡ t ∷ b ∷ w) × (a names t ≡ true) × (a (one LeftSquare) b ≡ true)
    × closing_arguments.words (n + 1 + 1) w tt × (s ≡ span n (n + length (t ∷ b ∷ w)))

pub sort_out : (n : ℕ) (ts : List Seen) (s : Span) → sort_span.words n ts s → IsBare n ts s ⊎ HasArguments n ts s
unfolding sort_span sort_body bracketed
sort_out n ts s w = go (spanned_out span (sort most_sort_names) n ts s w)
  where
    inner : (left : ℕ) → s ≡ span n (n + length ts) → (sort_body sort most_sort_names).words n ts left →
        IsBare n ts s ⊎ HasArguments n ts s
    inner left es (u, v, x, (t, eu, nt, ex), inr (ev, el), e) =
        let one_token : ts ≡ t ∷ [] = e ∙ ap (λ q. u ++ q) ev ∙ ap (λ q. q ++ []) eu in
        inl (t, one_token, nt, es ∙ ap (λ q. span n (n + length q)) one_token)
    inner left es (u, v, x, (t, eu, nt, ex), inl (u2, v2, z, sw, aw, ev), e) =
        let b = one_taken (a (one LeftSquare)) (n + length u) u2 z sw in
        let all : ts ≡ t ∷ b.0 ∷ v2 = e ∙ ap (λ q. q ++ v) eu ∙ ap (λ q. t ∷ q) (ev ∙ ap (λ q. q ++ v2) b.1) in
        let aw1 : (arguments sort most_argument_names).words (n + length u + length u2) v2 left =
        subst (λ q. (arguments sort q).words (n + length u + length u2) v2 left) ex aw in
        let aw2 : (arguments sort most_argument_names).words (n + 1 + length u2) v2 left =
        subst (λ q. (arguments sort most_argument_names).words (n + length q + length u2) v2 left) eu aw1 in
        let aw3 : (arguments sort most_argument_names).words (n + 1 + 1) v2 left =
        subst (λ q. (arguments sort most_argument_names).words (n + 1 + length q) v2 left) b.1 aw2 in
        inr (
          t,
          b.0,
          v2,
          all,
          nt,
          b.2,
          closing_in (n + 1 + 1) v2 left aw3,
          es ∙ ap (λ q. span n (n + length q)) all,
        )

    go : (left : ℕ) × (sort most_sort_names).words n ts left × (s ≡ span n (n + length ts)) →
        IsBare n ts s ⊎ HasArguments n ts s
    go (left, sw, es) = inner left es ((sort_same most_sort_names).no_words n ts left sw)
