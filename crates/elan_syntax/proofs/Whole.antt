-- What exact reading of a rule of whole texts decides.
use Rattle.std.proofs.Common.{◌≡◌, ℕ, ◌-◌, true, cond, List, [], ◌∷◌, length, ◌⊎◌, inl, inr, refl, sym, ap, subst, ◌∙◌}
use Rattle.std.specs.Prelude.{not}
use Rattle.std.proofs.lemmas.List.{length-map}
use Rattle.elan_text.specs.declared.refusal.Code.{Code}
use Rattle.elan_text.specs.declared.refusal.Place.{Place}
use Rattle.elan_lexer.specs.declared.token.Token.{Token}
use Rattle.elan_forms.specs.declared.why.Why.{Why}
use Rattle.elan_forms.specs.declared.why.Why.TheVariants.{Unexpected, TooMany}
use Rattle.elan_forms.specs.Whole.{Answer, done, refused, Gives, Fits}
use Rattle.elan_forms.specs.Form.{read_end, begins_with}
use Rattle.elan_forms.proofs.Texts.{stops_at, exceeds_at, stops_none, exceeds_marked, stops_once, exceeds_once, stops_exceeds}
use Rattle.elan_phrases.specs.declared.halt.Halt.{Halt}
use Rattle.elan_phrases.specs.declared.halt.Halt.TheVariants.{Misfit, NoMemory}
use Rattle.elan_phrases.specs.Symbols.{Seen, seen}
use Rattle.elan_phrases.specs.Tokens.{Rule}
use Rattle.elan_phrases.specs.Input.{is_misfit, why_of}
use Rattle.elan_syntax.specs.Outlines.{IsDerived, IsRefusedAt, code_of, place_of, RefusesAt, HasNone, IsRefusal, stop_of}

-- the end is read where no token is left
pub read_end_reads : {V : Type 0} (o : V) (n : ℕ) (ts : List Seen) →
    read_end o n ts ≡ cond (not (begins_with (λ t. true) ts)) (done o n ts) (refused Unexpected ts)
read_end_reads o n [] = refl
read_end_reads o n (t ∷ ts) = refl

-- the grammar sees as many tokens as there are
pub seen_count : (bytes : List ℕ) (tokens : List Token) → length (seen bytes tokens) ≡ length tokens
unfolding seen
seen_count bytes tokens = length-map tokens _

module _ {V : Type 0} (rule : Rule V)
    (gives : (ts : List Seen) → Gives (rule.words 0) (rule.marks 0) ts (rule.read 0 ts)) where
  fits : (ts : List Seen) (v : V) (n : ℕ) (rest : List Seen) → rule.read 0 ts ≡ done v n rest →
      Fits (rule.words 0) (rule.marks 0) ts v
  fits ts v n rest e = subst (λ x. Gives (rule.words 0) (rule.marks 0) ts x) e (gives ts)

  -- a value that is read is derived
  pub value_found : (ts : List Seen) (v : V) (n : ℕ) (rest : List Seen) → rule.read 0 ts ≡ done v n rest →
      IsDerived rule ts v
  value_found ts v n rest e =
      let f : Fits (rule.words 0) (rule.marks 0) ts v = fits ts v n rest e in
      record { derived = f.spelled; within = f.unmarked }

  -- and is the only one
  pub value_only : (ts : List Seen) (v : V) (n : ℕ) (rest : List Seen) → rule.read 0 ts ≡ done v n rest →
      (other : V) → IsDerived rule ts other → other ≡ v
  value_only ts v n rest e other is =
      let f : Fits (rule.words 0) (rule.marks 0) ts v = fits ts v n rest e in
      f.only other is.derived

  -- a refusal stands at the token that decides
  refused_at : (ts : List Seen) (why : Why) (rest : List Seen) (at : ℕ) → rule.read 0 ts ≡ refused why rest →
      at ≡ length ts - length rest → IsRefusedAt rule ts why at
  refused_at ts Unexpected rest at e place = stops_at (rule.words 0) (rule.marks 0) ts rest at place
      (subst (λ x. Gives (rule.words 0) (rule.marks 0) ts x) e (gives ts))
  refused_at ts TooMany rest at e place = exceeds_at (rule.words 0) (rule.marks 0) ts rest at place
      (subst (λ x. Gives (rule.words 0) (rule.marks 0) ts x) e (gives ts))

  -- where one stands there is no value
  refused_none : (ts : List Seen) (why : Why) (at : ℕ) → IsRefusedAt rule ts why at → (v : V) → IsDerived rule ts v → ⊥
  refused_none ts Unexpected at r v is = stops_none (rule.words 0) (rule.marks 0) ts at r v is.derived
  refused_none ts TooMany at r v is = exceeds_marked (rule.words 0) (rule.marks 0) ts at r is.within

  -- ---- what is answered

  pub stop_refuses : (bytes : List ℕ) (tokens : List Token) (rest : List Seen) (at : ℕ) (halt : Halt) →
      (is_misfit halt ≡ true → rule.read 0 (seen bytes tokens) ≡ refused (why_of halt) rest) →
      at ≡ length tokens - length rest → IsRefusal rule bytes tokens (stop_of bytes tokens at halt)
  stop_refuses bytes tokens rest at (Misfit why) e place = (
    (
      why,
      at,
      refused_at (seen bytes tokens) why rest at (e refl)
          (place ∙ ap (λ m. m - length rest) (sym (seen_count bytes tokens))),
      refl,
      refl,
    ),
    refl,
  )
  stop_refuses bytes tokens rest at NoMemory e place = tt

  pub stop_none : (bytes : List ℕ) (tokens : List Token) (rest : List Seen) (at : ℕ) (halt : Halt) →
      (is_misfit halt ≡ true → rule.read 0 (seen bytes tokens) ≡ refused (why_of halt) rest) →
      at ≡ length tokens - length rest → HasNone rule (seen bytes tokens) (stop_of bytes tokens at halt)
  stop_none bytes tokens rest at (Misfit why) e place =
      refused_none (seen bytes tokens) why at (refused_at (seen bytes tokens) why rest at (e refl)
      (place ∙ ap (λ m. m - length rest) (sym (seen_count bytes tokens))))
  stop_none bytes tokens rest at NoMemory e place = tt

  -- ---- one answer, and some answer

  pub some_value : (bytes : List ℕ) (tokens : List Token) →
      ((v : V) × IsDerived rule (seen bytes tokens) v)
      ⊎ ((code : Code) × (at : Place) × RefusesAt rule bytes tokens code at)
  some_value bytes tokens = go (rule.read 0 (seen bytes tokens)) refl
    where
      go : (x : Answer Seen V) → rule.read 0 (seen bytes tokens) ≡ x →
          ((v : V) × IsDerived rule (seen bytes tokens) v)
          ⊎ ((code : Code) × (at : Place) × RefusesAt rule bytes tokens code at)
      go (done v n rest) e = inl (v, value_found (seen bytes tokens) v n rest e)
      go (refused why rest) e = inr (
        code_of why,
        place_of bytes tokens (length (seen bytes tokens) - length rest),
        (
          why,
          length (seen bytes tokens) - length rest,
          refused_at (seen bytes tokens) why rest (length (seen bytes tokens) - length rest) e refl,
          refl,
          refl,
        ),
      )

  pub two_values : (ts : List Seen) (one two : V) → IsDerived rule ts one → IsDerived rule ts two → one ≡ two
  two_values ts one two p q = go (rule.read 0 ts) refl
    where
      go : (x : Answer Seen V) → rule.read 0 ts ≡ x → one ≡ two
      go (done v n rest) e = value_only ts v n rest e one p ∙ sym (value_only ts v n rest e two q)
      go (refused why rest) e = absurd (refused_none ts why (length ts - length rest)
          (refused_at ts why rest (length ts - length rest) e refl) one p)

  pub value_refused : (bytes : List ℕ) (tokens : List Token) (v : V) (code : Code) (at : Place) →
      IsDerived rule (seen bytes tokens) v → RefusesAt rule bytes tokens code at → ⊥
  value_refused bytes tokens v code at is (why, number, r, ec, ea) = refused_none (seen bytes tokens) why number r v is

  refused_once : (ts : List Seen) (one two : Why) (here there : ℕ) → IsRefusedAt rule ts one here →
      IsRefusedAt rule ts two there → (one ≡ two) × (here ≡ there)
  refused_once ts Unexpected Unexpected here there p q = (
    refl,
    stops_once (rule.words 0) (rule.marks 0) ts here there p q,
  )
  refused_once ts Unexpected TooMany here there p q = absurd (stops_exceeds (rule.words 0) (rule.marks 0) ts here there
      p q)
  refused_once ts TooMany Unexpected here there p q = absurd (stops_exceeds (rule.words 0) (rule.marks 0) ts there here
      q p)
  refused_once ts TooMany TooMany here there p q = (
    refl,
    exceeds_once (rule.words 0) (rule.marks 0) ts here there p q,
  )

  pub two_refusals : (bytes : List ℕ) (tokens : List Token) (one two : Code) (here there : Place) →
      RefusesAt rule bytes tokens one here → RefusesAt rule bytes tokens two there → (one ≡ two) × (here ≡ there)
  two_refusals bytes tokens one two here there (why, n, r, ec, ea) (other, k, s, fc, fa) =
      let same = refused_once (seen bytes tokens) why other n k r s in
      (ec ∙ ap code_of same.0 ∙ sym fc, ea ∙ ap (place_of bytes tokens) same.1 ∙ sym fa)
