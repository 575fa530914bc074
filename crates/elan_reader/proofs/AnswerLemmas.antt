-- What a text is read as is the one answer to it.
use Rattle.std.proofs.Common.{◌≡◌, refl, sym, ap, ◌∙◌, ℕ, ◌<◌, ◌≤◌, Bool, true, false, if◌then◌else◌, nat_lt, List, length, map, ◌⊎◌, inl, inr, arith}
use Rattle.std.specs.Prelude.{Result, Ok, Err}
use Rattle.elan_text.specs.declared.refusal.Code.{Code}
use Rattle.elan_text.specs.declared.refusal.Code.TheVariants.{E17}
use Rattle.elan_lexer.specs.declared.token.Token.{Token}
use Rattle.elan_terms.specs.declared.tree.Pattern.{Pattern}
use Rattle.elan_program.specs.declared.signature.Signature.{Signature}
use Rattle.elan_program.specs.Soundness.{is_sound}
use Rattle.elan_reading.specs.declared.lexeme.Lexeme.{Lexeme}
use Rattle.elan_reading.specs.declared.lexeme.Variable.{Variable}
use Rattle.elan_reading.specs.declared.sought.Sought.{Sought}
use Rattle.elan_reading.specs.Lexemes.{lexeme_of}
use Rattle.elan_reading.specs.Answers.{IsOnly, HasNone, HasSeveral}
use Rattle.elan_chart.proofs.LawLemmas.{some_answer, one_only, not_none, not_several, none_several}
use Rattle.elan_reader.specs.Answers.{IsCause, IsAnswer}
use Rattle.elan_reader.specs.ReadAs.{told, told_if, tokens_as, read_as}

no_true : false ≡ true → ⊥
no_true f = cc

long : (n : ℕ) → nat_lt 256 n ≡ true → 256 < n
long n e = grind arith

short : (n : ℕ) → nat_lt 256 n ≡ false → n ≤ 256
short n e = grind arith

both : (n : ℕ) → n ≤ 256 → 256 < n → ⊥
both n p q = omega arith

module _ (g : Signature) (vs : List Variable) (what : Sought) (tokens : List Lexeme) where
  told-answer : (d : ((t : Pattern) × IsOnly g vs tokens what t) ⊎ (HasNone g vs tokens what ⊎ HasSeveral g vs tokens what))
      → length tokens ≤ 256 → IsAnswer g vs tokens what (told g vs what tokens d)
  told-answer (inl one) le = (le, one.1)
  told-answer (inr (inl none)) le = inl (refl, le, none)
  told-answer (inr (inr several)) le = inr (inl (refl, le, several))

  told_if-answer : (sound : Bool) (is : is_sound g ≡ sound) → is_sound g ≡ true → length tokens ≤ 256
      → IsAnswer g vs tokens what (told_if g vs what tokens sound is)
  told_if-answer true is h le = told-answer (some_answer g vs tokens what is) le
  told_if-answer false is h le = absurd (no_true (sym is ∙ h))

  long_or : (b : Bool) (r : Result Pattern Code) → nat_lt 256 (length tokens) ≡ b
      → (length tokens ≤ 256 → IsAnswer g vs tokens what r) → IsAnswer g vs tokens what (if b then Err E17 else r)
  long_or true r e more = inr (inr (refl, long (length tokens) e))
  long_or false r e more = more (short (length tokens) e)

  tokens_as-answer : is_sound g ≡ true → IsAnswer g vs tokens what (tokens_as g vs what tokens)
  tokens_as-answer h =
      long_or (nat_lt 256 (length tokens)) (told_if g vs what tokens (is_sound g) refl) refl (told_if-answer (is_sound g) refl h)

  one-refused : (t : Pattern) (code : Code) → length tokens ≤ 256 → IsOnly g vs tokens what t → IsCause g vs tokens what code → ⊥
  one-refused t code le one (inl (e, l, none)) = not_none g vs tokens what t one none
  one-refused t code le one (inr (inl (e, l, several))) = not_several g vs tokens what t one several
  one-refused t code le one (inr (inr (e, l))) = both (length tokens) le l

  causes : (c d : Code) → IsCause g vs tokens what c → IsCause g vs tokens what d → c ≡ d
  causes c d (inl (e, le, none)) (inl (f, l, m)) = e ∙ sym f
  causes c d (inl (e, le, none)) (inr (inl (f, l, several))) = absurd (none_several g vs tokens what none several)
  causes c d (inl (e, le, none)) (inr (inr (f, l))) = absurd (both (length tokens) le l)
  causes c d (inr (inl (e, le, several))) (inl (f, l, none)) = absurd (none_several g vs tokens what none several)
  causes c d (inr (inl (e, le, several))) (inr (inl (f, l, m))) = e ∙ sym f
  causes c d (inr (inl (e, le, several))) (inr (inr (f, l))) = absurd (both (length tokens) le l)
  causes c d (inr (inr (e, l))) (inl (f, le, none)) = absurd (both (length tokens) le l)
  causes c d (inr (inr (e, l))) (inr (inl (f, le, several))) = absurd (both (length tokens) le l)
  causes c d (inr (inr (e, l))) (inr (inr (f, m))) = e ∙ sym f

  pub one_answer : (r s : Result Pattern Code) → IsAnswer g vs tokens what r → IsAnswer g vs tokens what s → r ≡ s
  one_answer (Ok t) (Ok u) p q = ap Ok (one_only g vs tokens what t u p.1 q.1)
  one_answer (Ok t) (Err d) p q = absurd (one-refused t d p.0 p.1 q)
  one_answer (Err c) (Ok u) p q = absurd (one-refused u c q.0 q.1 p)
  one_answer (Err c) (Err d) p q = ap Err (causes c d p q)

module _ (g : Signature) (vs : List Variable) (what : Sought) (bytes : List ℕ) (tokens : List Token) where
  pub read_as-answer : is_sound g ≡ true → IsAnswer g vs (map (lexeme_of bytes) tokens) what (read_as g vs what bytes tokens)
  unfolding read_as
  read_as-answer h = tokens_as-answer g vs what (map (lexeme_of bytes) tokens) h

  pub only_answer : (r : Result Pattern Code) → is_sound g ≡ true → IsAnswer g vs (map (lexeme_of bytes) tokens) what r
      → r ≡ read_as g vs what bytes tokens
  only_answer r h a =
      one_answer g vs what (map (lexeme_of bytes) tokens) r (read_as g vs what bytes tokens) a (read_as-answer h)
