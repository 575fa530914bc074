-- Rules of one token are read exactly.
use Rattle.std.proofs.Common.{◌≡◌, ℕ, suc, ◌+◌, ◌≤◌, Bool, true, false, ◌&&◌, ◌||◌, List, [], ◌∷◌, length, cond, refl, sym, ap, subst, arith}
use Rattle.std.specs.Prelude.{replicate}
use Rattle.std.specs.List.{list_any}
use Rattle.std.specs.Str.{bytes_eq}
use Rattle.std.proofs.lemmas.List.{length-replicate}
use Rattle.std.proofs.lemmas.Slice.Eq.{bytes_eq-Decides}
use Rattle.elan_text.specs.declared.name.Name.{Name as TextName}
use Rattle.elan_forms.specs.Whole.{done, stuck}
use Rattle.elan_forms.specs.Form.{token, pure, silent, after, next_turn}
use Rattle.elan_forms.proofs.Exact.{Starts, token_eats}
use Rattle.elan_forms.proofs.Lengths.{token_shrinks}
use Rattle.elan_forms.proofs.Takes.{Takes, none, on, takes_token, may_pure, then_last, takes_spanned}
use Rattle.elan_phrases.specs.declared.symbol.Symbol.{Symbol}
use Rattle.elan_phrases.specs.declared.symbol.Symbol.TheVariants.{Name, Number, Global}
use Rattle.elan_phrases.specs.Symbols.{Seen, same_symbol, one, a, names, visibilities, small_numbers, is_named, fresh}
use Rattle.elan_phrases.specs.Tokens.{taken, sign, number_of, span, span_of, small_number, name, visibility}
use Rattle.elan_phrases.proofs.SymbolSets.{same_is}

abbrev pub kind : Seen → Symbol
kind t = t.symbol

-- some token of a symbol
abbrev pub sample : Symbol → Seen
sample s = record { symbol = s; text = [] }

-- ---- what is made of the number of a token

-- the token alone
pub taken_reads : (p : Seen → Bool) (n : ℕ) (ts : List Seen) →
    (taken p).read n ts ≡ next_turn ((number_of p).read n ts) (λ at past rest. done (tt {0}) past rest)
taken_reads p n [] = refl
taken_reads p n (t ∷ ts) = go (p t)
  where
    go : (d : Bool) → after (cond d (done t (n + 1) ts) (stuck (t ∷ ts))) (λ _. pure (tt {0})) ≡
        next_turn (after (cond d (done t (n + 1) ts) (stuck (t ∷ ts))) (λ _. silent (λ past. n)))
        (λ at past rest. done (tt {0}) past rest)
    go true = refl
    go false = refl

-- its span
pub span_reads : (p : Seen → Bool) (n : ℕ) (ts : List Seen) →
    (span_of p).read n ts ≡ next_turn ((number_of p).read n ts) (λ at past rest. done (span at past) past rest)
span_reads p n [] = refl
span_reads p n (t ∷ ts) = go (p t)
  where
    go : (d : Bool) → after (cond d (done t (n + 1) ts) (stuck (t ∷ ts))) (λ _. silent (span n)) ≡
        next_turn (after (cond d (done t (n + 1) ts) (stuck (t ∷ ts))) (λ _. silent (λ past. n)))
        (λ at past rest. done (span at past) past rest)
    go true = refl
    go false = refl

-- ---- tokens that are told by their symbol

module _ (m : ℕ) where
  pub sign_takes : (s : Symbol) → Takes kind m (one s) none (sign s)
  sign_takes s = then_last (takes_token (one s) (sample s) (same_is s)) (λ _. may_pure)

  pub taken_takes : (p : Symbol → Bool) (s : Symbol) → p s ≡ true → Takes kind m p none (taken (a p))
  taken_takes p s e = then_last (takes_token p (sample s) e) (λ _. may_pure)

  pub number_takes : (p : Symbol → Bool) (s : Symbol) → p s ≡ true → Takes kind m p none (number_of (a p))
  number_takes p s e = takes_spanned (λ first past. first) (takes_token p (sample s) e)

  pub span_takes : (p : Symbol → Bool) (s : Symbol) → p s ≡ true → Takes kind m p none (span_of (a p))
  span_takes p s e = takes_spanned span (takes_token p (sample s) e)

  pub name_token_takes : Takes kind m names none (token (a names))
  unfolding names
  name_token_takes = takes_token names (sample Name) refl

  pub name_number_takes : Takes kind m names none (number_of (a names))
  unfolding names
  name_number_takes = number_takes names Name refl

  pub name_takes : Takes kind m names none name
  unfolding name
  name_takes = then_last name_token_takes (λ _. may_pure)

  pub visibility_takes : Takes kind m visibilities none visibility
  unfolding visibility visibilities
  visibility_takes = then_last (takes_token visibilities (sample Global) refl) (λ _. may_pure)

-- ---- tokens whose bytes count

and_left : (x y : Bool) → x && y ≡ true → x ≡ true
and_left true y e = refl
and_left false y e = e

-- a test that passes tokens of a kind alone, and passes some token
pub narrow_takes : (m : ℕ) (p : Symbol → Bool) (q : Seen → Bool) (w : Seen) → q w ≡ true →
    ((t : Seen) → q t ≡ true → p t.symbol ≡ true) → Takes kind m p none (token q)
narrow_takes m p q w e h = record {
  begins = record {
    words = λ n ts t v. subst (Starts (on kind p)) (sym v.0) (h t v.1);
    marks = λ n ts x. absurd x;
  };
  shrinks = token_shrinks q;
  eats = token_eats m q w e;
}

-- the number zero, without digits
abbrev no_digits : Seen
no_digits = record { symbol = Number; text = [] }

pub small_number_takes : (m : ℕ) → Takes kind m (one Number) none small_number
unfolding small_numbers same_symbol
small_number_takes m = then_last (narrow_takes m (one Number) small_numbers no_digits refl
    (λ t e. and_left (one Number t.symbol) _ e)) (λ _. may_pure)

-- a number that is longer than each of these names
room : List TextName → ℕ
room [] = 1
room (x ∷ xs) = suc (length x.bytes + room xs)

not_among : (t : List ℕ) (xs : List TextName) → room xs ≤ length t → list_any (is_named t) xs ≡ false
unfolding room
not_among t [] le = refl
not_among t (x ∷ xs) le = go (not_among t xs (omega arith)) (bytes_eq x.bytes t) refl
  where
    go : list_any (is_named t) xs ≡ false → (d : Bool) → bytes_eq x.bytes t ≡ d → d || list_any (is_named t) xs ≡ false
    go tail true e = let same : x.bytes ≡ t = (bytes_eq-Decides x.bytes t).0 e in absurd (omega (arith, ap length same))
    go tail false e = tail

-- a name that is none of these
new_name : List TextName → Seen
new_name taken = record { symbol = Name; text = replicate (room taken) 0 }

new_name_fresh : (taken : List TextName) → fresh taken (new_name taken) ≡ true
unfolding fresh new_name names
new_name_fresh taken = rw (not_among (replicate (room taken) 0) taken (omega (arith, length-replicate {A = ℕ} (room taken) 0)))
    refl

pub fresh_takes : (m : ℕ) (taken : List TextName) → Takes kind m names none (token (fresh taken))
unfolding fresh
fresh_takes m taken = narrow_takes m names (fresh taken) (new_name taken) (new_name_fresh taken)
    (λ t e. and_left (names t.symbol) _ e)
