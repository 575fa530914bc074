-- What a change of a map under one name leaves under every other.
use Rattle.std.proofs.Common.{◌≡◌, refl, sym, ap, subst, ◌∙◌, ℕ, Bool, true, false, List, [], ◌∷◌, ◌++◌}
use Rattle.std.specs.Prelude.{Option, if◌then◌else◌}
use Rattle.std.specs.HashMap.{HashMap, UpdatesBy, get_by}
use Rattle.std.specs.Map.{KeepsOthers, IsKeyTest, AreApart, lookup}
use Rattle.std.specs.Str.{bytes_eq}
use Rattle.std.proofs.lemmas.Slice.Eq.{bytes_eq-Decides}
use Rattle.std.proofs.lemmas.List.{append-nil}
use Rattle.elan_variables.specs.Places.{place_if, or_none, put}

other_entries : {K X : Type 0} (eq : K → K → Bool) (test : K → Bool) (old new : List (K × X)) → KeepsOthers eq test old new
    → (other : K → Bool) → IsKeyTest eq other → AreApart test other → lookup other new ≡ lookup other old
unfolding KeepsOthers
other_entries eq test old new h = h

-- ---- names

one_name : (a b : List ℕ) → bytes_eq a b ≡ true → a ≡ b
one_name a b = (bytes_eq-Decides a b).0

is_itself : (a : List ℕ) → bytes_eq a a ≡ true
is_itself a = (bytes_eq-Decides a a).1 refl

no_bool : (b : Bool) → b ≡ true → b ≡ false → ⊥
no_bool true e f = cc
no_bool false e f = cc

apart : (name word k : List ℕ) → bytes_eq name word ≡ false → bytes_eq name k ≡ true → bytes_eq word k ≡ false
apart name word k n y = go (bytes_eq word k) refl
  where
    go : (b : Bool) → bytes_eq word k ≡ b → b ≡ false
    go true e = absurd (no_bool (bytes_eq name word) (subst (λ x. bytes_eq name x ≡ true) (sym (one_name word k e)) y) n)
    go false e = refl

follows : (word x y : List ℕ) → bytes_eq word x ≡ true → bytes_eq word y ≡ bytes_eq x y
follows word x y e = ap (λ a. bytes_eq a y) (one_name word x e)

-- ---- places

module _ {K S : Type 0} (value : K → List ℕ) where
  abbrev found : List ℕ → HashMap K (List ℕ) S → List ℕ
  found word m = or_none (get_by (λ k. bytes_eq word (value k)) m)

  -- a map that is changed at one name
  pub updated : (name : List ℕ) (m n : HashMap K (List ℕ) S) (w : Option (List ℕ))
      → UpdatesBy (λ x y. bytes_eq (value x) (value y)) (λ k. bytes_eq name (value k)) m n w
      → (word : List ℕ) → found word n ≡ put name (or_none w) word (found word m)
  updated name m n w h word = go (bytes_eq name word) refl
    where
      go : (b : Bool) → bytes_eq name word ≡ b → found word n ≡ (if b then or_none w else found word m)
      go true y = subst (λ l. found l n ≡ or_none w) (one_name name word y) (ap or_none h.1)
      go false e = ap or_none (other_entries _ _ _ _ h.3 _ (λ x y. follows word (value x) (value y)) (λ k. apart name word (value k) e))

-- places that are taken out and put back with one more behind them
added : (name word : List ℕ) (n : ℕ) (kept : List ℕ → List ℕ)
    → put name (kept name ++ n ∷ []) word (put name [] word (kept word)) ≡ kept word ++ place_if (bytes_eq name word) n
added name word n kept = go (bytes_eq name word) refl
  where
    go : (b : Bool) → bytes_eq name word ≡ b
        → (if b then kept name ++ n ∷ [] else (if b then [] else kept word)) ≡ kept word ++ place_if b n
    go true e = ap (λ k. kept k ++ n ∷ []) (one_name name word e)
    go false e = sym (append-nil (kept word))

-- the same, step by step
pub added_behind : (name key : List ℕ) (n : ℕ) (old taken new : List ℕ → List ℕ) (places more : List ℕ)
    → key ≡ name → places ≡ old name → ((word : List ℕ) → taken word ≡ put name [] word (old word))
    → more ≡ places ++ n ∷ [] → ((word : List ℕ) → new word ≡ put key more word (taken word))
    → (word : List ℕ) → new word ≡ old word ++ place_if (bytes_eq name word) n
added_behind name key n old taken new places more same value others one then_new word =
    then_new word
    ∙ ap (λ k. put k more word (taken word)) same
    ∙ ap (λ m. put name m word (taken word)) (one ∙ ap (λ ns. ns ++ n ∷ []) value)
    ∙ ap (put name (old name ++ n ∷ []) word) (others word)
    ∙ added name word n old
