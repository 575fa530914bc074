-- What a change of a map under one key leaves under every other.
use Rattle.std.proofs.Common.{◌≡◌, refl, sym, ap, subst, ◌∙◌, ℕ, ◌&&◌, Bool, true, false, List, [], ◌∷◌, ◌++◌, arith}
use Rattle.std.specs.Prelude.{Option, Some, None, if◌then◌else◌}
use Rattle.std.specs.HashMap.{HashMap, UpdatesBy, get_by}
use Rattle.std.specs.Map.{KeepsOthers, IsKeyTest, AreApart, lookup}
use Rattle.std.proofs.lemmas.Grind.{common_steps}
use Rattle.std.proofs.lemmas.Slice.Eq.{bytes_eq-Decides}
use Rattle.std.proofs.lemmas.List.{append-nil}
use Rattle.elan_names.specs.Names.{where_passed}
use Rattle.elan_names.specs.Groups.{KeyValue, same_number, same_key, or_none, put, with_number}

other_entries : {K X : Type 0} (eq : K → K → Bool) (test : K → Bool) (old new : List (K × X)) → KeepsOthers eq test old new
    → (other : K → Bool) → IsKeyTest eq other → AreApart test other → lookup other new ≡ lookup other old
unfolding KeepsOthers
other_entries eq test old new h = h

-- ---- keys

left : (a b : Bool) → a && b ≡ true → a ≡ true
left true b e = refl
left false b e = cc

right : (a b : Bool) → a && b ≡ true → b ≡ true
right true b e = e
right false b e = cc

both : (a b : Bool) → a ≡ true → b ≡ true → a && b ≡ true
both a b e f = ap (λ x. x && b) e ∙ f

one_number : (a b : Option ℕ) → same_number a b ≡ true → a ≡ b
one_number None None e = refl
one_number None (Some n) e = cc
one_number (Some m) None e = cc
one_number (Some m) (Some n) e = let same : m ≡ n = grind (arith, common_steps) in ap Some same

number_is_itself : (a : Option ℕ) → same_number a a ≡ true
number_is_itself None = refl
number_is_itself (Some n) = grind (arith, common_steps)

one_key : (a b : KeyValue) → same_key a b ≡ true → a ≡ b
one_key a b e =
    let name : a.name ≡ b.name = (bytes_eq-Decides a.name b.name).0 (left _ _ e) in
    let holes : a.holes ≡ b.holes = one_number a.holes b.holes (left _ _ (right _ _ e)) in
    let sort : a.sort ≡ b.sort = one_number a.sort b.sort (right _ _ (right _ _ e)) in
    ap (λ x. record { name = x; holes = a.holes; sort = a.sort }) name
    ∙ ap (λ x. record { name = b.name; holes = x; sort = a.sort }) holes
    ∙ ap (λ x. record { name = b.name; holes = b.holes; sort = x }) sort

key_is_itself : (a : KeyValue) → same_key a a ≡ true
key_is_itself a = both _ _ ((bytes_eq-Decides a.name a.name).1 refl) (both _ _ (number_is_itself a.holes) (number_is_itself a.sort))

turned : (a b : KeyValue) → same_key a b ≡ true → same_key b a ≡ true
turned a b e = subst (λ x. same_key x a ≡ true) (one_key a b e) (key_is_itself a)

no_bool : (b : Bool) → b ≡ true → b ≡ false → ⊥
no_bool true e f = cc
no_bool false e f = cc

apart : (key asked k : KeyValue) → same_key key asked ≡ false → same_key key k ≡ true → same_key asked k ≡ false
apart key asked k n y = go (same_key asked k) refl
  where
    go : (b : Bool) → same_key asked k ≡ b → b ≡ false
    go true e = absurd (no_bool (same_key key asked) (subst (λ x. same_key key x ≡ true) (one_key k asked (turned asked k e)) y) n)
    go false e = refl

follows : (asked x y : KeyValue) → same_key asked x ≡ true → same_key asked y ≡ same_key x y
follows asked x y e = ap (λ a. same_key a y) (one_key asked x e)

module _ {K S : Type 0} (value : K → KeyValue) where
  abbrev found : KeyValue → HashMap K (List ℕ) S → List ℕ
  found asked m = or_none (get_by (λ k. same_key asked (value k)) m)

  pub updated : (key : KeyValue) (m n : HashMap K (List ℕ) S) (w : Option (List ℕ))
      → UpdatesBy (λ x y. same_key (value x) (value y)) (λ k. same_key key (value k)) m n w
      → (asked : KeyValue) → found asked n ≡ put key (or_none w) asked (found asked m)
  updated key m n w h asked = go (same_key key asked) refl
    where
      go : (b : Bool) → same_key key asked ≡ b → found asked n ≡ (if b then or_none w else found asked m)
      go true y = subst (λ l. found l n ≡ or_none w) (one_key key asked y) (ap or_none h.1)
      go false e = ap or_none (other_entries _ _ _ _ h.3 _ (λ x y. follows asked (value x) (value y)) (λ k. apart key asked (value k) e))

-- numbers that are taken out and put back with one more behind them
added : (key asked : KeyValue) (n : ℕ) (kept : KeyValue → List ℕ)
    → put key (kept key ++ n ∷ []) asked (put key [] asked (kept asked)) ≡ with_number asked (Some key) n (kept asked)
added key asked n kept = go (same_key key asked) refl
  where
    go : (b : Bool) → same_key key asked ≡ b
        → (if b then kept key ++ n ∷ [] else (if b then [] else kept asked)) ≡ kept asked ++ where_passed b n
    go true e = ap (λ k. kept k ++ n ∷ []) (one_key key asked e)
    go false e = sym (append-nil (kept asked))

-- the same, step by step
pub added_behind : (key : KeyValue) (n : ℕ) (old taken new : KeyValue → List ℕ) (numbers more : List ℕ)
    → numbers ≡ old key → ((asked : KeyValue) → taken asked ≡ put key [] asked (old asked))
    → more ≡ numbers ++ n ∷ [] → ((asked : KeyValue) → new asked ≡ put key more asked (taken asked))
    → (asked : KeyValue) → new asked ≡ with_number asked (Some key) n (old asked)
added_behind key n old taken new numbers more value others one then_new asked =
    then_new asked
    ∙ ap (λ m. put key m asked (taken asked)) (one ∙ ap (λ ns. ns ++ n ∷ []) value)
    ∙ ap (put key (old key ++ n ∷ []) asked) (others asked)
    ∙ added key asked n old
