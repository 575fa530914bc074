-- The values of bound variables.
use Rattle.std.proofs.Common.{◌≡◌, sym, ap, ◌∙◌, ⊎_elim, subst, ℕ, zero, suc, ◌+◌, ◌≤◌, ◌&&◌, ◌==◌, eqb-true, nat_lt, Bool, true, List, [], ◌∷◌, ◌++◌, length, arith}
use Rattle.std.specs.List.{AllZip, list_all}
use Rattle.elan_terms.specs.declared.tree.SortId.{SortId}
use Rattle.elan_terms.specs.declared.tree.Term.{Term}
use Rattle.elan_program.specs.declared.program.Program.{Program}
use Rattle.elan_program.specs.Patterns.{is_bound, are_numbered}
use Rattle.elan_terms.proofs.Sorting.{not_true}
use Rattle.elan_terms.proofs.Lists.{AllOf}
use Rattle.elan_meaning.specs.Meaning.{value_of}
use Rattle.elan_kinds.specs.Kinds.{IsKind, Given}
use Rattle.elan_kinds.proofs.SortFits.{both, one}

pub later_numbers : (sorts k : ℕ) (vs : List (ℕ × SortId)) (v : ℕ × SortId) → are_numbered sorts k vs ≡ true → is_bound vs v ≡ true → k ≤ v.0
later_numbers sorts k [] v e b = not_true (sym b)
later_numbers sorts k (w ∷ vs) v e b =
    let n : ((w.0 == k && nat_lt w.1.0 sorts) ≡ true) × (are_numbered sorts (suc k) vs ≡ true) = both (w.0 == k && nat_lt w.1.0 sorts) (are_numbered sorts (suc k) vs) e in
    let first : w.0 ≡ k = eqb-true w.0 k (both (w.0 == k) (nat_lt w.1.0 sorts) n.0).0 in
    ⊎_elim
    (λ here. let same_number : w.0 ≡ v.0 = eqb-true w.0 v.0 (both (w.0 == v.0) (w.1.0 == v.1.0) here).0 in omega arith)
    (λ there. let more : suc k ≤ v.0 = later_numbers sorts (suc k) vs v n.1 there in omega arith)
    (one (w.0 == v.0 && w.1.0 == v.1.0) (is_bound vs v) b)

pub numbered_append : (sorts k l : ℕ) (xs ys : List (ℕ × SortId)) → l ≡ k + length xs → are_numbered sorts k xs ≡ true → are_numbered sorts l ys ≡ true → are_numbered sorts k (xs ++ ys) ≡ true
numbered_append sorts k l [] ys e h g = let same : l ≡ k = omega arith in subst (λ (i : ℕ). are_numbered sorts i ys ≡ true) same g
numbered_append sorts k l (v ∷ xs) ys e h g =
    let n : ((v.0 == k && nat_lt v.1.0 sorts) ≡ true) × (are_numbered sorts (suc k) xs ≡ true) = both (v.0 == k && nat_lt v.1.0 sorts) (are_numbered sorts (suc k) xs) h in
    ap (λ b. b && are_numbered sorts (suc k) (xs ++ ys)) n.0 ∙ numbered_append sorts (suc k) l xs ys (omega arith) n.1 g

pub zip_append : {A B : Type 0} (R : A → B → Type 0) (xs ys : List A) (us bs : List B) → AllZip R xs us → AllZip R ys bs → AllZip R (xs ++ ys) (us ++ bs)
zip_append R [] ys [] bs h k = k
zip_append R [] ys (u ∷ us) bs h k = absurd h
zip_append R (x ∷ xs) ys [] bs h k = absurd h
zip_append R (x ∷ xs) ys (u ∷ us) bs h k = (h.0, zip_append R xs ys us bs h.1 k)

module _ (p : Program) where
  -- the value of the variable k + x stands at the place x where the numbers begin with k
  value_from : (sorts k x : ℕ) (vs : List (ℕ × SortId)) (ts : List Term) (v : ℕ × SortId) → v.0 ≡ k + x → are_numbered sorts k vs ≡ true → AllZip (λ v t. IsKind p v.1 t) vs ts → is_bound vs v ≡ true
      → IsKind p v.1 (value_of ts x)
  value_from sorts k x [] ts v at e h b = not_true (sym b)
  value_from sorts k x (w ∷ vs) [] v at e h b = absurd h
  value_from sorts k zero (w ∷ vs) (t ∷ ts) v at e h b =
      let n : ((w.0 == k && nat_lt w.1.0 sorts) ≡ true) × (are_numbered sorts (suc k) vs ≡ true) = both (w.0 == k && nat_lt w.1.0 sorts) (are_numbered sorts (suc k) vs) e in
      ⊎_elim
      (λ here. subst (λ (i : ℕ). IsKind p (record { 0 = i }) t) (eqb-true w.1.0 v.1.0 (both (w.0 == v.0) (w.1.0 == v.1.0) here).1) h.0)
      (λ there. let more : suc k ≤ v.0 = later_numbers sorts (suc k) vs v n.1 there in absurd (omega arith))
      (one (w.0 == v.0 && w.1.0 == v.1.0) (is_bound vs v) b)
  value_from sorts k (suc x) (w ∷ vs) (t ∷ ts) v at e h b =
      let n : ((w.0 == k && nat_lt w.1.0 sorts) ≡ true) × (are_numbered sorts (suc k) vs ≡ true) = both (w.0 == k && nat_lt w.1.0 sorts) (are_numbered sorts (suc k) vs) e in
      let first : w.0 ≡ k = eqb-true w.0 k (both (w.0 == k) (nat_lt w.1.0 sorts) n.0).0 in
      ⊎_elim
      (λ here. let same_number : w.0 ≡ v.0 = eqb-true w.0 v.0 (both (w.0 == v.0) (w.1.0 == v.1.0) here).0 in absurd (omega arith))
      (λ there. value_from sorts (suc k) x vs ts v (omega arith) n.1 h.1 there)
      (one (w.0 == v.0 && w.1.0 == v.1.0) (is_bound vs v) b)

  pub value_kind : (bound : List (ℕ × SortId)) (a : List Term) (v : ℕ × SortId) → Given p bound a → is_bound bound v ≡ true → IsKind p v.1 (value_of a v.0)
  value_kind bound a v g b = value_from (length p.signature.sorts) 0 v.0 bound a v (omega arith) g.numbered g.values b

  pub given_append : (bound vs : List (ℕ × SortId)) (a b : List Term) → Given p bound a → are_numbered (length p.signature.sorts) (length bound) vs ≡ true → AllZip (λ v t. IsKind p v.1 t) vs b → Given p (bound ++ vs) (a ++ b)
  given_append bound vs a b g n h = record {
    numbered = numbered_append (length p.signature.sorts) 0 (length bound) bound vs (omega arith) g.numbered n;
    values = zip_append (λ v t. IsKind p v.1 t) bound vs a b g.values h;
  }

  pub all_bound : (P : ℕ × SortId → Type 0) (test : ℕ × SortId → Bool) (vs : List (ℕ × SortId)) → ((v : ℕ × SortId) → test v ≡ true → P v) → list_all test vs ≡ true → AllOf P vs
  all_bound P test [] f e = tt
  all_bound P test (v ∷ vs) f e = let k : (test v ≡ true) × (list_all test vs ≡ true) = both (test v) (list_all test vs) e in (f v k.0, all_bound P test vs f k.1)
