-- What a sound signature says of an operator.
use Rattle.std.proofs.Common.{◌≡◌, refl, sym, ap, ◌∙◌, subst, ℕ, zero, suc, ◌<◌, Bool, true, false, cond, ◌&&◌, ◌==◌, eqb-true, Some, None, List, [], ◌∷◌, length, slice_get, map, arith}
use Rattle.std.specs.Prelude.{option_map, unwrap_or, nat_lt}
use Rattle.std.specs.List.{list_all}
use Rattle.std.proofs.lemmas.Option.{slice_get-map}
use Rattle.elan_terms.specs.declared.tree.SortId.{SortId}
use Rattle.elan_program.specs.declared.signature.Operator.{Operator}
use Rattle.elan_program.specs.declared.signature.Signature.{Signature}
use Rattle.elan_program.specs.Signature.{shape_of}
use Rattle.elan_program.specs.Soundness.{has_sort_id, holes, are_spelled, is_some_list, is_spelling_of, same_sort, two_args, ac_fits, builtin_fits, is_sound_operator, is_sound, most, int_fits, truth_fits, has_no_cycle}
use Rattle.elan_terms.proofs.Sorting.{not_true}

-- ---- tests

pub both : (a b : Bool) → a && b ≡ true → (a ≡ true) × (b ≡ true)
both true b e = (refl, e)
both false b e = not_true (sym e)

pub some_is : {A : Type 0} (x y : A) → Some x ≡ Some y → x ≡ y
some_is x y e = ap (λ o. unwrap_or o x) e

all_at : {A : Type 0} (p : A → Bool) (xs : List A) (n : ℕ) (x : A) → list_all p xs ≡ true → slice_get xs n ≡ Some x → p x ≡ true
all_at p [] n x h e = absurd (no e)
  where
    no : None ≡ Some x → ⊥
    no f = cc
all_at p (y ∷ xs) zero x h e = subst (λ z. p z ≡ true) (some_is y x e) (both (p y) (list_all p xs) h).0
all_at p (y ∷ xs) (suc n) x h e = all_at p xs n x (both (p y) (list_all p xs) h).1 e

-- ---- operators

-- what is said of an operator of a sound signature
pub record SoundOperator (o : Operator) : Type 0 where
  pub some : is_some_list o.pieces ≡ true
  pub as_many : holes o.pieces ≡ length o.args
  pub allowed : are_spelled o.pieces ≡ true
  pub own : ac_fits o ≡ true

module _ (g : Signature) (sound : is_sound g ≡ true) where
  operators_are : list_all (is_sound_operator g) g.operators ≡ true
  unfolding is_sound
  operators_are =
      let k = both (nat_lt (length g.sorts) most && nat_lt (length g.operators) most) (list_all (is_sound_operator g) g.operators && (int_fits g g.int && (truth_fits g g.truth && has_no_cycle g))) sound in
      (both (list_all (is_sound_operator g) g.operators) (int_fits g g.int && (truth_fits g g.truth && has_no_cycle g)) k.1).0

  pub sound_at : (n : ℕ) (o : Operator) → slice_get g.operators n ≡ Some o → SoundOperator o
  unfolding is_sound_operator is_spelling_of
  sound_at n o e =
      let spelling : Bool = is_some_list o.pieces && (holes o.pieces == length o.args && are_spelled o.pieces) in
      let k = both (spelling && (list_all (has_sort_id g) o.args && has_sort_id g o.sort)) (ac_fits o && builtin_fits g o o.builtin) (all_at (is_sound_operator g) g.operators n o operators_are e) in
      let s = both spelling (list_all (has_sort_id g) o.args && has_sort_id g o.sort) k.0 in
      let m = both (is_some_list o.pieces) (holes o.pieces == length o.args && are_spelled o.pieces) s.0 in
      let n = both (holes o.pieces == length o.args) (are_spelled o.pieces) m.1 in
      record { some = m.0; as_many = eqb-true (holes o.pieces) (length o.args) n.0; allowed = n.1; own = (both (ac_fits o) (builtin_fits g o o.builtin) k.1).0 }

-- a spelling has a piece
pub some_pieces : {A : Type 0} (xs : List A) → is_some_list xs ≡ true → 0 < length xs
some_pieces [] e = not_true (sym e)
some_pieces (x ∷ xs) e = omega arith

pub same_sorts : (s t : SortId) → same_sort s t ≡ true → s ≡ t
same_sorts s t e = ap (λ (i : ℕ). record { 0 = i }) (eqb-true s.0 t.0 e)

-- the two sorts are the operator's own
pub two_own : (s : SortId) (ss : List SortId) → two_args (same_sort s) ss ≡ true → ss ≡ s ∷ s ∷ []
two_own s [] e = not_true (sym e)
two_own s (a ∷ []) e = not_true (sym e)
two_own s (a ∷ b ∷ []) e =
    let k : (same_sort s a ≡ true) × (same_sort s b ≡ true) = both (same_sort s a) (same_sort s b) e in
    ap (λ (x : SortId). x ∷ b ∷ []) (sym (same_sorts s a k.0)) ∙ ap (λ (x : SortId). s ∷ x ∷ []) (sym (same_sorts s b k.1))
two_own s (a ∷ b ∷ c ∷ ss) e = not_true (sym e)

pub ac_sorts : (o : Operator) → SoundOperator o → o.ac ≡ true → o.args ≡ o.sort ∷ o.sort ∷ []
ac_sorts o h ac = two_own o.sort o.args (sym (ap (λ b. cond b (two_args (same_sort o.sort) o.args) true) ac) ∙ h.own)

-- ---- shapes

module _ (g : Signature) where
  pub shape_at : (n : ℕ) → slice_get (map shape_of g.operators) n ≡ option_map shape_of (slice_get g.operators n)
  shape_at n = slice_get-map shape_of g.operators n
