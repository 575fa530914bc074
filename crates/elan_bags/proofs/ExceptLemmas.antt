-- Taking away what is there, term by term.
use Rattle.std.proofs.Common.{◌≡◌, refl, sym, ap, ◌∙◌, subst, ⊎_elim, ℕ, ◌-◌, ◌≤◌, Bool, true, false, cond, List, [], ◌∷◌, ◌++◌, append-nil, ◌<◌, length, drop, is_gt, is_eq, arith}
use Rattle.std.specs.declared.cmp.Ordering.{Ordering}
use Rattle.std.specs.declared.cmp.Ordering.TheVariants.{Less, Equal, Greater}
use Rattle.boxcar.specs.Table.{Where}
use Rattle.elan_terms.specs.declared.tree.Term.{Term}
use Rattle.elan_terms.specs.Term.{order, same}
use Rattle.elan_terms.specs.Ascending.{NotAfter, Ascends}
use Rattle.elan_terms.proofs.Lists.{Pairs, pairs_of}
use Rattle.elan_terms.proofs.OrderLemmas.{order-equal, same-equal}
use Rattle.elan_terms.proofs.Sorting.{not_true}
use Rattle.elan_laws.specs.Parts.{SomeOf, none, taken, left, times}
use Rattle.elan_table.specs.Rows.{terms}
use Rattle.elan_bags.specs.Bags.{IsExcept}
use Rattle.elan_bags.specs.Cuts.{against, since}
use Rattle.elan_bags.proofs.TimesLemmas.{true_or_false, less_of, before_of, before_all, one_if, one_if-same, one_if-other, times-cons, absent, some-times, some_ascends}

-- the terms without those of the others that are there
abbrev pub except : List Term → List Term → List Term
except [] vs = []
except (u ∷ us) vs = cond (is_eq (against u (since u vs))) (except us (drop 1 (since u vs))) (u ∷ except us (since u vs))

either_some : {u : Term} {us xs ys : List Term} (b : Bool) → SomeOf xs us → SomeOf ys us → SomeOf (cond b xs (u ∷ ys)) (u ∷ us)
either_some true s r = left s
either_some false s r = taken r

pub except_some : (us vs : List Term) → SomeOf (except us vs) us
except_some [] vs = none
except_some (u ∷ us) vs = either_some (is_eq (against u (since u vs))) (except_some us (drop 1 (since u vs))) (except_some us (since u vs))

-- ---- what is since a term

since_by : (P : List Term → Type 0) (u v : Term) (vs : List Term) (b : Bool) → is_gt (order u v) ≡ b → (is_gt (order u v) ≡ true → P (since u vs)) → (is_gt (order u v) ≡ false → P (v ∷ vs)) → P (cond b (since u vs) (v ∷ vs))
since_by P u v vs true e f g = f e
since_by P u v vs false e f g = g e

pub since_pairs : (u : Term) (vs : List Term) → Pairs NotAfter vs → Pairs NotAfter (since u vs)
since_pairs u [] h = tt
since_pairs u (v ∷ vs) h = since_by (Pairs NotAfter) u v vs (is_gt (order u v)) refl (λ e. since_pairs u vs h.1) (λ e. h)

pub since_head : (u : Term) (vs : List Term) → is_gt (against u (since u vs)) ≡ false
since_head u [] = refl
since_head u (v ∷ vs) = since_by (λ ws. is_gt (against u ws) ≡ false) u v vs (is_gt (order u v)) refl (λ e. since_head u vs) (λ e. e)

-- a term that does not stand before u is not one that stands before u
not_passed : (t u v : Term) → NotAfter u t → is_gt (order u v) ≡ true → one_if t v ≡ 0
not_passed t u v le gt = ⊎_elim
    (λ e. not_true (sym (ap (λ w. is_gt (order u w)) (same-equal t v e) ∙ gt) ∙ le))
    (λ e. one_if-other t v e)
    (true_or_false (same t v))

since_times : (t u : Term) (vs : List Term) → NotAfter u t → times t (since u vs) ≡ times t vs
since_times t u [] le = refl
since_times t u (v ∷ vs) le = since_by (λ ws. times t ws ≡ times t (v ∷ vs)) u v vs (is_gt (order u v)) refl
    (λ e. let none_here : one_if t v ≡ 0 = not_passed t u v le e in let later : times t (since u vs) ≡ times t vs = since_times t u vs le in omega (arith, times-cons t v vs))
    (λ e. refl)

-- ---- how often each is left

-- the first term is not after t
module _ (t u : Term) (us : List Term) (le : NotAfter u t) (rest : (vs : List Term) → Pairs NotAfter vs → times t (except us vs) ≡ times t us - times t vs) where
  by_head : (ws : List Term) (b : Bool) → is_eq (against u ws) ≡ b → is_gt (against u ws) ≡ false → Pairs NotAfter ws
      → times t (cond b (except us (drop 1 ws)) (u ∷ except us ws)) ≡ times t (u ∷ us) - times t ws
  by_head [] true e f h = not_true (sym e)
  by_head [] false e f h = let later : times t (except us []) ≡ times t us - 0 = rest [] tt in omega (arith, times-cons t u us, times-cons t u (except us []))
  by_head (w ∷ ws) true e f h =
      let alike : one_if t u ≡ one_if t w = ap (one_if t) (order-equal u w (equal_of (order u w) e)) in
      let later : times t (except us ws) ≡ times t us - times t ws = rest ws h.1 in
      omega (arith, times-cons t u us, times-cons t w ws)
    where
      equal_of : (o : Ordering) → is_eq o ≡ true → o ≡ Equal
      equal_of Less e = not_true (sym e)
      equal_of Equal e = refl
      equal_of Greater e = not_true (sym e)
  by_head (w ∷ ws) false e f h = ⊎_elim
      (λ s. let here : one_if t u ≡ 1 = one_if-same t u s in
      let lt : order t w ≡ Less = ap (λ x. order x w) (same-equal t u s) ∙ less_of (order u w) e f in
      let missing : times t (w ∷ ws) ≡ 0 = absent t (w ∷ ws) (lt, before_all t w ws lt h.0) in
      let later : times t (except us (w ∷ ws)) ≡ times t us - times t (w ∷ ws) = rest (w ∷ ws) h in
      omega (arith, times-cons t u us, times-cons t u (except us (w ∷ ws))))
      (λ s. let here : one_if t u ≡ 0 = one_if-other t u s in
      let later : times t (except us (w ∷ ws)) ≡ times t us - times t (w ∷ ws) = rest (w ∷ ws) h in
      omega (arith, times-cons t u us, times-cons t u (except us (w ∷ ws))))
      (true_or_false (same t u))

not_there : (t : Term) (us vs : List Term) (n : ℕ) → SomeOf vs us → times t us ≡ 0 → times t vs ≡ times t us - n
not_there t us vs n s e = let few : times t vs ≤ times t us = some-times t s in omega arith

except_times : (us vs : List Term) → Pairs NotAfter us → Pairs NotAfter vs → (t : Term) → times t (except us vs) ≡ times t us - times t vs
except_times [] vs h k t = omega arith
except_times (u ∷ us) vs h k t = ⊎_elim
    (λ gt. let lt : order t u ≡ Less = before_of t u gt in
    not_there t (u ∷ us) (except (u ∷ us) vs) (times t vs) (except_some (u ∷ us) vs) (absent t (u ∷ us) (lt, before_all t u us lt h.0)))
    (λ le. by_head t u us le (λ ws l. except_times us ws h.1 l t) (since u vs) (is_eq (against u (since u vs))) refl (since_head u vs) (since_pairs u vs k)
    ∙ ap (λ n. times t (u ∷ us) - n) (since_times t u vs le))
    (true_or_false (is_gt (order u t)))

except_is : (us vs ws : List Term) → ws ≡ except us vs → Ascends us → Ascends vs → IsExcept us vs ws
except_is us vs ws e up up' =
    let some_of : SomeOf ws us = subst (λ l. SomeOf l us) (sym e) (except_some us vs) in
    record {
      some = some_of;
      each = λ t. ap (times t) e ∙ except_times us vs (pairs_of NotAfter us up) (pairs_of NotAfter vs up') t;
      ascends = some_ascends ws us some_of up;
    }

-- all rows were passed
pub except_found : (us vs out gone : List Term) (rows : List (Where Term)) → out ++ except (terms rows) gone ≡ except us vs → length rows < 1 → Ascends us → Ascends vs → IsExcept us vs out
except_found us vs out gone [] e lt up up' = except_is us vs out (sym (append-nil out) ∙ e) up up'
except_found us vs out gone (u ∷ rows) e lt up up' = absurd (omega arith)
