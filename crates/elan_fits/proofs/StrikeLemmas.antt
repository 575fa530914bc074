-- What is struck from a list.
use Rattle.std.proofs.Common.{◌≡◌, refl, sym, ap, ◌∙◌, ⊎_elim, ℕ, suc, ◌+◌, ◌<◌, ◌≤◌, Bool, true, false, cond, List, [], ◌∷◌, ◌++◌, length, take, drop, subst, get_or, arith}
use Rattle.std.specs.List.{remove}
use Rattle.elan_terms.specs.declared.tree.Term.{Term}
use Rattle.elan_terms.specs.Term.{same}
use Rattle.elan_terms.proofs.OrderLemmas.{same-equal}
use Rattle.elan_laws.specs.Parts.{times}
use Rattle.elan_laws.proofs.CanonicalLaws.{true_or_false}
use Rattle.elan_fits.specs.Looks.{first_same, Struck, Lacks}
use Rattle.elan_fits.proofs.Slices.{others, begins, is_empty}
use Rattle.elan_fits.proofs.TimesLemmas.{one_if, times-cons, times-append, one_if-itself, one_if-other}

first-here : (t u : Term) (us : List Term) → same t u ≡ true → first_same t (u ∷ us) ≡ 0
first-here t u us e = ap (λ b. cond b 0 (suc (first_same t us))) e

first-later : (t u : Term) (us : List Term) → same t u ≡ false → first_same t (u ∷ us) ≡ suc (first_same t us)
first-later t u us e = ap (λ b. cond b 0 (suc (first_same t us))) e

removed : (t : Term) (us : List Term) → first_same t us < length us → (x : Term)
    → times x us ≡ one_if x t + times x (remove us (first_same t us))
removed t [] below x = absurd (omega arith)
removed t (u ∷ us) below x = ⊎_elim
    (λ here. let is : one_if x t ≡ one_if x u = ap (one_if x) (same-equal t u here) in
    let gone : times x (remove (u ∷ us) (first_same t (u ∷ us))) ≡ times x us = ap (λ i. times x (remove (u ∷ us) i)) (first-here t u us here) in
    omega (arith, times-cons x u us))
    (λ other. let next : first_same t (u ∷ us) ≡ suc (first_same t us) = first-later t u us other in
    let later : times x us ≡ one_if x t + times x (remove us (first_same t us)) = removed t us (omega arith) x in
    let gone : times x (remove (u ∷ us) (first_same t (u ∷ us))) ≡ times x (u ∷ remove us (first_same t us)) = ap (λ i. times x (remove (u ∷ us) i)) next in
    omega (arith, times-cons x u us, times-cons x u (remove us (first_same t us))))
    (true_or_false (same t u))

missing : (t : Term) (us : List Term) → length us ≤ first_same t us → times t us ≡ 0
missing t [] past = refl
missing t (u ∷ us) past = ⊎_elim
    (λ here. let zero : first_same t (u ∷ us) ≡ 0 = first-here t u us here in absurd (omega arith))
    (λ other. let next : first_same t (u ∷ us) ≡ suc (first_same t us) = first-later t u us other in
    let later : times t us ≡ 0 = missing t us (omega arith) in
    omega (arith, times-cons t u us, one_if-other t u other))
    (true_or_false (same t u))

pub strike-found : (t : Term) (us more : List Term) (at : ℕ) → at ≡ first_same t us → at < length us → more ≡ remove us at
    → Struck us (t ∷ []) more
unfolding Struck Lacks
strike-found t us more at is below e x =
    let within : first_same t us < length us = omega arith in
    let gone : times x more ≡ times x (remove us (first_same t us)) = ap (times x) (e ∙ ap (remove us) is) in
    omega (arith, removed t us within x, times-cons x t [])

pub strike-missing : (t : Term) (us : List Term) (at : ℕ) → at ≡ first_same t us → (at < length us → ⊥) → Lacks us (t ∷ [])
unfolding Struck Lacks
strike-missing t us at is past rest h =
    let e : times t us ≡ times t (t ∷ []) + times t rest = h t in
    let over : length us ≤ first_same t us = within (first_same t us) (λ l. past (omega arith)) in
    absurd (omega (arith, missing t us over, times-cons t t [], one_if-itself t))
  where
    within : (n : ℕ) → (n < length us → ⊥) → length us ≤ n
    within n below = omega arith

pub ruleset one = (strike-found, strike-missing)

pub struck-none : (us : List Term) → Struck us [] us
unfolding Struck Lacks
struck-none us x = omega arith

pub struck-more : (t : Term) (ts us vs ws : List Term) → Struck us (t ∷ []) vs → Struck vs ts ws → Struck us (t ∷ ts) ws
unfolding Struck Lacks
struck-more t ts us vs ws h k x =
    let a : times x us ≡ times x (t ∷ []) + times x vs = h x in
    let b : times x vs ≡ times x ts + times x ws = k x in
    omega (arith, times-cons x t [], times-cons x t ts)

pub lacks-first : (t : Term) (ts us : List Term) → Lacks us (t ∷ []) → Lacks us (t ∷ ts)
unfolding Struck Lacks
lacks-first t ts us h rest k = h (ts ++ rest) (λ x. let a : times x us ≡ times x (t ∷ ts) + times x rest = k x in omega (arith, times-cons x t [], times-cons x t ts, times-append x ts rest))

pub lacks-later : (t : Term) (ts us vs : List Term) → Struck us (t ∷ []) vs → Lacks vs ts → Lacks us (t ∷ ts)
unfolding Struck Lacks
lacks-later t ts us vs h k rest l = k rest (λ x.
    let a : times x us ≡ times x (t ∷ []) + times x vs = h x in
    let b : times x us ≡ times x (t ∷ ts) + times x rest = l x in
    omega (arith, times-cons x t [], times-cons x t ts))

pub struck-empty : (ts us : List Term) → length ts < 1 → Struck us ts us
struck-empty ts us few = subst (λ vs. Struck us vs us) (sym (is_empty ts few)) (struck-none us)

pub struck-first : (t : Term) (ts us vs ws : List Term) → 1 ≤ length ts → t ≡ get_or ts 0 t → Struck us (t ∷ []) vs → Struck vs (others ts) ws → Struck us ts ws
struck-first t ts us vs ws some is h k = subst (λ xs. Struck us xs ws) (sym (begins ts t some is)) (struck-more t (others ts) us vs ws h k)

pub lacking-first : (t : Term) (ts us : List Term) → 1 ≤ length ts → t ≡ get_or ts 0 t → Lacks us (t ∷ []) → Lacks us ts
lacking-first t ts us some is h = subst (Lacks us) (sym (begins ts t some is)) (lacks-first t (others ts) us h)

pub lacking-later : (t : Term) (ts us vs : List Term) → 1 ≤ length ts → t ≡ get_or ts 0 t → Struck us (t ∷ []) vs → Lacks vs (others ts) → Lacks us ts
lacking-later t ts us vs some is h k = subst (Lacks us) (sym (begins ts t some is)) (lacks-later t (others ts) us vs h k)

pub ruleset each = (struck-empty, struck-first, lacking-first, lacking-later)
