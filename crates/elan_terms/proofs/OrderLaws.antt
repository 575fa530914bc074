-- The term order is total.
use Rattle.std.proofs.Common.{◌≡◌, refl, sym, ap, ◌∙◌, ◌↔◌, ℤ, List, [], ◌∷◌, length, nat_cmp, int_cmp}
use Rattle.std.specs.declared.cmp.Ordering.{Ordering}
use Rattle.std.specs.declared.cmp.Ordering.TheVariants.{Less, Equal, Greater}
use Rattle.std.specs.Ordering.{ordering_then, ordering_reverse}
use Rattle.std.specs.FinMap.{IsAntisymmetric, nat_cmp-IsAntisymmetric, int_cmp-IsAntisymmetric}
use Rattle.std.specs.Cmp.{IsTotalOrder, nat_cmp_total, int_cmp_total}
use Rattle.std.specs.Cmp.Lexicographic.{slice_cmp}
use Rattle.elan_terms.specs.declared.tree.OpId.{OpId}
use Rattle.elan_terms.specs.declared.tree.Term.{Term}
use Rattle.elan_terms.specs.Trees.{int_term, app_term}
use Rattle.elan_terms.specs.Term.{order}
use Rattle.elan_terms.proofs.TermLemmas.{order-int_int, order-int_app, order-app_int, order-app_app}
use Rattle.elan_terms.proofs.OrderLemmas.{order-equal, order-itself}
use Rattle.elan_terms.proofs.Induction.{AllOf, ind_term, cases_term}

-- ---- the equations

pub order-ints : (x y : ℤ) → order (int_term x) (int_term y) ≡ int_cmp x y
order-ints x y = order-int_int (int_term x) (int_term y) x y refl refl

pub order-kinds : (x : ℤ) (f : OpId) (ts : List Term) → order (int_term x) (app_term f ts) ≡ Less
order-kinds x f ts = order-int_app (int_term x) (app_term f ts) x f ts refl refl

pub order-kinds_back : (x : ℤ) (f : OpId) (ts : List Term) → order (app_term f ts) (int_term x) ≡ Greater
order-kinds_back x f ts = order-app_int (app_term f ts) (int_term x) f ts x refl refl

-- by operator, then by number of arguments, then by the arguments
abbrev by_heads : OpId → OpId → List Term → List Term → Ordering
by_heads f g ts us = ordering_then (nat_cmp f.0 g.0) (ordering_then (nat_cmp (length ts) (length us)) (slice_cmp order ts us))

pub order-apps : (f g : OpId) (ts us : List Term) → order (app_term f ts) (app_term g us) ≡ by_heads f g ts us
order-apps f g ts us = order-app_app (app_term f ts) (app_term g us) f g ts us refl refl

-- ---- backwards

then-reversed : (a b a' b' : Ordering) → a ≡ ordering_reverse a' → b ≡ ordering_reverse b' → ordering_then a b ≡ ordering_reverse (ordering_then a' b')
then-reversed a b Less b' e f = ap (λ o. ordering_then o b) e
then-reversed a b Equal b' e f = ap (λ o. ordering_then o b) e ∙ f
then-reversed a b Greater b' e f = ap (λ o. ordering_then o b) e

-- a term against any other, both ways
abbrev Reverses : Term → Type 0
Reverses t = (u : Term) → order t u ≡ ordering_reverse (order u t)

slices-reversed : (ts us : List Term) → AllOf Reverses ts → slice_cmp order ts us ≡ ordering_reverse (slice_cmp order us ts)
slices-reversed [] [] h = refl
slices-reversed [] (u ∷ us) h = refl
slices-reversed (t ∷ ts) [] h = refl
slices-reversed (t ∷ ts) (u ∷ us) h = then-reversed (order t u) _ (order u t) _ (h.0 u) (slices-reversed ts us h.1)

int-reversed : (z : ℤ) → Reverses (int_term z)
int-reversed z = cases_term (λ u. order (int_term z) u ≡ ordering_reverse (order u (int_term z)))
    (λ y. order-ints z y ∙ int_cmp_total.antisymm z y ∙ ap ordering_reverse (sym (order-ints y z)))
    (λ op us. order-kinds z op us ∙ ap ordering_reverse (sym (order-kinds_back z op us)))

app-reversed : (op : OpId) (ts : List Term) → AllOf Reverses ts → Reverses (app_term op ts)
app-reversed op ts h = cases_term (λ u. order (app_term op ts) u ≡ ordering_reverse (order u (app_term op ts)))
    (λ y. order-kinds_back y op ts ∙ ap ordering_reverse (sym (order-kinds y op ts)))
    (λ f us. order-apps op f ts us
    ∙ then-reversed (nat_cmp op.0 f.0) _ (nat_cmp f.0 op.0) _ (nat_cmp_total.antisymm op.0 f.0)
    (then-reversed (nat_cmp (length ts) (length us)) _ (nat_cmp (length us) (length ts)) _ (nat_cmp_total.antisymm (length ts) (length us)) (slices-reversed ts us h))
    ∙ ap ordering_reverse (sym (order-apps f op us ts)))

pub reversed : (t u : Term) → order t u ≡ ordering_reverse (order u t)
reversed = ind_term Reverses int-reversed app-reversed

-- ---- one after another

-- how the first and the last of three stand, by how each two neighbours do
record Chains (a b c : Ordering) : Type 0 where
  less : a ≡ Less → b ≡ Less → c ≡ Less
  first : a ≡ Equal → c ≡ b
  second : b ≡ Equal → c ≡ a

total-chains : {K : Type 0} {R : K → K → Ordering} → IsTotalOrder R → IsAntisymmetric R → (x y z : K) → Chains (R x y) (R y z) (R x z)
total-chains {R = R} o same x y z = record {
  less = o.trans x y z;
  first = o.congr x y z;
  second = λ e. ap (λ w. R x w) (sym (same y z e));
}

not_equal_first : {A : Type 0} → Less ≡ Equal → A
not_equal_first e = absurd (no e)
  where
    no : Less ≡ Equal → ⊥
    no f = cc

not_equal_last : {A : Type 0} → Greater ≡ Equal → A
not_equal_last e = absurd (no e)
  where
    no : Greater ≡ Equal → ⊥
    no f = cc

not_less_last : {A : Type 0} → Greater ≡ Less → A
not_less_last e = absurd (no e)
  where
    no : Greater ≡ Less → ⊥
    no f = cc

not_less_equal : {A : Type 0} → Equal ≡ Less → A
not_less_equal e = absurd (no e)
  where
    no : Equal ≡ Less → ⊥
    no f = cc

then-less : (a b c a' b' c' : Ordering) → Chains a b c → (a' ≡ Less → b' ≡ Less → c' ≡ Less) → ordering_then a a' ≡ Less → ordering_then b b' ≡ Less → ordering_then c c' ≡ Less
then-less Less Less c a' b' c' h k e f = ap (λ o. ordering_then o c') (h.less refl refl)
then-less Less Equal c a' b' c' h k e f = ap (λ o. ordering_then o c') (h.second refl)
then-less Less Greater c a' b' c' h k e f = not_less_last f
then-less Equal Less c a' b' c' h k e f = ap (λ o. ordering_then o c') (h.first refl)
then-less Equal Equal c a' b' c' h k e f = ap (λ o. ordering_then o c') (h.first refl) ∙ k e f
then-less Equal Greater c a' b' c' h k e f = not_less_last f
then-less Greater b c a' b' c' h k e f = not_less_last e

then-first : (a b c a' b' c' : Ordering) → Chains a b c → (a' ≡ Equal → c' ≡ b') → ordering_then a a' ≡ Equal → ordering_then c c' ≡ ordering_then b b'
then-first Less b c a' b' c' h k e = not_equal_first e
then-first Equal b c a' b' c' h k e = ap (λ o. ordering_then o c') (h.first refl) ∙ ap (ordering_then b) (k e)
then-first Greater b c a' b' c' h k e = not_equal_last e

then-second : (a b c a' b' c' : Ordering) → Chains a b c → (b' ≡ Equal → c' ≡ a') → ordering_then b b' ≡ Equal → ordering_then c c' ≡ ordering_then a a'
then-second a Less c a' b' c' h k e = not_equal_first e
then-second a Equal c a' b' c' h k e = ap (λ o. ordering_then o c') (h.second refl) ∙ ap (ordering_then a) (k e)
then-second a Greater c a' b' c' h k e = not_equal_last e

then-chains : (a b c a' b' c' : Ordering) → Chains a b c → Chains a' b' c' → Chains (ordering_then a a') (ordering_then b b') (ordering_then c c')
then-chains a b c a' b' c' h k = record {
  less = then-less a b c a' b' c' h k.less;
  first = then-first a b c a' b' c' h k.first;
  second = then-second a b c a' b' c' h k.second;
}

-- where the first is the least, or the last is the greatest
less-chains : (b : Ordering) → (b ≡ Equal → ⊥) → Chains Less b Less
less-chains b n = record { less = λ e f. refl; first = λ e. not_equal_first e; second = λ e. refl }

greater-less-chains : (c : Ordering) → Chains Greater Less c
greater-less-chains c = record { less = λ e f. not_less_last e; first = λ e. not_equal_last e; second = λ e. not_equal_first e }

greater-chains : (c : Ordering) → Chains c Greater Greater
greater-chains c = record { less = λ e f. not_less_last f; first = λ e. refl; second = λ e. not_equal_last e }

-- a term before any other, and that one before a third
abbrev Follows : Term → Type 0
Follows t = (u v : Term) → Chains (order t u) (order u v) (order t v)

slices-chain : (ts us vs : List Term) → AllOf Follows ts → Chains (slice_cmp order ts us) (slice_cmp order us vs) (slice_cmp order ts vs)
slices-chain [] [] [] h = record { less = λ e f. e; first = λ e. refl; second = λ e. refl }
slices-chain [] [] (v ∷ vs) h = record { less = λ e f. refl; first = λ e. refl; second = λ e. not_equal_first e }
slices-chain [] (u ∷ us) [] h = record { less = λ e f. not_less_last f; first = λ e. not_equal_first e; second = λ e. not_equal_last e }
slices-chain [] (u ∷ us) (v ∷ vs) h = record { less = λ e f. refl; first = λ e. not_equal_first e; second = λ e. refl }
slices-chain (t ∷ ts) [] [] h = record { less = λ e f. e; first = λ e. not_equal_last e; second = λ e. refl }
slices-chain (t ∷ ts) [] (v ∷ vs) h = greater-less-chains _
slices-chain (t ∷ ts) (u ∷ us) [] h = greater-chains _
slices-chain (t ∷ ts) (u ∷ us) (v ∷ vs) h = then-chains _ _ _ _ _ _ (h.0 u v) (slices-chain ts us vs h.1)

-- equal orders stand for one another
chains-at : {a b c a' b' c' : Ordering} → a' ≡ a → b' ≡ b → c' ≡ c → Chains a b c → Chains a' b' c'
chains-at ea eb ec h = record {
  less = λ e f. ec ∙ h.less (sym ea ∙ e) (sym eb ∙ f);
  first = λ e. ec ∙ h.first (sym ea ∙ e) ∙ sym eb;
  second = λ e. ec ∙ h.second (sym eb ∙ e) ∙ sym ea;
}

int-follows : (z : ℤ) → Follows (int_term z)
int-follows z = cases_term (λ u. (v : Term) → Chains (order (int_term z) u) (order u v) (order (int_term z) v))
    (λ y. cases_term (λ v. Chains (order (int_term z) (int_term y)) (order (int_term y) v) (order (int_term z) v))
    (λ x. chains-at (order-ints z y) (order-ints y x) (order-ints z x) (total-chains int_cmp_total int_cmp-IsAntisymmetric z y x))
    (λ g vs. chains-at refl (order-kinds y g vs) (order-kinds z g vs) (record { less = λ e f. refl; first = λ e. refl; second = λ e. not_equal_first e })))
    (λ f us. cases_term (λ v. Chains (order (int_term z) (app_term f us)) (order (app_term f us) v) (order (int_term z) v))
    (λ x. chains-at (order-kinds z f us) (order-kinds_back x f us) refl (record { less = λ e g. not_less_last g; first = λ e. not_equal_first e; second = λ e. not_equal_last e }))
    (λ g vs. chains-at (order-kinds z f us) refl (order-kinds z g vs) (record { less = λ e f. refl; first = λ e. not_equal_first e; second = λ e. refl })))

app-follows : (op : OpId) (ts : List Term) → AllOf Follows ts → Follows (app_term op ts)
app-follows op ts h = cases_term (λ u. (v : Term) → Chains (order (app_term op ts) u) (order u v) (order (app_term op ts) v))
    (λ y. cases_term (λ v. Chains (order (app_term op ts) (int_term y)) (order (int_term y) v) (order (app_term op ts) v))
    (λ x. chains-at (order-kinds_back y op ts) refl (order-kinds_back x op ts) (record { less = λ e f. e; first = λ e. not_equal_last e; second = λ e. refl }))
    (λ g vs. chains-at (order-kinds_back y op ts) (order-kinds y g vs) refl (greater-less-chains _)))
    (λ f us. cases_term (λ v. Chains (order (app_term op ts) (app_term f us)) (order (app_term f us) v) (order (app_term op ts) v))
    (λ x. chains-at refl (order-kinds_back x f us) (order-kinds_back x op ts) (greater-chains _))
    (λ g vs. chains-at (order-apps op f ts us) (order-apps f g us vs) (order-apps op g ts vs)
    (then-chains _ _ _ _ _ _ (total-chains nat_cmp_total nat_cmp-IsAntisymmetric op.0 f.0 g.0)
    (then-chains _ _ _ _ _ _ (total-chains nat_cmp_total nat_cmp-IsAntisymmetric (length ts) (length us) (length vs)) (slices-chain ts us vs h)))))

follows : (t u v : Term) → Chains (order t u) (order u v) (order t v)
follows = ind_term Follows int-follows app-follows

pub transitive : (t u v : Term) → order t u ≡ Less → order u v ≡ Less → order t v ≡ Less
transitive t u v = (follows t u v).less

pub equal_exactly : (t u : Term) → (order t u ≡ Equal) ↔ (t ≡ u)
equal_exactly t u = (order-equal t u, λ e. ap (order t) (sym e) ∙ order-itself t)

-- the order has the laws of std's
pub order_total : IsTotalOrder order
order_total = record { antisymm = reversed; trans = transitive; congr = λ t u v. (follows t u v).first }
