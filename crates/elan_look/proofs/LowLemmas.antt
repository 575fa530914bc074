-- What two bounds allow together, and one of two.
use Rattle.std.proofs.Common.{◌≡◌, refl, sym, ap, ◌∙◌, subst, Bool, true, false, cond, is_lt, is_gt}
use Rattle.std.specs.declared.cmp.Ordering.{Ordering}
use Rattle.std.specs.declared.cmp.Ordering.TheVariants.{Less, Equal, Greater}
use Rattle.std.specs.Ordering.{ordering_reverse}
use Rattle.boxcar.specs.Table.{Where}
use Rattle.elan_terms.specs.declared.tree.Term.{Term}
use Rattle.elan_terms.specs.declared.tree.Shapes.{Shapes}
use Rattle.elan_terms.specs.Term.{order}
use Rattle.elan_terms.specs.Ascending.{NotAfter}
use Rattle.elan_terms.proofs.OrderLemmas.{order-itself}
use Rattle.elan_terms.proofs.OrderLaws.{reversed}
use Rattle.elan_terms.proofs.Sorting.{not_true, not_after_trans}
use Rattle.elan_look.specs.declared.low.Low.{Low}
use Rattle.elan_look.specs.declared.low.Low.TheVariants.{Empty, Any, At}
use Rattle.elan_look.specs.declared.sight.Sight.{Sight}
use Rattle.elan_look.specs.Lows.{is_empty, meet, join}
use Rattle.elan_look.specs.Tells.{Allows, IsTaken}

pub itself : (t : Term) → NotAfter t t
itself t = ap is_gt (order-itself t)

-- before is not after
less_not_after : (o : Ordering) → is_lt o ≡ true → is_gt o ≡ false
less_not_after Less e = refl
less_not_after Equal e = refl
less_not_after Greater e = not_true (sym e)

pub not_less : (o : Ordering) → is_lt o ≡ false → is_gt (ordering_reverse o) ≡ false
not_less Less e = not_true e
not_less Equal e = refl
not_less Greater e = refl

pub turned : (t u : Term) → is_lt (order t u) ≡ false → NotAfter u t
turned t u e = ap is_gt (reversed u t) ∙ not_less (order t u) e

module _ {N : Type 0} where
  pub meet_by : (P : Low N → Type 0) (b : Bool) (x y : Low N) → P x → P y → P (cond b x y)
  meet_by P true x y p q = p
  meet_by P false x y p q = q

  pub allows-meet : (a b : Low N) (u : Term) → Allows a u → Allows b u → Allows (meet a b) u
  allows-meet Empty b u h k = h
  allows-meet Any b u h k = k
  allows-meet (At a) Empty u h k = k
  allows-meet (At a) Any u h k = h
  allows-meet (At a) (At b) u h k = meet_by (λ (low : Low N). Allows low u) (is_lt (order a.value b.value)) (At b) (At a) k h

  pub taken-meet : (shapes : Shapes) (s : Sight N) (a b : Low N) → IsTaken shapes s a → IsTaken shapes s b → IsTaken shapes s (meet a b)
  taken-meet shapes s Empty b h k = tt
  taken-meet shapes s Any b h k = k
  taken-meet shapes s (At a) Empty h k = tt
  taken-meet shapes s (At a) Any h k = h
  taken-meet shapes s (At a) (At b) h k = meet_by (IsTaken shapes s) (is_lt (order a.value b.value)) (At b) (At a) k h

  pub empty-meet : (a b : Low N) → is_empty (meet a b) ≡ false → (is_empty a ≡ false) × (is_empty b ≡ false)
  empty-meet Empty b e = not_true e
  empty-meet Any b e = (refl, e)
  empty-meet (At a) Empty e = not_true e
  empty-meet (At a) Any e = (refl, refl)
  empty-meet (At a) (At b) e = (refl, refl)

  by_test : (b : Bool) (P : Low N → Type 0) (x y : Low N) → (b ≡ true → P x) → (b ≡ false → P y) → P (cond b x y)
  by_test true P x y p q = p refl
  by_test false P x y p q = q refl

  pub allows-join : (a b : Low N) (u : Term) → Allows a u → Allows (join a b) u
  allows-join Empty b u h = absurd h
  allows-join Any b u h = tt
  allows-join (At a) Empty u h = h
  allows-join (At a) Any u h = tt
  allows-join (At a) (At b) u h = by_test (is_lt (order a.value b.value)) (λ (low : Low N). Allows low u) (At a) (At b)
      (λ e. h) (λ e. not_after_trans b.value a.value u (turned a.value b.value e) h)

  pub join-allows : (a b : Low N) (u : Term) → Allows b u → Allows (join a b) u
  join-allows Empty b u h = h
  join-allows Any b u h = tt
  join-allows (At a) Empty u h = absurd h
  join-allows (At a) Any u h = tt
  join-allows (At a) (At b) u h = by_test (is_lt (order a.value b.value)) (λ (low : Low N). Allows low u) (At a) (At b)
      (λ e. not_after_trans a.value b.value u (less_not_after (order a.value b.value) e) h) (λ e. h)

  pub taken-join : (shapes : Shapes) (s : Sight N) (a b : Low N) → IsTaken shapes s a → IsTaken shapes s b → IsTaken shapes s (join a b)
  taken-join shapes s Empty b h k = k
  taken-join shapes s Any b h k = tt
  taken-join shapes s (At a) Empty h k = h
  taken-join shapes s (At a) Any h k = tt
  taken-join shapes s (At a) (At b) h k = meet_by (IsTaken shapes s) (is_lt (order a.value b.value)) (At a) (At b) h k

-- the bound at a value
pub at-allows : (row : Where Term) (t : Term) → row.value ≡ t → NotAfter row.value t
at-allows row t e = subst (λ u. NotAfter u t) (sym e) (itself t)
