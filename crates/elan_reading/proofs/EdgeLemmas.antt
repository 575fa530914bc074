-- Where an operator may stand in itself.
use Rattle.std.proofs.Common.{◌≡◌, refl, ap, ◌∙◌, Bool, true, false, cond, ◌||◌, ◌&&◌, eq-eqb, None, Some}
use Rattle.std.specs.Prelude.{nat_lt}
use Rattle.elan_program.specs.declared.signature.Assoc.TheVariants as assoc
use Rattle.elan_program.specs.declared.signature.Operator.{Operator}
use Rattle.elan_reading.specs.declared.edge.Side.{Side}
use Rattle.elan_reading.specs.declared.edge.Side.TheVariants.{Left, Inner, Right}
use Rattle.elan_reading.specs.Edge.{counted, goes_on, fits, fits_at_edge, is_open, own_tie}

or_true : (a : Bool) → a || true ≡ true
or_true true = refl
or_true false = refl

module _ (o : Operator) where
  -- on the side of its associativity, the priorities being equal
  same_fits : (side : Side) → goes_on (counted o) side ≡ true → fits_at_edge o side o.pri ≡ true
  same_fits side e =
      ap (λ b. nat_lt o.pri o.pri || (b && goes_on (counted o) side)) (eq-eqb o.pri o.pri refl) ∙ ap (λ b. nat_lt o.pri o.pri || b) e ∙ or_true (nat_lt o.pri o.pri)

  if_open : (side : Side) → fits o side (Some o.pri) ≡ true → fits o side (own_tie o) ≡ true
  if_open side e = go (is_open o)
    where
      go : (b : Bool) → fits o side (cond b (Some o.pri) None) ≡ true
      go true = e
      go false = refl

  pub own_left : counted o ≡ assoc.Left → fits o Left (own_tie o) ≡ true
  own_left e = if_open Left (same_fits Left (ap (λ a. goes_on a Left) e))

  pub own_right : counted o ≡ assoc.Right → fits o Right (own_tie o) ≡ true
  own_right e = if_open Right (same_fits Right (ap (λ a. goes_on a Right) e))

  pub own_inner : fits o Inner (own_tie o) ≡ true
  own_inner = if_open Inner refl
