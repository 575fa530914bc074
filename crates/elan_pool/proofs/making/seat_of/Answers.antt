use Rattle.std.proofs.Common.{◌==◌, ap, refl}
use native.Mathlib.Omega.{arith}
use Rattle.elan_pool.specs.declared.rule.Tally.{Tally}
use Rattle.elan_pool.proofs.Makings.{numbered, untouched, unmissed, either_nothing}
use Rattle.elan_pool.proofs.making.seat_of.Goals as goal

pub invariant_of-result : goal.invariant_of-result
invariant_of-result g c =
    let p = ap (λ (v : Tally). v.parts) c.requires.dock.1 in
    let few = c.requires.few in
    let number = c.requires.dock.0 in
    let len = c.args.sides.ok in
    record {
      inside = omega (arith, number, len);
      few = omega (arith, few, len);
      parts = omega (arith, p, few, len);
      numbered = λ d lt. numbered c.args.sides.items c.requires.sides.1 d (omega (arith, lt, len));
      own_side = untouched c.args.sides.items c.requires.sides.1 c.args.dock.number;
    }

pub returns : goal.returns
returns g c = record {
  count = refl;
  own = refl;
  room = c.requires.room;
  put = ap (λ (v : Tally). v.put) c.requires.dock.1;
  taken = λ d. either_nothing (d == c.args.dock.number) _ _ (ap (λ (v : Tally). v.taken) c.requires.dock.1) (untouched c.args.sides.items c.requires.sides.1 d);
  missed = unmissed c.args.sides.items c.requires.sides.1;
}
