-- The end of a text is read exactly.
use Rattle.std.proofs.Common.{ℕ, Bool, List, [], ◌∷◌, refl, arith}
use Rattle.elan_forms.specs.Whole.{Gives}
use Rattle.elan_forms.specs.Form.{Form, ◌>>=◌, finish, read_end}
use Rattle.elan_forms.proofs.Steps.{cons_not_nil}
use Rattle.elan_forms.proofs.Exact.{Good, Exact}

pub finish_good : {T V : Type 0} (b : ℕ) (v : V) → Good {T = T} b (finish v)
finish_good {T} b v = record {
  has = λ n. ([], v, (refl, refl));
  solid = λ n m. m;
  reads = λ n ts lt. reads n ts;
}
  where
    reads : (n : ℕ) (ts : List T) → Gives ((finish {T = T} v).words n) ((finish {T = T} v).marks n) ts (read_end v n ts)
    reads n [] = record { spelled = (refl, refl); only = λ w p. p.1; unmarked = λ u c e m. m }
    reads n (t ∷ ts) = record {
      front = [];
      split = refl;
      possible = ([], v, (refl, refl));
      impossible = λ q. cons_not_nil t q.0 q.2.0;
      unmarked = λ u c e m. m;
    }

-- a whole text
pub whole_good : {T V : Type 0} (m : ℕ) (q : T → Bool) (f : Form T V) → Exact m q f → Good m (f >>= finish)
whole_good {T} {V} m q f e = e V finish m (omega arith) (λ v. finish_good m v)
    (λ v n t ts qt. (λ w x. cons_not_nil t ts x.0, λ x. absurd x))
