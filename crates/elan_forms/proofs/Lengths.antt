-- Reading leaves less than there was.
use Rattle.std.proofs.Common.{◌≡◌, ℕ, ◌+◌, ◌<◌, ◌≤◌, Bool, true, false, cond, List, [], ◌∷◌, length, refl, arith}
use Rattle.elan_forms.specs.Whole.{Answer, done, stuck, over}
use Rattle.elan_forms.specs.Form.{Form, ◌>>=◌, after, token, silent, either, begins_with}

abbrev pub Shrinks : {T V : Type 0} → Form T V → Type 0
Shrinks {T} {V} f = (n : ℕ) (ts : List T) (v : V) (m : ℕ) (r : List T) → f.read n ts ≡ done v m r → length r < length ts

abbrev pub Keeps : {T V : Type 0} → Form T V → Type 0
Keeps {T} {V} f = (n : ℕ) (ts : List T) (v : V) (m : ℕ) (r : List T) → f.read n ts ≡ done v m r → length r ≤ length ts

abbrev rest_of : {T V : Type 0} → Answer T V → List T → List T
rest_of (done v n r) d = r
rest_of (stuck r) d = d
rest_of (over r) d = d

pub shrinks_keeps : {T V : Type 0} (f : Form T V) → Shrinks f → Keeps f
shrinks_keeps f s n ts v m r e = omega (arith, s n ts v m r e)

pub token_shrinks : {T : Type 0} (p : T → Bool) → Shrinks (token p)
token_shrinks p n [] v m r e = absurd cc
token_shrinks p n (t ∷ ts) v m r e = go (p t) e
  where
    go : (d : Bool) → cond d (done t (n + 1) ts) (stuck (t ∷ ts)) ≡ done v m r → length r < length (t ∷ ts)
    go true e2 = let e3 : r ≡ ts = cc in rw e3 (omega arith)
    go false e2 = absurd cc

pub silent_keeps : {T V : Type 0} (value : ℕ → V) → Keeps (silent {T = T} value)
silent_keeps value n ts v m r e = let e3 : r ≡ ts = cc in rw e3 (omega arith)

after_done : {T A B : Type 0} (g : A → Form T B) (a : Answer T A) (v : B) (m : ℕ) (r : List T) →
    after a g ≡ done v m r →
    (x : A) × (n : ℕ) × (s : List T) × (a ≡ done x n s) × ((g x).read n s ≡ done v m r)
after_done g (done x n s) v m r e = (x, n, s, refl, e)
after_done g (stuck s) v m r e = absurd cc
after_done g (over s) v m r e = absurd cc

pub bind_shrinks : {T A B : Type 0} (f : Form T A) (g : A → Form T B) → Shrinks f → ((v : A) → Keeps (g v)) →
    Shrinks (f >>= g)
bind_shrinks f g sf kg n ts v m r e =
    let d = after_done g (f.read n ts) v m r e in
    omega (arith, sf n ts d.0 d.1 d.2 d.3, kg d.0 d.1 d.2 v m r d.4)

pub bind_keeps : {T A B : Type 0} (f : Form T A) (g : A → Form T B) → Keeps f → ((v : A) → Keeps (g v)) →
    Keeps (f >>= g)
bind_keeps f g sf kg n ts v m r e =
    let d = after_done g (f.read n ts) v m r e in
    omega (arith, sf n ts d.0 d.1 d.2 d.3, kg d.0 d.1 d.2 v m r d.4)

pub either_shrinks : {T V : Type 0} (f g : Form T V) → Shrinks f → Shrinks g → Shrinks (either f g)
either_shrinks f g sf sg n ts v m r e = go (begins_with f.first ts) e
  where
    go : (d : Bool) → cond d (f.read n ts) (g.read n ts) ≡ done v m r → length r < length ts
    go true e2 = sf n ts v m r e2
    go false e2 = sg n ts v m r e2

pub either_keeps : {T V : Type 0} (f g : Form T V) → Keeps f → Keeps g → Keeps (either f g)
either_keeps f g sf sg n ts v m r e = go (begins_with f.first ts) e
  where
    go : (d : Bool) → cond d (f.read n ts) (g.read n ts) ≡ done v m r → length r ≤ length ts
    go true e2 = sf n ts v m r e2
    go false e2 = sg n ts v m r e2
