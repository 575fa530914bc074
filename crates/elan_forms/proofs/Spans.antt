-- Which tokens a form takes, and a form that may be left out.
use Rattle.std.proofs.Common.{◌≡◌, ℕ, suc, Bool, true, Some, None, refl, arith}
use Rattle.elan_forms.specs.Form.{Form, ◌>>=◌, silent, pure, optional, ranged, placed}
use Rattle.elan_forms.proofs.Exact.{silent_out, silent_mark_out, no, Exact, Eats, Begins, eats_exact, silent_exact, good_same, assoc_same, bind_eats, begins_bind, follows_silent, exact_more}
use Rattle.elan_forms.proofs.Choices.{either_exact}
use Rattle.elan_forms.proofs.Lengths.{Shrinks, silent_keeps, bind_shrinks}

pub silent_eats : {T V A : Type 0} (m : ℕ) (q : T → Bool) (value : ℕ → V) (g : V → Form T A) →
    ((v : V) → Eats m q (g v)) → Eats m q (silent value >>= g)
silent_eats m q value g eg R k b lm h c =
    good_same (suc b) (silent value >>= (λ v. g v >>= k)) (silent value >>= g >>= k) (assoc_same (silent value) g k)
    (silent_exact (suc m) value R (λ v. g v >>= k) (suc b) (omega arith) (λ v. eg v R k b lm h c)
    (λ v n t ts e. absurd cc))

pub ranged_eats : {T V S : Type 0} (m : ℕ) (q : T → Bool) (make : ℕ → V → ℕ → S) (f : Form T V) → Eats m q f →
    Eats m q (ranged make f)
ranged_eats m q make f ef =
    silent_eats m q (λ n. n) _ (λ first. bind_eats m q q f _ ef
    (λ v. exact_more m no q (silent (make first v)) (λ t e. absurd cc) (silent_exact m (make first v)))
    (λ v. follows_silent q (make first v)))

pub placed_eats : {T V S : Type 0} (m : ℕ) (q : T → Bool) (make : ℕ → V → ℕ → S) (f : Form T V) → Eats m q f →
    Eats m q (placed make f)
placed_eats m q make f ef R k b lm h c =
    good_same (suc b) (ranged make f >>= k) (placed make f >>= k)
    (record {
      words = λ n ts v w. w;
      no_words = λ n ts v w. w;
      marks = λ n ts w. w;
      no_marks = λ n ts w. w;
      read =
          λ n ts. refl;
    })
    (ranged_eats m q make f ef R k b lm h c)

pub begins_silent : {T V A : Type 0} (q : T → Bool) (value : ℕ → V) (g : V → Form T A) → ((v : V) → Begins q (g v)) →
    Begins q (silent value >>= g)
begins_silent q value g h = record {
  words = λ n ts y w. (h (value n)).words n ts y (silent_out value g n ts y w);
  marks = λ n ts m. (h (value n)).marks n ts (silent_mark_out value g n ts m);
}

pub begins_placed : {T V S : Type 0} (q : T → Bool) (make : ℕ → V → ℕ → S) (f : Form T V) → Begins q f →
    Begins q (placed make f)
begins_placed q make f h =
    let b : Begins q (ranged make f) = begins_silent q (λ n. n) _ (λ first. begins_bind q f _ h) in
    record { words = b.words; marks = b.marks }

-- ---- a form or nothing

pub optional_exact : {T V : Type 0} (m : ℕ) (q r : T → Bool) (f : Form T V) → Begins f.first f → Eats m q f →
    ((t : T) → q t ≡ true → r t ≡ true) → ((t : T) → f.first t ≡ true → r t ≡ true) → Exact m r (optional f)
optional_exact m q r f begins ef l g =
    either_exact m r (f >>= (λ v. pure (Some v))) (pure None) (begins_bind f.first f (λ v. pure (Some v)) begins)
    (eats_exact m r _ (bind_eats m q r f (λ v. pure (Some v)) ef
    (λ v. exact_more m no r (pure (Some v)) (λ t e. absurd cc) (silent_exact m (λ n. Some v)))
    (λ v. record { follows = λ R k c n t ts e. ((follows_silent r (λ n. Some v)).follows R k c) n t ts (l t e) })))
    (exact_more m no r (pure None) (λ t e. absurd cc) (silent_exact m (λ n. None)))
    (record { follows = λ R k c n t ts e. ((follows_silent r (λ n. None)).follows R k c) n t ts (g t e) })

pub silent_shrinks : {T V A : Type 0} (value : ℕ → V) (g : V → Form T A) → ((v : V) → Shrinks (g v)) →
    Shrinks (silent value >>= g)
silent_shrinks value g h n ts v m r e = h (value n) n ts v m r e

pub placed_shrinks : {T V S : Type 0} (make : ℕ → V → ℕ → S) (f : Form T V) → Shrinks f → Shrinks (placed make f)
placed_shrinks make f h n ts v m r e =
    bind_shrinks f (λ x. silent (make n x)) h (λ x. silent_keeps (make n x)) n ts v m r e
