-- Each term so many times.
use Rattle.std.proofs.Common.{◌≡◌, sym, ap, ◌∙◌, subst, ◌<◌, append-nil, ℕ, zero, suc, ◌+◌, ◌*◌, List, [], ◌∷◌, ◌++◌, length, length-append, replicate, arith}
use Rattle.std.proofs.lemmas.List.{length-replicate}
use Rattle.boxcar.specs.Table.{Where}
use Rattle.elan_terms.specs.declared.tree.Term.{Term}
use Rattle.elan_terms.specs.Ascending.{NotAfter, Ascends}
use Rattle.elan_terms.proofs.Lists.{AllOf, Pairs, pairs_of, pairs_from, all_append}
use Rattle.elan_laws.specs.Parts.{times}
use Rattle.elan_table.specs.Rows.{terms}
use Rattle.elan_bags.specs.Bags.{IsManyTimes}
use Rattle.elan_bags.proofs.TimesLemmas.{one_if, times-cons, times-append, not_after-itself}

-- each term so many times
abbrev pub many_times : ℕ → List Term → List Term
many_times n [] = []
many_times n (u ∷ us) = replicate n u ++ many_times n us

replicate-times : (t u : Term) (n : ℕ) → times t (replicate n u) ≡ n * one_if t u
replicate-times t u zero = omega arith
replicate-times t u (suc n) =
    let later : times t (replicate n u) ≡ n * one_if t u = replicate-times t u n in
    times-cons t u (replicate n u) ∙ sum_of (one_if t u) n (times t (replicate n u)) later
  where
    sum_of : (a n b : ℕ) → b ≡ n * a → a + b ≡ suc n * a
    sum_of a n b e = omega arith

pub many_times-times : (n : ℕ) (us : List Term) → IsManyTimes n us (many_times n us)
many_times-times n [] t = omega arith
many_times-times n (u ∷ us) t =
    let later : times t (many_times n us) ≡ n * times t us = many_times-times n us t in
    let here : times t (replicate n u) ≡ n * one_if t u = replicate-times t u n in
    times-append t (replicate n u) (many_times n us) ∙ sum_of (one_if t u) (times t us) (times t (replicate n u)) (times t (many_times n us)) here later ∙ ap (λ k. n * k) (sym (times-cons t u us))
  where
    sum_of : (a b p q : ℕ) → p ≡ n * a → q ≡ n * b → p + q ≡ n * (a + b)
    sum_of a b p q e f = omega arith

pub many_times-length : (n : ℕ) (us : List Term) → length (many_times n us) ≡ n * length us
many_times-length n [] = omega arith
many_times-length n (u ∷ us) =
    let later : length (many_times n us) ≡ n * length us = many_times-length n us in
    length-append (replicate n u) (many_times n us) ∙ sum_of (length us) (length (replicate n u)) (length (many_times n us)) (length-replicate n u) later
  where
    sum_of : (a p q : ℕ) → p ≡ n → q ≡ n * a → p + q ≡ n * suc a
    sum_of a p q e f = omega arith

all_replicate : (P : Term → Type 0) (n : ℕ) (u : Term) → P u → AllOf P (replicate n u)
all_replicate P zero u h = tt
all_replicate P (suc n) u h = (h, all_replicate P n u h)

all_many : (P : Term → Type 0) (n : ℕ) (us : List Term) → AllOf P us → AllOf P (many_times n us)
all_many P n [] h = tt
all_many P n (u ∷ us) h = all_append P (replicate n u) (many_times n us) (all_replicate P n u h.0) (all_many P n us h.1)

pairs_replicate : (n : ℕ) (u : Term) (us : List Term) → AllOf (NotAfter u) us → Pairs NotAfter us → Pairs NotAfter (replicate n u ++ us)
pairs_replicate zero u us h k = k
pairs_replicate (suc n) u us h k = (all_append (NotAfter u) (replicate n u) us (all_replicate (NotAfter u) n u (not_after-itself u)) h, pairs_replicate n u us h k)

pairs_many : (n : ℕ) (us : List Term) → Pairs NotAfter us → Pairs NotAfter (many_times n us)
pairs_many n [] h = tt
pairs_many n (u ∷ us) h = pairs_replicate n u (many_times n us) (all_many (NotAfter u) n us h.0) (pairs_many n us h.1)

all_passed : (n : ℕ) (us out : List Term) (rows : List (Where Term)) → out ++ many_times n (terms rows) ≡ many_times n us → length rows < 1 → out ≡ many_times n us
all_passed n us out [] e lt = sym (append-nil out) ∙ e
all_passed n us out (u ∷ rows) e lt = absurd (omega arith)

-- all rows were passed
pub many_found : (n : ℕ) (us out : List Term) (rows : List (Where Term)) → out ++ many_times n (terms rows) ≡ many_times n us → length rows < 1 → IsManyTimes n us out
many_found n us out rows e lt t = ap (times t) (all_passed n us out rows e lt) ∙ many_times-times n us t

pub many_ascends : (n : ℕ) (us out : List Term) (rows : List (Where Term)) → out ++ many_times n (terms rows) ≡ many_times n us → length rows < 1 → Ascends us → Ascends out
many_ascends n us out rows e lt up = pairs_from NotAfter out (subst (Pairs NotAfter) (sym (all_passed n us out rows e lt)) (pairs_many n us (pairs_of NotAfter us up)))
