-- The next choice of terms is one, and no choice stands before it.
use Rattle.std.proofs.Common.{◌≡◌, refl, sym, ap, ◌∙◌, ◌⊎◌, inl, inr, ⊎_elim, subst, ℕ, suc, zero, ◌-◌, ◌≤◌, Bool, true, false, cond, nat_lt, Option, Some, None, List, [], ◌∷◌, length, take, drop, is_gt, is_eq, option_map, length-take-le, arith}
use Rattle.std.proofs.lemmas.Bool.{ltb-false, le-ltb}
use Rattle.std.specs.declared.cmp.Ordering.{Ordering}
use Rattle.std.specs.declared.cmp.Ordering.TheVariants.{Less, Equal, Greater}
use Rattle.std.specs.Ordering.{ordering_then}
use Rattle.std.specs.Cmp.Lexicographic.{slice_cmp}
use Rattle.elan_terms.specs.declared.tree.Term.{Term}
use Rattle.elan_terms.specs.Term.{order}
use Rattle.elan_terms.specs.Ascending.{NotAfter, Ascends}
use Rattle.elan_terms.proofs.Lists.{Pairs, pairs_of}
use Rattle.elan_terms.proofs.OrderLemmas.{order-equal, order-itself}
use Rattle.elan_terms.proofs.Sorting.{not_true}
use Rattle.elan_laws.specs.Parts.{SomeOf, none, taken, left}
use Rattle.elan_bags.specs.Choices.{BeginsAfter, NotAfterList, IsPick, IsChoice, FindsLeast}
use Rattle.elan_bags.specs.Cuts.{against, since, beyond}
use Rattle.elan_bags.proofs.TimesLemmas.{not_equal, not_greater, less_of, before_of, less-reversed, some-length, some_rest, head_not_after, not_after-itself}
use Rattle.elan_bags.proofs.ExceptLemmas.{since_pairs, since_head}

-- the first so many, if there are so many
abbrev pub firsts : ℕ → List Term → Option (List Term)
firsts n us = cond (nat_lt (length us) n) None (Some (take n us))

-- the first of two that is there
abbrev pub either : Option (List Term) → Option (List Term) → Option (List Term)
either None o = o
either (Some us) o = Some us

-- the least choice of n terms whose beginning comes after `past`, in a list that ascends
abbrev pub next : List Term → ℕ → List Term → Option (List Term)
next us n [] = None
next us n (b ∷ bs) = either
    (cond (is_eq (against b (since b us))) (option_map (λ xs. b ∷ xs) (next (drop 1 (since b us)) (n - 1) bs)) None)
    (firsts n (beyond b (since b us)))

-- what holds of a list, if it is there
abbrev HoldsIf : (List Term → Type 0) → Option (List Term) → Type 0
HoldsIf P None = Unit {0}
HoldsIf P (Some xs) = P xs

-- it is there, and does not come after the other
abbrev AtMost : Option (List Term) → List Term → Type 0
AtMost None ys = ⊥
AtMost (Some xs) ys = NotAfterList xs ys

-- ---- the first so many

take_some : (n : ℕ) (us : List Term) → SomeOf (take n us) us
take_some zero [] = none
take_some zero (u ∷ us) = left (take_some zero us)
take_some (suc n) [] = none
take_some (suc n) (u ∷ us) = taken (take_some n us)

not_gt_then : (o rest : Ordering) → is_gt o ≡ false → (o ≡ Equal → is_gt rest ≡ false) → is_gt (ordering_then o rest) ≡ false
not_gt_then Less rest e f = refl
not_gt_then Equal rest e f = f refl
not_gt_then Greater rest e f = e

not_after_cons : (x y : Term) (xs ys : List Term) → NotAfter x y → (order x y ≡ Equal → NotAfterList xs ys) → NotAfterList (x ∷ xs) (y ∷ ys)
not_after_cons x y xs ys e f = not_gt_then (order x y) (slice_cmp order xs ys) e f

least_firsts : (us ys : List Term) → Pairs NotAfter us → SomeOf ys us → NotAfterList (take (length ys) us) ys
least_firsts [] [] h s = refl
least_firsts [] (y ∷ ys) h s = elim s [ ]
least_firsts (u ∷ us) [] h s = refl
least_firsts (u ∷ us) (y ∷ ys) h s = not_after_cons u y (take (length ys) us) ys (head_not_after ys us h.0 s)
    (λ e. least_firsts us ys h.1 (some_rest ys us s))

firsts_least : (n : ℕ) (us ys : List Term) → Pairs NotAfter us → SomeOf ys us → length ys ≡ n → AtMost (firsts n us) ys
firsts_least n us ys h s m =
    let few : length ys ≤ length us = some-length s in
    let e : firsts n us ≡ Some (take n us) = ap (λ b. cond b None (Some (take n us))) (le-ltb (length us) n (omega arith)) in
    subst (λ o. AtMost o ys) (sym e) (subst (λ k. NotAfterList (take k us) ys) m (least_firsts us ys h s))

firsts_holds_by : (P : List Term → Type 0) (n : ℕ) (us : List Term) (b : Bool) → nat_lt (length us) n ≡ b → (n ≤ length us → P (take n us)) → HoldsIf P (cond b None (Some (take n us)))
firsts_holds_by P n us true e f = tt
firsts_holds_by P n us false e f = f (ltb-false (length us) n e)

firsts_holds : (P : List Term → Type 0) (n : ℕ) (us : List Term) → (n ≤ length us → P (take n us)) → HoldsIf P (firsts n us)
firsts_holds P n us f = firsts_holds_by P n us (nat_lt (length us) n) refl f

-- ---- what is since a term, and what is beyond it

since_some_by : (b : Term) {u : Term} {us xs : List Term} (c : Bool) → (SomeOf xs (since b us) → SomeOf xs us) → SomeOf xs (cond c (since b us) (u ∷ us)) → SomeOf xs (u ∷ us)
since_some_by b true f s = left (f s)
since_some_by b false f s = s

some_of_since : (b : Term) (us xs : List Term) → SomeOf xs (since b us) → SomeOf xs us
some_of_since b [] xs s = s
some_of_since b (u ∷ us) xs s = since_some_by b (is_gt (order b u)) (λ r. some_of_since b us xs r) s

some_since_by : (b : Term) {y u : Term} {ys us : List Term} (c : Bool) → is_gt (order b u) ≡ c → NotAfter b y → (SomeOf (y ∷ ys) us → SomeOf (y ∷ ys) (since b us)) → SomeOf (y ∷ ys) (u ∷ us) → SomeOf (y ∷ ys) (cond c (since b us) (u ∷ us))
some_since_by b true e h f (taken s) = not_true (sym e ∙ h)
some_since_by b true e h f (left s) = f s
some_since_by b false e h f s = s

some_since : (b y : Term) (ys us : List Term) → NotAfter b y → SomeOf (y ∷ ys) us → SomeOf (y ∷ ys) (since b us)
some_since b y ys [] h s = s
some_since b y ys (u ∷ us) h s = some_since_by b (is_gt (order b u)) refl h (λ r. some_since b y ys us h r) s

beyond_pairs_by : (u : Term) (us rest : List Term) (c : Bool) → Pairs NotAfter (u ∷ us) → Pairs NotAfter rest → Pairs NotAfter (cond c (u ∷ us) rest)
beyond_pairs_by u us rest true h k = h
beyond_pairs_by u us rest false h k = k

beyond_pairs : (b : Term) (us : List Term) → Pairs NotAfter us → Pairs NotAfter (beyond b us)
beyond_pairs b [] h = tt
beyond_pairs b (u ∷ us) h = beyond_pairs_by u us (beyond b us) (is_gt (order u b)) h (beyond_pairs b us h.1)

some_beyond_by : (b : Term) {y u : Term} {ys us : List Term} (rest : List Term) (c : Bool) → is_gt (order u b) ≡ c → is_gt (order y b) ≡ true → SomeOf (y ∷ ys) (u ∷ us) → (SomeOf (y ∷ ys) us → SomeOf (y ∷ ys) rest) → SomeOf (y ∷ ys) (cond c (u ∷ us) rest)
some_beyond_by b rest true e g s f = s
some_beyond_by b rest false e g (taken s) f = not_true (sym g ∙ e)
some_beyond_by b rest false e g (left s) f = f s

some_beyond : (b y : Term) (ys us : List Term) → is_gt (order y b) ≡ true → SomeOf (y ∷ ys) us → SomeOf (y ∷ ys) (beyond b us)
some_beyond b y ys [] g s = elim s [ ]
some_beyond b y ys (u ∷ us) g s = some_beyond_by b (beyond b us) (is_gt (order u b)) refl g s (λ r. some_beyond b y ys us g r)

some_of_beyond_by : {u : Term} {us rest xs : List Term} (c : Bool) → (SomeOf xs rest → SomeOf xs us) → SomeOf xs (cond c (u ∷ us) rest) → SomeOf xs (u ∷ us)
some_of_beyond_by true f s = s
some_of_beyond_by false f s = left (f s)

some_of_beyond : (b : Term) (us xs : List Term) → SomeOf xs (beyond b us) → SomeOf xs us
some_of_beyond b [] xs s = s
some_of_beyond b (u ∷ us) xs s = some_of_beyond_by (is_gt (order u b)) (λ r. some_of_beyond b us xs r) s

-- the first of a list comes after the term
abbrev HeadAfter : Term → List Term → Type 0
HeadAfter b [] = Unit {0}
HeadAfter b (w ∷ ws) = is_gt (order w b) ≡ true

beyond_head_by : (b u : Term) (us rest : List Term) (c : Bool) → is_gt (order u b) ≡ c → HeadAfter b rest → HeadAfter b (cond c (u ∷ us) rest)
beyond_head_by b u us rest true e h = e
beyond_head_by b u us rest false e h = h

beyond_head : (b : Term) (us : List Term) → HeadAfter b (beyond b us)
beyond_head b [] = tt
beyond_head b (u ∷ us) = beyond_head_by b u us (beyond b us) (is_gt (order u b)) refl (beyond_head b us)

-- ---- none stands before the next choice

-- y comes after b
after_step : (b y : Term) (ys : List Term) (r q : Option (List Term)) → order b y ≡ Less → AtMost q (y ∷ ys) → AtMost (either (option_map (λ xs. b ∷ xs) r) q) (y ∷ ys)
after_step b y ys None q e h = h
after_step b y ys (Some xs) q e h = not_after_cons b y xs ys (ap is_gt e) (λ f. not_equal (sym f ∙ e))

after_by : (b y : Term) (ys : List Term) (r q : Option (List Term)) (c : Bool) → order b y ≡ Less → AtMost q (y ∷ ys) → AtMost (either (cond c (option_map (λ xs. b ∷ xs) r) None) q) (y ∷ ys)
after_by b y ys r q true e h = after_step b y ys r q e h
after_by b y ys r q false e h = h

-- y is b
equal_step : (b : Term) (ys : List Term) (r q : Option (List Term)) → AtMost r ys → AtMost (either (option_map (λ xs. b ∷ xs) r) q) (b ∷ ys)
equal_step b ys None q h = elim h [ ]
equal_step b ys (Some xs) q h = not_after_cons b b xs ys (not_after-itself b) (λ f. h)

equal_by : (b : Term) (ys ls : List Term) (n : ℕ) (bs : List Term) (q : Option (List Term)) (c : Bool) → is_eq (against b ls) ≡ c → is_gt (against b ls) ≡ false → Pairs NotAfter ls → SomeOf (b ∷ ys) ls
    → ((vs : List Term) → Pairs NotAfter vs → SomeOf ys vs → AtMost (next vs (n - 1) bs) ys)
    → AtMost (either (cond c (option_map (λ xs. b ∷ xs) (next (drop 1 ls) (n - 1) bs)) None) q) (b ∷ ys)
equal_by b ys [] n bs q c e g h s f = elim s [ ]
equal_by b ys (u ∷ ls) n bs q true e g h s f = equal_step b ys (next ls (n - 1) bs) q (f ls h.1 (some_rest ys ls s))
equal_by b ys (u ∷ ls) n bs q false e g h s f =
    let le : NotAfter u b = head_not_after ys ls h.0 s in
    not_true (sym (ap is_gt (less-reversed b u (less_of (order b u) e g))) ∙ le)

not_before : (b y : Term) (rest : Ordering) (o : Ordering) → order b y ≡ o → ordering_then o rest ≡ Less → NotAfter b y
not_before b y rest Less e a = ap is_gt e
not_before b y rest Equal e a = ap is_gt e
not_before b y rest Greater e a = not_greater a

head_step : (us : List Term) (b y : Term) (bs ys : List Term) (n : ℕ) (o : Ordering) → order b y ≡ o → Pairs NotAfter us → SomeOf (y ∷ ys) us → length (y ∷ ys) ≡ n
    → ordering_then o (slice_cmp order bs (take (length bs) ys)) ≡ Less
    → ((vs : List Term) → Pairs NotAfter vs → SomeOf ys vs → BeginsAfter bs ys → AtMost (next vs (n - 1) bs) ys)
    → AtMost (next us n (b ∷ bs)) (y ∷ ys)
head_step us b y bs ys n Less e h s m a f =
    after_by b y ys (next (drop 1 (since b us)) (n - 1) bs) (firsts n (beyond b (since b us))) (is_eq (against b (since b us))) e
    (firsts_least n (beyond b (since b us)) (y ∷ ys) (beyond_pairs b (since b us) (since_pairs b us h))
    (some_beyond b y ys (since b us) (ap is_gt (less-reversed b y e)) (some_since b y ys us (ap is_gt e) s)) m)
head_step us b y bs ys n Equal e h s m a f =
    let same_term : b ≡ y = order-equal b y e in
    subst (λ x. AtMost (next us n (b ∷ bs)) (x ∷ ys)) same_term
    (equal_by b ys (since b us) n bs (firsts n (beyond b (since b us))) (is_eq (against b (since b us))) refl (since_head b us) (since_pairs b us h)
    (some_since b b ys us (not_after-itself b) (subst (λ x. SomeOf (x ∷ ys) us) (sym same_term) s)) (λ vs k r. f vs k r a))
head_step us b y bs ys n Greater e h s m a f = not_greater a

next_least : (us ys past : List Term) (n : ℕ) → Pairs NotAfter us → SomeOf ys us → length ys ≡ n → BeginsAfter past ys → AtMost (next us n past) ys
next_least us ys [] n h s m a = not_equal a
next_least us [] (b ∷ bs) n h s m a = not_greater a
next_least us (y ∷ ys) (b ∷ bs) n h s m a = head_step us b y bs ys n (order b y) refl h s m a
    (λ vs k r c. next_least vs ys bs (n - 1) k r (omega arith) c)

-- ---- it is a choice

beyond_is : (us : List Term) (b : Term) (ws bs : List Term) (n : ℕ) → HeadAfter b ws → ((xs : List Term) → SomeOf xs ws → SomeOf xs us) → suc n ≤ length ws → IsChoice us (suc n) (b ∷ bs) (take (suc n) ws)
beyond_is us b [] bs n h f le = absurd (omega arith)
beyond_is us b (w ∷ ws) bs n h f le = record {
  some = f (w ∷ take n ws) (taken (take_some n ws));
  long = ap suc (length-take-le n ws (omega arith));
  after = ap (λ o. ordering_then o (slice_cmp order bs (take (length bs) (take n ws)))) (before_of b w h);
}

firsts_are : (us : List Term) (b : Term) (bs : List Term) (n : ℕ) → HoldsIf (IsChoice us (suc n) (b ∷ bs)) (firsts (suc n) (beyond b (since b us)))
firsts_are us b bs n = firsts_holds (IsChoice us (suc n) (b ∷ bs)) (suc n) (beyond b (since b us))
    (λ le. beyond_is us b (beyond b (since b us)) bs n (beyond_head b (since b us)) (λ xs s. some_of_since b us xs (some_of_beyond b (since b us) xs s)) le)

with_first : (us ls : List Term) (b u : Term) (bs : List Term) (n : ℕ) (r q : Option (List Term)) → u ≡ b → ((xs : List Term) → SomeOf xs (u ∷ ls) → SomeOf xs us)
    → HoldsIf (IsChoice ls (suc n - 1) bs) r → HoldsIf (IsChoice us (suc n) (b ∷ bs)) q → HoldsIf (IsChoice us (suc n) (b ∷ bs)) (either (option_map (λ xs. b ∷ xs) r) q)
with_first us ls b u bs n None q e f h k = k
with_first us ls b u bs n (Some xs) q e f h k =
    let long : length xs ≡ suc n - 1 = h.long in
    record {
      some = f (b ∷ xs) (subst (λ x. SomeOf (b ∷ xs) (x ∷ ls)) (sym e) (taken h.some));
      long = omega arith;
      after = ap (λ o. ordering_then o (slice_cmp order bs (take (length bs) xs))) (order-itself b) ∙ h.after;
    }

equal_eq : (o : Ordering) → is_eq o ≡ true → o ≡ Equal
equal_eq Less e = not_true (sym e)
equal_eq Equal e = refl
equal_eq Greater e = not_true (sym e)

is_by : (us ls : List Term) (b : Term) (bs : List Term) (n : ℕ) (q : Option (List Term)) (c : Bool) → is_eq (against b ls) ≡ c → ((xs : List Term) → SomeOf xs ls → SomeOf xs us)
    → ((vs : List Term) → HoldsIf (IsChoice vs (suc n - 1) bs) (next vs (suc n - 1) bs)) → HoldsIf (IsChoice us (suc n) (b ∷ bs)) q
    → HoldsIf (IsChoice us (suc n) (b ∷ bs)) (either (cond c (option_map (λ xs. b ∷ xs) (next (drop 1 ls) (suc n - 1) bs)) None) q)
is_by us ls b bs n q false e f g k = k
is_by us [] b bs n q true e f g k = not_true (sym e)
is_by us (u ∷ ls) b bs n q true e f g k = with_first us ls b u bs n (next ls (suc n - 1) bs) q (sym (order-equal b u (equal_eq (order b u) e))) f (g ls) k

next_is : (us past : List Term) (n : ℕ) → length past ≤ n → HoldsIf (IsChoice us n past) (next us n past)
next_is us [] n le = tt
next_is us (b ∷ bs) zero le = absurd (omega arith)
next_is us (b ∷ bs) (suc n) le = is_by us (since b us) b bs n (firsts (suc n) (beyond b (since b us))) (is_eq (against b (since b us))) refl
    (λ xs s. some_of_since b us xs s) (λ vs. next_is vs bs (suc n - 1) (omega arith)) (firsts_are us b bs n)

-- ---- what is found

holds : (Is : List Term → Type 0) (o : Option (List Term)) → HoldsIf Is o → ((ys : List Term) → Is ys → AtMost o ys) → FindsLeast Is o
holds Is None h f = f
holds Is (Some xs) h f = record { is = h; least = f }

pub next_finds : (us past : List Term) (n : ℕ) (o : Option (List Term)) → o ≡ next us n past → Ascends us → length past ≤ n → FindsLeast (IsChoice us n past) o
next_finds us past n o e up le = subst (FindsLeast (IsChoice us n past)) (sym e)
    (holds (IsChoice us n past) (next us n past) (next_is us past n le) (λ ys c. next_least us ys past n (pairs_of NotAfter us up) c.some c.long c.after))

pub firsts_finds : (us : List Term) (n : ℕ) (o : Option (List Term)) → o ≡ firsts n us → Ascends us → FindsLeast (IsPick us n) o
firsts_finds us n o e up = subst (FindsLeast (IsPick us n)) (sym e)
    (holds (IsPick us n) (firsts n us) (firsts_holds (IsPick us n) n us (λ le. record { some = take_some n us; long = length-take-le n us le }))
    (λ ys p. firsts_least n us ys (pairs_of NotAfter us up) p.some p.long))

pub ruleset firsts_found = (firsts_finds)

-- ---- which lists come after one

same_or_after_by : (x y : Term) (o : Ordering) (k : ℕ) (xs ys : List Term) → order x y ≡ o → is_gt (ordering_then o (slice_cmp order xs ys)) ≡ false
    → (NotAfterList xs ys → (take k xs ≡ take k ys) ⊎ (slice_cmp order (take k xs) (take k ys) ≡ Less))
    → (x ∷ take k xs ≡ y ∷ take k ys) ⊎ (slice_cmp order (x ∷ take k xs) (y ∷ take k ys) ≡ Less)
same_or_after_by x y Less k xs ys e h f = inr (ap (λ o. ordering_then o (slice_cmp order (take k xs) (take k ys))) e)
same_or_after_by x y Equal k xs ys e h f = ⊎_elim
    (λ s. inl (ap (λ z. z ∷ take k xs) (order-equal x y e) ∙ ap (λ zs. y ∷ zs) s))
    (λ l. inr (ap (λ o. ordering_then o (slice_cmp order (take k xs) (take k ys))) e ∙ l))
    (f h)
same_or_after_by x y Greater k xs ys e h f = not_true h

-- a list that does not come before another begins with the same terms or with greater ones
same_or_after : (k : ℕ) (xs ys : List Term) → NotAfterList xs ys → (take k xs ≡ take k ys) ⊎ (slice_cmp order (take k xs) (take k ys) ≡ Less)
same_or_after zero xs ys h = inl refl
same_or_after (suc k) [] [] h = inl refl
same_or_after (suc k) [] (y ∷ ys) h = inr refl
same_or_after (suc k) (x ∷ xs) [] h = not_true h
same_or_after (suc k) (x ∷ xs) (y ∷ ys) h = same_or_after_by x y (order x y) k xs ys refl h (same_or_after k xs ys)

pub begins_or_after : (k : ℕ) (xs ys : List Term) → k ≤ length xs → NotAfterList xs ys → (take k xs ≡ take k ys) ⊎ BeginsAfter (take k xs) ys
begins_or_after k xs ys le h = ⊎_elim (λ s. inl s) (λ l. inr (subst (λ n. slice_cmp order (take k xs) (take n ys) ≡ Less) (sym (length-take-le k xs le)) l)) (same_or_after k xs ys h)
