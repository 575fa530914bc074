-- The walk along a beginning, which keeps the choice that begins with the most terms of it.
use Rattle.std.proofs.Common.{get_or, ◌≡◌, refl, sym, ap, ◌∙◌, subst, ℕ, zero, suc, ◌+◌, ◌-◌, ◌≤◌, ◌<◌, Bool, true, false, cond, nat_lt, Option, Some, None, List, [], ◌∷◌, ◌++◌, append_assoc, length, take, drop, is_eq, option_map, arith}
use Rattle.std.proofs.lemmas.Bool.{le-ltb, lt-ltb}
use Rattle.boxcar.specs.Table.{Where}
use Rattle.elan_terms.specs.declared.tree.Term.{Term}
use Rattle.elan_terms.specs.Ascending.{Ascends}
use Rattle.elan_table.specs.Rows.{terms}
use Rattle.elan_bags.specs.Choices.{IsChoice, FindsLeast}
use Rattle.elan_bags.specs.Cuts.{against, since, beyond}
use Rattle.elan_bags.proofs.MinusLemmas.{front}
use Rattle.elan_bags.proofs.ChoiceLemmas.{firsts, either, next, next_finds}

-- the first terms of `past`, and then the first of the others
abbrev pub joined : List Term → ℕ → ℕ → List Term → List Term
joined past stay many others = take stay past ++ take (many - stay) others

-- the choice that was found, if one was
abbrev pub found : Bool → List Term → Option (List Term)
found is_found xs = cond is_found (Some xs) None

-- what is found from here on, else what was found so far, is what is found
abbrev pub Goes : List Term → List Term → ℕ → List Term → ℕ → List Term → Option (List Term) → Type 0
Goes rows past many left kept bounds best = either (front (take kept past) (next left (many - kept) bounds)) best ≡ next rows many past

front_cons : (xs : List Term) (b : Term) (o : Option (List Term)) → front xs (option_map (λ ys. b ∷ ys) o) ≡ front (xs ++ b ∷ []) o
front_cons xs b None = refl
front_cons xs b (Some ys) = ap Some (sym (append_assoc xs (b ∷ []) ys))

front_either : (xs : List Term) (o p : Option (List Term)) → front xs (either o p) ≡ either (front xs o) (front xs p)
front_either xs None p = refl
front_either xs (Some ys) p = refl

either_assoc : (o p q : Option (List Term)) → either (either o p) q ≡ either o (either p q)
either_assoc None p q = refl
either_assoc (Some ys) p q = refl

-- one more term of a list
take_suc : (k : ℕ) (xs : List Term) (b : Term) (bs : List Term) → drop k xs ≡ b ∷ bs → take (suc k) xs ≡ take k xs ++ b ∷ []
take_suc zero [] b bs e = absurd (no e)
  where
    no : [] ≡ b ∷ bs → ⊥
    no f = cc
take_suc zero (x ∷ xs) b bs e = let h : x ≡ b = cc in ap (λ y. y ∷ take zero xs) h ∙ ap (λ ys. b ∷ ys) (none xs)
  where
    none : (ys : List Term) → take zero ys ≡ []
    none ys = refl
take_suc (suc k) [] b bs e = absurd (no e)
  where
    no : [] ≡ b ∷ bs → ⊥
    no f = cc
take_suc (suc k) (x ∷ xs) b bs e = ap (λ ys. x ∷ ys) (take_suc k xs b bs e)

one_more : (k : ℕ) → k + 1 ≡ suc k
one_more k = omega arith

take_next : (k : ℕ) (xs : List Term) (b : Term) (bs : List Term) → drop k xs ≡ b ∷ bs → take (k + 1) xs ≡ take k xs ++ b ∷ []
take_next k xs b bs e = ap (λ n. take n xs) (one_more k) ∙ take_suc k xs b bs e

-- what is found with this term of `past`
deeper : (past left : List Term) (kept many : ℕ) (b : Term) (bs : List Term) (c : Bool) → drop kept past ≡ b ∷ bs
    → front (take kept past) (cond c (option_map (λ xs. b ∷ xs) (next (drop 1 left) ((many - kept) - 1) bs)) None) ≡ cond c (front (take (kept + 1) past) (next (drop 1 left) (many - (kept + 1)) bs)) None
deeper past left kept many b bs true e =
    front_cons (take kept past) b (next (drop 1 left) ((many - kept) - 1) bs)
    ∙ ap (λ xs. front xs (next (drop 1 left) ((many - kept) - 1) bs)) (sym (take_next kept past b bs e))
    ∙ ap (λ n. front (take (kept + 1) past) (next (drop 1 left) n bs)) (let h : (many - kept) - 1 ≡ many - (kept + 1) = omega arith in h)
deeper past left kept many b bs false e = refl

-- what is found with greater terms here, else what was found so far
best_of : (past greater : List Term) (kept many : ℕ) (c : Bool) (best : Option (List Term)) → nat_lt (length greater) (many - kept) ≡ c
    → either (front (take kept past) (cond c None (Some (take (many - kept) greater)))) best ≡ cond c best (Some (joined past kept many greater))
best_of past greater kept many true best e = refl
best_of past greater kept many false best e = refl

one_step : (past us : List Term) (kept many : ℕ) (b : Term) (bs : List Term) (best : Option (List Term)) → drop kept past ≡ b ∷ bs
    → either (front (take kept past) (next us (many - kept) (b ∷ bs))) best
    ≡ either (cond (is_eq (against b (since b us))) (front (take (kept + 1) past) (next (drop 1 (since b us)) (many - (kept + 1)) bs)) None)
    (cond (nat_lt (length (beyond b (since b us))) (many - kept)) best (Some (joined past kept many (beyond b (since b us)))))
one_step past us kept many b bs best e =
    ap (λ o. either o best) (front_either (take kept past) (cond (is_eq (against b (since b us))) (option_map (λ xs. b ∷ xs) (next (drop 1 (since b us)) ((many - kept) - 1) bs)) None) (firsts (many - kept) (beyond b (since b us))))
    ∙ either_assoc (front (take kept past) (cond (is_eq (against b (since b us))) (option_map (λ xs. b ∷ xs) (next (drop 1 (since b us)) ((many - kept) - 1) bs)) None)) (front (take kept past) (firsts (many - kept) (beyond b (since b us)))) best
    ∙ ap (λ o. either o (either (front (take kept past) (firsts (many - kept) (beyond b (since b us)))) best)) (deeper past (since b us) kept many b bs (is_eq (against b (since b us))) e)
    ∙ ap (λ o. either (cond (is_eq (against b (since b us))) (front (take (kept + 1) past) (next (drop 1 (since b us)) (many - (kept + 1)) bs)) None) o)
    (best_of past (beyond b (since b us)) kept many (nat_lt (length (beyond b (since b us))) (many - kept)) best refl)

-- the best so far, after the greater terms here
abbrev pub better : List Term → ℕ → ℕ → List Term → Option (List Term) → Option (List Term)
better past kept many greater best = cond (nat_lt (length greater) (many - kept)) best (Some (joined past kept many greater))

pub goes_on : (rows past us : List Term) (kept many : ℕ) (b : Term) (bs : List Term) (best : Option (List Term)) → drop kept past ≡ b ∷ bs → Goes rows past many us kept (b ∷ bs) best
    → is_eq (against b (since b us)) ≡ true → Goes rows past many (drop 1 (since b us)) (kept + 1) bs (better past kept many (beyond b (since b us)) best)
goes_on rows past us kept many b bs best e h f =
    ap (λ c. either (cond c (front (take (kept + 1) past) (next (drop 1 (since b us)) (many - (kept + 1)) bs)) None) (better past kept many (beyond b (since b us)) best)) (sym f)
    ∙ sym (one_step past us kept many b bs best e) ∙ h

pub stops : (rows past us : List Term) (kept many : ℕ) (b : Term) (bs : List Term) (best : Option (List Term)) → drop kept past ≡ b ∷ bs → Goes rows past many us kept (b ∷ bs) best
    → is_eq (against b (since b us)) ≡ false → better past kept many (beyond b (since b us)) best ≡ next rows many past
stops rows past us kept many b bs best e h f =
    ap (λ c. either (cond c (front (take (kept + 1) past) (next (drop 1 (since b us)) (many - (kept + 1)) bs)) None) (better past kept many (beyond b (since b us)) best)) (sym f)
    ∙ sym (one_step past us kept many b bs best e) ∙ h

drop_suc : (k : ℕ) (ws : List (Where Term)) (w : Where Term) → k < length ws → w ≡ get_or ws k w → drop k (terms ws) ≡ w.value ∷ drop (suc k) (terms ws)
drop_suc k [] w lt is = absurd (omega arith)
drop_suc zero (v ∷ ws) w lt is = ap (λ (x : Where Term). x.value ∷ terms ws) (sym is)
drop_suc (suc k) (v ∷ ws) w lt is = drop_suc k ws w (omega arith) is

drop_next : (k : ℕ) (ws : List (Where Term)) (w : Where Term) → k < length ws → w ≡ get_or ws k w → drop k (terms ws) ≡ w.value ∷ drop (k + 1) (terms ws)
drop_next k ws w lt is = drop_suc k ws w lt is ∙ ap (λ n. w.value ∷ drop n (terms ws)) (sym (one_more k))

-- the greater terms are enough
pub better_found : (past : List Term) (kept many : ℕ) (is_found : Bool) (stay : ℕ) (others : List Term) (greater : List Term) (n : ℕ) (best : Option (List Term))
    → is_found ≡ true → stay ≡ kept → others ≡ greater → n ≡ length greater → many - kept ≤ n → found is_found (joined past stay many others) ≡ better past kept many greater best
better_found past kept many is_found stay others greater n best e f g h le =
    rw (e, f, g) (ap (λ c. cond c best (Some (joined past kept many greater))) (sym (le-ltb (length greater) (many - kept) (omega arith))))

-- the greater terms are too few
pub better_kept : (past : List Term) (kept many : ℕ) (is_found : Bool) (stay : ℕ) (others : List Term) (was_found : Bool) (stayed : ℕ) (had greater : List Term) (n : ℕ)
    → is_found ≡ was_found → stay ≡ stayed → others ≡ had → n ≡ length greater → n < many - kept
    → found is_found (joined past stay many others) ≡ better past kept many greater (found was_found (joined past stayed many had))
better_kept past kept many is_found stay others was_found stayed had greater n e f g h lt =
    rw (e, f, g) (ap (λ c. cond c (found was_found (joined past stayed many had)) (Some (joined past kept many greater))) (sym (lt-ltb (length greater) (many - kept) (omega arith))))

-- one step of the walk
pub walk_on : (rows : List Term) (past : List (Where Term)) (us later : List Term) (kept many : ℕ) (w : Where Term) (best best' : Option (List Term))
    → kept < length past → w ≡ get_or past kept w → Goes rows (terms past) many us kept (drop kept (terms past)) best
    → is_eq (against w.value (since w.value us)) ≡ true → best' ≡ better (terms past) kept many (beyond w.value (since w.value us)) best
    → later ≡ drop 1 (since w.value us) → Goes rows (terms past) many later (kept + 1) (drop (kept + 1) (terms past)) best'
walk_on rows past us later kept many w best best' lt is h f e g =
    let cut : drop kept (terms past) ≡ w.value ∷ drop (kept + 1) (terms past) = drop_next kept past w lt is in
    rw (e, g) (goes_on rows (terms past) us kept many w.value (drop (kept + 1) (terms past)) best cut (subst (λ bs. Goes rows (terms past) many us kept bs best) cut h) f)

-- the walk stops here
pub walk_stops : (rows : List Term) (past : List (Where Term)) (us : List Term) (kept many : ℕ) (w : Where Term) (best best' : Option (List Term))
    → kept < length past → w ≡ get_or past kept w → Goes rows (terms past) many us kept (drop kept (terms past)) best
    → is_eq (against w.value (since w.value us)) ≡ false → best' ≡ better (terms past) kept many (beyond w.value (since w.value us)) best
    → best' ≡ next rows many (terms past)
walk_stops rows past us kept many w best best' lt is h f e =
    let cut : drop kept (terms past) ≡ w.value ∷ drop (kept + 1) (terms past) = drop_next kept past w lt is in
    e ∙ stops rows (terms past) us kept many w.value (drop (kept + 1) (terms past)) best cut (subst (λ bs. Goes rows (terms past) many us kept bs best) cut h) f

-- the walk is at its end
pub walk_ends : (rows past us : List Term) (kept many : ℕ) (best : Option (List Term)) → length past ≤ kept → Goes rows past many us kept (drop kept past) best → best ≡ next rows many past
walk_ends rows past us kept many best le h = subst (λ bs. Goes rows past many us kept bs best) (none_left kept past le) h
  where
    none_left : (k : ℕ) (xs : List Term) → length xs ≤ k → drop k xs ≡ []
    none_left zero [] l = refl
    none_left (suc k) [] l = refl
    none_left zero (x ∷ xs) l = absurd (omega arith)
    none_left (suc k) (x ∷ xs) l = none_left k xs (omega arith)

pub above_is : (rows past : List Term) (many : ℕ) (o x : Option (List Term)) → o ≡ x → x ≡ next rows many past → Ascends rows → length past ≤ many → FindsLeast (IsChoice rows many past) o
above_is rows past many o x e f up le = next_finds rows past many o (e ∙ f) up le
