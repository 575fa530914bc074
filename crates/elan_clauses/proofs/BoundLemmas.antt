-- What a map from numbers to sorts finds is what its entries say.
use Rattle.std.proofs.Common.{◌≡◌, refl, sym, ap, ◌∙◌, ℕ, suc, ◌+◌, ◌<◌, ◌≤◌, ◌==◌, nat_eq, nat_lt, ltb-false, Bool, true, false, not, cond, ◌&&◌, ◌||◌, is_some, List, [], ◌∷◌, ◌++◌, map, length, position, append_assoc, append-nil, arith}
use Rattle.std.proofs.lemmas.Grind.{common_steps}
use Rattle.std.specs.Prelude.{Option, Some, None, if◌then◌else◌, unwrap_or}
use Rattle.std.specs.List.{list_any, prefix_len, IsDistinct, AllByRecursion}
use Rattle.std.specs.Map.{keys_of, lookup}
use Rattle.elan_terms.specs.declared.tree.SortId.{SortId}
use Rattle.elan_terms.specs.declared.tree.Pattern.{Pattern}
use Rattle.elan_terms.specs.Match.{noted, new_in, occurrences, variables}
use Rattle.elan_program.specs.Patterns.{is_bound}
use Rattle.elan_clauses.specs.Texts.{Bound, has_number, is_numbered_in}
use Rattle.elan_clauses.specs.Rules.{place_in}
use Rattle.elan_clauses.proofs.NumberLemmas.{not_false, left_true, right_true, is_in, are_new, are_new_in}
use Rattle.indexmap.specs.IndexMap.{IndexMap, get, insert_entry}
use Rattle.indexmap.proofs.CallerLemmas.{insert_entry-new}

turned : (n m : ℕ) → (n == m) ≡ nat_eq m n
turned n m = go (n == m) (nat_eq m n) refl refl
  where
    go : (b c : Bool) → (n == m) ≡ b → nat_eq m n ≡ c → b ≡ c
    go true true e f = refl
    go false false e f = refl
    go true false e f = grind (arith, common_steps)
    go false true e f = grind (arith, common_steps)

is_same : (n m : ℕ) → nat_eq n m ≡ true → n ≡ m
is_same n m e = grind (arith, common_steps)

-- ---- numbers

pub found_any : (x : ℕ) (es : Bound) → is_some (lookup (nat_eq x) es) ≡ has_number es x
found_any x [] = refl
found_any x (e ∷ es) = go (nat_eq x e.0) (found_any x es) ∙ ap (λ b. b || has_number es x) (sym (turned e.0 x))
  where
    go : (b : Bool) → is_some (lookup (nat_eq x) es) ≡ has_number es x → is_some (cond b (Some e.1) (lookup (nat_eq x) es)) ≡ (b || has_number es x)
    go true h = refl
    go false h = h

-- ---- sorts

-- whether a sort was found, and is this one
abbrev pub is_found : Option SortId → SortId → Bool
is_found None s = false
is_found (Some t) s = nat_eq t.0 s.0

none_later : (x y : ℕ) (s : SortId) (es : Bound) → nat_eq x y ≡ true → AllByRecursion (λ k. nat_eq y k ≡ false) (keys_of es) → is_bound es (x, s) ≡ false
none_later x y s [] e h = refl
none_later x y s (f ∷ es) e h = rw (turned f.0 x ∙ ap (λ n. nat_eq n f.0) (is_same x y e) ∙ h.0) (none_later x y s es e h.1)

pub found_bound : (x : ℕ) (s : SortId) (es : Bound) → IsDistinct nat_eq (keys_of es) → is_found (lookup (nat_eq x) es) s ≡ is_bound es (x, s)
unfolding IsDistinct
found_bound x s [] d = refl
found_bound x s (e ∷ es) d = go (nat_eq x e.0) refl (found_bound x s es d.1) ∙ ap (λ b. (b && e.1.0 == s.0) || is_bound es (x, s)) (sym (turned e.0 x))
  where
    or_false : (b c : Bool) → c ≡ false → b ≡ (b || c)
    or_false true c h = refl
    or_false false c h = sym h

    go : (b : Bool) → nat_eq x e.0 ≡ b → is_found (lookup (nat_eq x) es) s ≡ is_bound es (x, s)
        → is_found (cond b (Some e.1) (lookup (nat_eq x) es)) s ≡ ((b && e.1.0 == s.0) || is_bound es (x, s))
    go true is h = or_false (e.1.0 == s.0) (is_bound es (x, s)) (none_later x e.0 s es is d.0)
    go false is h = h

-- ---- places

abbrev passed : ℕ → Bound → ℕ
passed x es = prefix_len (λ k. not (nat_eq x k)) (keys_of es)

place_passed : (x : ℕ) (es : Bound) → passed x es ≡ place_in es x
place_passed x [] = refl
place_passed x (e ∷ es) = go (nat_eq x e.0) (place_passed x es) ∙ ap (λ b. if b then 0 else place_in es x + 1) (sym (turned e.0 x))
  where
    go : (b : Bool) → passed x es ≡ place_in es x → cond (not b) (1 + passed x es) 0 ≡ (if b then 0 else place_in es x + 1)
    go true h = refl
    go false h = omega (arith, h)

passed_at_most : (x : ℕ) (es : Bound) → passed x es ≤ length (keys_of es)
passed_at_most x [] = omega arith
passed_at_most x (e ∷ es) = go (nat_eq x e.0) (passed_at_most x es)
  where
    go : (b : Bool) → passed x es ≤ length (keys_of es) → cond (not b) (1 + passed x es) 0 ≤ suc (length (keys_of es))
    go true h = omega arith
    go false h = omega (arith, h)

keys_many : (es : Bound) → length (keys_of es) ≡ length es
keys_many [] = refl
keys_many (e ∷ es) = ap suc (keys_many es)

pub found_place : (x : ℕ) (es : Bound) → unwrap_or (position (nat_eq x) (keys_of es)) (length es) ≡ place_in es x
found_place x es = go (nat_lt (passed x es) (length (keys_of es))) refl ∙ place_passed x es
  where
    go : (b : Bool) → nat_lt (passed x es) (length (keys_of es)) ≡ b → unwrap_or (cond b (Some (passed x es)) None) (length es) ≡ passed x es
    go true h = refl
    go false h = omega (arith, ltb-false (passed x es) (length (keys_of es)) h, passed_at_most x es, keys_many es)

-- ---- one more

-- a variable whose number is there is not noted again
pub noted_known : (v : ℕ × SortId) (es : Bound) → has_number es v.0 ≡ true → es ≡ noted es v
noted_known v es h = rw h refl

pub noted_new : (v : ℕ × SortId) (es : Bound) → has_number es v.0 ≡ false → es ++ v ∷ [] ≡ noted es v
noted_new v es h = rw h refl

pub inserted : {S : Type 0} (v : ℕ × SortId) (m : IndexMap ℕ SortId S) (old new : Bound) → m.entries ≡ old
    → is_some (get nat_eq m v.0) ≡ false → new ≡ insert_entry nat_eq m.entries v.0 v.1 → new ≡ noted old v
inserted v m old new same none is =
    is ∙ insert_entry-new nat_eq m v.0 v.1 (nothing (get nat_eq m v.0) none)
    ∙ noted_new v m.entries (sym (found_any v.0 m.entries) ∙ none) ∙ ap (λ es. noted es v) same
  where
    nothing : (r : Option SortId) → is_some r ≡ false → r ≡ None
    nothing None e = refl
    nothing (Some s) e = cc

-- ---- the variables of a pattern

new_appends : (before vs : Bound) → are_new before vs ≡ true → new_in before vs ≡ before ++ vs
new_appends before [] e = sym (append-nil before)
new_appends before (v ∷ vs) e =
    ap (λ b. new_in (if b then before else before ++ v ∷ []) vs) (not_false (is_in before v.0) (left_true (not (is_in before v.0)) (are_new (before ++ v ∷ []) vs) e))
    ∙ new_appends (before ++ v ∷ []) vs (right_true (not (is_in before v.0)) (are_new (before ++ v ∷ []) vs) e) ∙ append_assoc before (v ∷ []) vs

-- variables of which none is bound are bound behind the others
pub bound_behind : (bound new found : Bound) (p : Pattern) → list_any (is_numbered_in bound) (variables p) ≡ false → found ≡ variables p
    → new ≡ new_in bound found → new ≡ bound ++ variables p
unfolding variables
bound_behind bound new found p none are is =
    is ∙ ap (new_in bound) are ∙ new_appends bound (variables p) (are_new_in bound [] (occurrences p) refl none)

none_first : (vs : Bound) → list_any (is_numbered_in []) vs ≡ false
none_first [] = refl
none_first (v ∷ vs) = none_first vs

-- those of the first pattern are the first
pub bound_first : (new none found : Bound) (p : Pattern) → none ≡ [] → found ≡ variables p → new ≡ new_in none found → new ≡ variables p
bound_first new none found p nothing are is =
    bound_behind [] new found p (none_first (variables p)) are (is ∙ ap (λ b. new_in b found) nothing)
