-- Marks that go along edges.
use Rattle.std.proofs.Common.{◌≡◌, ◌≢◌, refl, sym, ap, subst, ◌∙◌, ◌⊎◌, inl, inr, ⊎_elim, ℕ, zero, suc, ◌<◌, ◌≤◌, ◌+◌, Bool, true, false, not, ◌||◌, cond, List, [], ◌∷◌, length, drop, drop-cons, add-one, arith, get_or-set_other, get_or-set_same}
use Rattle.std.specs.Prelude.{slice_set, slice_index_or, replicate}
use Rattle.std.specs.List.{Contains}
use Rattle.std.proofs.lemmas.Bool.{and_parts, not-true, cases_eq, true_from_ne_false, and_from, not_from_false}
use Rattle.std.proofs.lemmas.List.{length-set, length-replicate, drop_all}
use Rattle.std.proofs.lemmas.List.Sums.{sum_by-set}
use Rattle.elan_cycles.specs.declared.edge.Edge.{Edge}
use Rattle.elan_cycles.specs.Edges.{Path, here, along, edge}
use Rattle.elan_cycles.specs.Search.{leads}
use Rattle.elan_cycles.specs.Marks.{is_marked, is_open, unmarked, marked_alone, AreBelow, AreClosed, Widens}
use Rattle.elan_cycles.proofs.Elements.{Has, here as at_front, there, has_contains, contains_has, true-is_no-false}
use Rattle.elan_cycles.proofs.PathLemmas.{path-joined}
use Rattle.elan_cycles.proofs.SearchLemmas.{leads-way, way-leads}

-- ---- one more mark

marked_set : (ms : List Bool) (i n : ℕ) → is_marked (slice_set ms i true) n ≡ true → (n ≡ i) ⊎ (is_marked ms n ≡ true)
marked_set ms i n h = ⊎_elim inl (λ (other : n ≢ i). inr (sym (get_or-set_other ms i n true false other) ∙ h)) (cases_eq n i)

marked_here : (ms : List Bool) (i : ℕ) → i < length ms → is_marked (slice_set ms i true) i ≡ true
marked_here ms i h = get_or-set_same ms i true false h

marked_still : (ms : List Bool) (i n : ℕ) → i < length ms → is_marked ms n ≡ true → is_marked (slice_set ms i true) n ≡ true
marked_still ms i n h m =
    ⊎_elim (λ same. ap (λ k. is_marked (slice_set ms i true) k) same ∙ marked_here ms i h)
    (λ (other : n ≢ i). get_or-set_other ms i n true false other ∙ m) (cases_eq n i)

abbrev weight : Bool → ℕ
weight b = cond (not b) 1 0

unmarked_set : (ms : List Bool) (i : ℕ) → i < length ms → is_marked ms i ≡ false → unmarked (slice_set ms i true) + 1 ≡ unmarked ms
unmarked_set ms i h none =
    let e = sum_by-set weight ms i true false h in
    let f : unmarked (slice_set ms i true) + 1 ≡ unmarked ms + 0 =
    subst (λ (b : Bool). unmarked (slice_set ms i true) + weight b ≡ unmarked ms + 0) none e in
    omega (arith, f)

open_parts : (ms : List Bool) (e : Edge) → is_open ms e ≡ true → (is_marked ms e.from ≡ true) × (is_marked ms e.to ≡ false)
open_parts ms e h =
    let p = and_parts (is_marked ms e.from) (not (is_marked ms e.to)) h in (p.0, not-true (is_marked ms e.to) p.1)

-- ---- marks that were passed on

pub widens-refl : (edges : List Edge) (ms : List Bool) → Widens edges ms ms
widens-refl edges ms = record { same_length = refl; kept = λ n h. h; led = λ n h. (n, h, here) }

pub widens-trans : (edges : List Edge) (a b c : List Bool) → Widens edges a b → Widens edges b c → Widens edges a c
widens-trans edges a b c w v = record {
  same_length = v.same_length ∙ w.same_length;
  kept = λ n h. v.kept n (w.kept n h);
  led = λ n h. let later = v.led n h in let first = w.led later.0 later.1 in
      (first.0, first.1, path-joined first.2 later.2);
}

widens_set : (edges : List Edge) (ms : List Bool) (e : Edge) → Contains edges e → e.to < length ms → is_marked ms e.from ≡ true
    → Widens edges ms (slice_set ms e.to true)
widens_set edges ms e has within marked = record {
  same_length = length-set ms e.to true;
  kept = λ n h. marked_still ms e.to n within h;
  led = λ n h.
      ⊎_elim (λ (same : n ≡ e.to). (e.from, marked, subst (Path edges e.from) (sym same) (along has here)))
      (λ was. (n, was, here)) (marked_set ms e.to n h);
}

-- an edge along which a mark may have passed
pub widens-pass : (edges : List Edge) (ms new : List Bool) (e : Edge) (passed : Bool) → Contains edges e → e.to < length ms
    → passed ≡ is_open ms e → new ≡ cond passed (slice_set ms e.to true) ms → Widens edges ms new
widens-pass edges ms new e true has within is was =
    subst (Widens edges ms) (sym was) (widens_set edges ms e has within (open_parts ms e (sym is)).0)
widens-pass edges ms new e false has within is was = subst (Widens edges ms) (sym was) (widens-refl edges ms)

-- ---- a sweep

pub record Swept (edges : List Edge) (old ms : List Bool) (left : List Edge) (marked : Bool) : Type 0 where
  pub rest : (e : Edge) → Contains left e → Contains edges e
  pub widens : Widens edges old ms
  pub closed : marked ≡ false → (e : Edge) → Contains edges e → Contains left e ⊎ (is_open ms e ≡ false)
  pub fewer : marked ≡ true → unmarked ms < unmarked old
  pub no_more : unmarked ms ≤ unmarked old

pub swept-none : (edges : List Edge) (old : List Bool) → Swept edges old old edges false
swept-none edges old = record {
  rest = λ e h. h;
  widens = widens-refl edges old;
  closed = λ m e h. inl h;
  fewer = λ m. absurd (true-is_no-false (sym m));
  no_more = omega arith;
}

behind : (d : Edge) (left : List Edge) (e : Edge) → Contains left e → Contains (d ∷ left) e
behind d left e h = contains_has e (d ∷ left) (there (has_contains left e h))

in_front : (d : Edge) (left : List Edge) → Contains (d ∷ left) d
in_front d left = contains_has d (d ∷ left) (at_front refl)

front_or_behind : (d : Edge) (left : List Edge) (e : Edge) → Contains (d ∷ left) e → (d ≡ e) ⊎ Contains left e
front_or_behind d left e h = by (has_contains (d ∷ left) e h)
  where
    by : Has e (d ∷ left) → (d ≡ e) ⊎ Contains left e
    by (at_front same) = inl same
    by (there has) = inr (contains_has e left has)

pub swept-more : (edges : List Edge) (old ms new : List Bool) (d : Edge) (left : List Edge) (marked now : Bool)
    → Swept edges old ms (d ∷ left) marked → d.to < length ms
    → now ≡ (is_open ms d || marked) → new ≡ cond (is_open ms d) (slice_set ms d.to true) ms → Swept edges old new left now
swept-more edges old ms new d left marked now s within is was = by_case (is_open ms d) refl (is) was
  where
    has : Contains edges d
    has = s.rest d (in_front d left)

    by_case : (passed : Bool) → is_open ms d ≡ passed → now ≡ (passed || marked) → new ≡ cond passed (slice_set ms d.to true) ms
        → Swept edges old new left now
    by_case true leads_out is was =
        let less = unmarked_set ms d.to within (open_parts ms d leads_out).1 in
        let fewer : unmarked (slice_set ms d.to true) < unmarked old = omega (arith, less, s.no_more) in
        record {
          rest = λ e h. s.rest e (behind d left e h);
          widens = widens-trans edges old ms new s.widens (widens-pass edges ms new d true has within (sym leads_out) was);
          closed = λ m. absurd (true-is_no-false (sym is ∙ m));
          fewer = λ m. subst (λ x. unmarked x < unmarked old) (sym was) fewer;
          no_more = subst (λ x. unmarked x ≤ unmarked old) (sym was) (let f = fewer in omega arith);
        }
    by_case false stays is was = record {
      rest = λ e h. s.rest e (behind d left e h);
      widens = subst (Widens edges old) (sym was) s.widens;
      closed = λ m e h.
          ⊎_elim
          (λ left_over. ⊎_elim
          (λ same. inr (subst (λ (x : Edge). is_open new x ≡ false) same (subst (λ x. is_open x d ≡ false) (sym was) stays)))
          inl (front_or_behind d left e left_over))
          (λ done. inr (subst (λ x. is_open x e ≡ false) (sym was) done)) (s.closed (sym is ∙ m) e h);
      fewer = λ m. subst (λ x. unmarked x < unmarked old) (sym was) (s.fewer (sym is ∙ m));
      no_more = subst (λ x. unmarked x ≤ unmarked old) (sym was) s.no_more;
    }

-- the same by the number of the edge
pub swept-next : (edges : List Edge) (old ms new : List Bool) (n : ℕ) (z : Edge) (marked now : Bool) → n < length edges
    → Swept edges old ms (drop n edges) marked → (slice_index_or edges n z).to < length ms
    → now ≡ (is_open ms (slice_index_or edges n z) || marked)
    → new ≡ cond (is_open ms (slice_index_or edges n z)) (slice_set ms (slice_index_or edges n z).to true) ms
    → Swept edges old new (drop (n + 1) edges) now
swept-next edges old ms new n z marked now inside s within is was =
    subst (λ left. Swept edges old new left now) (sym (ap (λ k. drop k edges) (add-one n)))
    (swept-more edges old ms new (slice_index_or edges n z) (drop (suc n) edges) marked now
    (subst (λ left. Swept edges old ms left marked) (drop-cons edges n z inside) s) within is was)

nothing : (e : Edge) → Contains [] e → ⊥
nothing e h = absurd (omega (arith, h.1))

pub swept-closed : (edges : List Edge) (old ms : List Bool) (n : ℕ) (marked : Bool) → length edges ≤ n
    → Swept edges old ms (drop n edges) marked → marked ≡ false → AreClosed edges ms
swept-closed edges old ms n marked past s m e h =
    ⊎_elim (λ left. absurd (nothing e (subst (λ l. Contains l e) (drop_all n edges past) left))) (λ is. is) (s.closed m e h)

-- ---- nodes below a number

-- each edge is left or has its nodes below a number
abbrev pub Counted : List Edge → List Edge → ℕ → Type 0
Counted edges left count = (e : Edge) → Contains edges e → Contains left e ⊎ ((e.from < count) × (e.to < count))

pub counted-none : (edges : List Edge) (count : ℕ) → Counted edges edges count
counted-none edges count e h = inl h

pub counted-next : (edges : List Edge) (n : ℕ) (z : Edge) (count more : ℕ) → n < length edges
    → Counted edges (drop n edges) count → count ≤ more → (slice_index_or edges n z).from < more
    → (slice_index_or edges n z).to < more → Counted edges (drop (n + 1) edges) more
counted-next edges n z count more inside counted grows from to e h =
    ⊎_elim
    (λ left. ⊎_elim
    (λ same. inr (subst (λ (x : Edge). (x.from < more) × (x.to < more)) same (from, to)))
    (λ later. inl (subst (λ k. Contains (drop k edges) e) (sym (add-one n)) later))
    (front_or_behind (slice_index_or edges n z) (drop (suc n) edges) e
    (subst (λ l. Contains l e) (drop-cons edges n z inside) left)))
    (λ below. inr (omega (arith, below.0, grows), omega (arith, below.1, grows))) (counted e h)

pub counted-all : (edges : List Edge) (n count : ℕ) → length edges ≤ n → Counted edges (drop n edges) count → AreBelow count edges
counted-all edges n count past counted e h =
    ⊎_elim (λ left. absurd (nothing e (subst (λ l. Contains l e) (drop_all n edges past) left))) (λ below. below) (counted e h)

-- ---- what is reached

-- all nodes stay below a number
pub below-widens : (edges : List Edge) (old new : List Bool) → AreBelow (length old) edges → Widens edges old new
    → AreBelow (length new) edges
below-widens edges old new below w = subst (λ n. AreBelow n edges) (sym w.same_length) below

follows : (edges : List Edge) (ms : List Bool) → AreClosed edges ms → {a b : ℕ} → Path edges a b → is_marked ms a ≡ true
    → is_marked ms b ≡ true
follows edges ms closed here h = h
follows edges ms closed (along {a = a} {b = m} e p) h =
    follows edges ms closed p
    (true_from_ne_false (is_marked ms m)
    (λ none. true-is_no-false
    (sym (and_from (is_marked ms a) (not (is_marked ms m)) h (not_from_false (is_marked ms m) none)) ∙ closed (edge a m) e)))

unmarked_first : (n k : ℕ) → is_marked (replicate n false) k ≡ false
unmarked_first zero k = refl
unmarked_first (suc n) zero = refl
unmarked_first (suc n) (suc k) = unmarked_first n k

same_test : (a b : Bool) → (a ≡ true → b ≡ true) → (b ≡ true → a ≡ true) → a ≡ b
same_test true b to from = sym (to refl)
same_test false true to from = from refl
same_test false false to from = refl

-- marks of one node alone, by how many they are
pub marked_alone-length : (count node : ℕ) (ms : List Bool) → ms ≡ marked_alone count node → length ms ≡ count
marked_alone-length count node ms is = ap length is ∙ length-set (replicate count false) node true ∙ length-replicate count false

pub marked_alone-itself : (count node : ℕ) (ms : List Bool) → ms ≡ marked_alone count node → ms ≡ marked_alone (length ms) node
marked_alone-itself count node ms is = is ∙ ap (λ n. marked_alone n node) (sym (marked_alone-length count node ms is))

-- marks that began at one node, and go along no edge any more, stand where it leads
pub reached_exactly : (edges : List Edge) (a b : ℕ) (first second last : List Bool) → a < length first
    → first ≡ marked_alone (length first) a → Widens edges first second → Widens edges second last → AreClosed edges last
    → is_marked last b ≡ leads edges a b
reached_exactly edges a b first second last within is w v closed =
    same_test (is_marked last b) (leads edges a b) to from
  where
    begun : is_marked first a ≡ true
    begun =
        ap (λ ms. is_marked ms a) is
        ∙ marked_here (replicate (length first) false) a (subst (λ n. a < n) (sym (length-replicate (length first) false)) within)

    alone : (n : ℕ) → is_marked first n ≡ true → n ≡ a
    alone n h =
        ⊎_elim (λ same. same) (λ was. absurd (true-is_no-false (sym was ∙ unmarked_first (length first) n)))
        (marked_set (replicate (length first) false) a n (ap (λ ms. is_marked ms n) (sym is) ∙ h))

    to : is_marked last b ≡ true → leads edges a b ≡ true
    to h = let l = (widens-trans edges first second last w v).led b h in
        way-leads edges a b (subst (λ n. Path edges n b) (alone l.0 l.1) l.2)

    from : leads edges a b ≡ true → is_marked last b ≡ true
    from h = follows edges last closed (leads-way edges a b h) (v.kept a (w.kept a begun))
