-- The search goes through the matches in their order.
use Rattle.std.proofs.Common.{◌≡◌, refl, sym, ap, ◌∙◌, subst, ⊎_elim, ℕ, zero, suc, ◌+◌, ◌<◌, ◌≤◌, pos, Bool, true, false, cond, ◌==◌, eqb-true, eq-eqb, Option, Some, None, List, [], ◌∷◌, ◌++◌, map, length, length-append, append-nil, append_assoc, get_or, take, drop, ◌-◌, take_all, filter, flat_map, Contains, arith}
use Rattle.std.proofs.lemmas.List.{drop_all, drop_more}
use Rattle.elan_terms.specs.declared.tree.SortId.{SortId}
use Rattle.elan_terms.specs.declared.tree.Term.{Term}
use Rattle.elan_terms.specs.declared.tree.Pattern.{Pattern}
use Rattle.elan_terms.specs.declared.tree.Shapes.{Shapes}
use Rattle.elan_terms.specs.Trees.{int_term}
use Rattle.elan_terms.specs.Term.{same}
use Rattle.elan_terms.specs.Match.{parts, variables, has_sort, prefixed, choices, assignments, bound, instance, fits, matches}
use Rattle.elan_terms.specs.Valid.{IsValid}
use Rattle.elan_terms.specs.Canonical.{IsCanonical}
use Rattle.elan_terms.proofs.OrderLemmas.{same-equal}
use Rattle.elan_terms.proofs.Sorting.{not_true}
use Rattle.elan_terms.proofs.Lists.{In, in_of_contains}
use Rattle.elan_laws.specs.Parts.{IsPart}
use Rattle.elan_laws.proofs.PartLaws.{parts-pieces, piece-part}
use Rattle.elan_laws.proofs.MatchLaws.{part-canonical}
use Rattle.elan_laws.proofs.SortLaws.{part-valid}
use Rattle.elan_laws.proofs.CanonicalLaws.{true_or_false}
use Rattle.elan_fits.proofs.Slices.{others, begins, is_empty}
use Rattle.elan_fits.specs.declared.look.Look.{Look}
use Rattle.elan_fits.specs.declared.look.Look.TheVariants as look
use Rattle.elan_fits.specs.declared.look.Prefix.{Prefix}
use Rattle.elan_fits.specs.declared.task.Task.{Task}
use Rattle.elan_fits.specs.Looks.{known, admits, Keeps, GoesOn, Tells, Makes}
use Rattle.elan_fits.specs.Walks.{IsTask, picked, fresh, among, after, Leads, AreThere, Finds, FindsAt}

-- ---- lists

-- the rest after one more
drop-next : {X : Type 0} (n : ℕ) (xs : List X) (x : X) (ys : List X) → drop n xs ≡ x ∷ ys → drop (n + 1) xs ≡ ys
drop-next n [] x ys e = absurd (empty n e)
  where
    long : [] ≡ x ∷ ys → ⊥
    long f = let l : 0 ≡ suc (length ys) = ap length f in omega arith

    empty : (m : ℕ) → drop m [] ≡ x ∷ ys → ⊥
    empty zero f = long f
    empty (suc m) f = long f
drop-next zero (z ∷ xs) x ys e = others e
  where
    others : z ∷ xs ≡ x ∷ ys → xs ≡ ys
    others f = cc
drop-next (suc n) (z ∷ xs) x ys e = let next : suc n + 1 ≡ suc (n + 1) = omega arith in ap (λ m. drop m (z ∷ xs)) next ∙ drop-next n xs x ys e

-- what is left when one more has a value
pub others-next : (before : List Term) (u : Term) (vs rest : List (ℕ × SortId)) (v : ℕ × SortId) (longer : List Term) → drop (length before) vs ≡ v ∷ rest
    → longer ≡ before ++ u ∷ [] → drop (length longer) vs ≡ rest
others-next before u vs rest v longer e is =
    ap (λ (ts : List Term). drop (length ts) vs) is ∙ ap (λ n. drop n vs) (length-append before (u ∷ [])) ∙ drop-next (length before) vs v rest e

get_or_any : {X : Type 0} (xs : List X) (i : ℕ) (d d' : X) → i < length xs → get_or xs i d ≡ get_or xs i d'
get_or_any [] i d d' within = absurd (omega arith)
get_or_any (x ∷ xs) zero d d' within = refl
get_or_any (x ∷ xs) (suc i) d d' within = get_or_any xs i d d' (omega arith)

contains-at : {X : Type 0} (xs : List X) (i : ℕ) (x : X) → i < length xs → x ≡ get_or xs i x → Contains xs x
contains-at xs i x within is = (i, within, sym is)

-- ---- what is found in a place

module _ (w : Task) (before : List Term) (v : ℕ × SortId) (vs : List (ℕ × SortId)) where
  -- the matches in which the next variable is this term
  abbrev here : Term → List (List Term)
  here u = fresh w (before ++ u ∷ []) vs

  among-by : (b : Bool) (u : Term) (us : List Term) → has_sort w.shapes.now v.1 u ≡ b
      → among w before (u ∷ us) v vs ≡ cond b (here u ++ among w before us v vs) (among w before us v vs)
  among-by true u us e = ap (λ b. flat_map here (cond b (u ∷ filter (has_sort w.shapes.now v.1) us) (filter (has_sort w.shapes.now v.1) us))) e
  among-by false u us e = ap (λ b. flat_map here (cond b (u ∷ filter (has_sort w.shapes.now v.1) us) (filter (has_sort w.shapes.now v.1) us))) e

  module _ (place : ℕ) (u : Term) (within : place < length w.parts) (is : u ≡ get_or w.parts place (int_term (pos 0))) where
    here-on : drop place w.parts ≡ u ∷ drop (place + 1) w.parts
    here-on = drop_more w.parts place (int_term (pos 0)) within ∙ ap (λ t. t ∷ drop (place + 1) w.parts) (sym is)

    pub at-unsorted : has_sort w.shapes.now v.1 u ≡ false → FindsAt w before v vs None place
    unfolding FindsAt Finds
    at-unsorted e = ap (λ ts. among w before ts v vs) here-on ∙ among-by false u (drop (place + 1) w.parts) e

    at-none_by : (b : Bool) → has_sort w.shapes.now v.1 u ≡ b → here u ≡ [] → FindsAt w before v vs None place
    unfolding FindsAt Finds
    at-none_by true e none_here = ap (λ ts. among w before ts v vs) here-on ∙ among-by true u (drop (place + 1) w.parts) e
        ∙ ap (λ lists. lists ++ among w before (drop (place + 1) w.parts) v vs) none_here
    at-none_by false e none_here = at-unsorted e

    pub at-none : here u ≡ [] → FindsAt w before v vs None place
    unfolding FindsAt Finds
    at-none e = at-none_by (has_sort w.shapes.now v.1 u) refl e

    pub at-some : (places all : List ℕ) → has_sort w.shapes.now v.1 u ≡ true → Finds w (before ++ u ∷ []) vs (Some places) (here u) → all ≡ place ∷ places
        → FindsAt w before v vs (Some all) place
    unfolding Finds FindsAt
    at-some places all e f same = subst (λ is. FindsAt w before v vs (Some is) place) (sym same) (
      (within, f.0),
      ap (λ ts. among w before ts v vs) here-on ∙ among-by true u (drop (place + 1) w.parts) e
          ∙ ap (λ lists. lists ++ among w before (drop (place + 1) w.parts) v vs) f.1
          ∙ ap (λ ts. ts ∷ (after w (before ++ u ∷ []) places vs ++ among w before (drop (place + 1) w.parts) v vs)) (append_assoc before (u ∷ []) (picked w.parts places) ∙ ap (λ t. before ++ (t ∷ picked w.parts places)) is)
          ∙ ap (λ t. (before ++ picked w.parts (place ∷ places)) ∷ (after w (before ++ t ∷ []) places vs ++ among w before (drop (place + 1) w.parts) v vs)) is,
    )

    pub past-some : (places others all : List ℕ) → Finds w (before ++ u ∷ []) vs (Some others) (after w (before ++ u ∷ []) places vs) → all ≡ place ∷ others
        → Finds w before (v ∷ vs) (Some all) (after w before (place ∷ places) (v ∷ vs))
    unfolding Finds
    past-some places others all f same = subst (λ is. Finds w before (v ∷ vs) (Some is) (after w before (place ∷ places) (v ∷ vs))) (sym same) (
      (within, f.0),
      ap (λ t. after w (before ++ t ∷ []) places vs ++ among w before (drop (place + 1) w.parts) v vs) (sym is)
          ∙ ap (λ lists. lists ++ among w before (drop (place + 1) w.parts) v vs) f.1
          ∙ ap (λ ts. ts ∷ (after w (before ++ u ∷ []) others vs ++ among w before (drop (place + 1) w.parts) v vs)) (append_assoc before (u ∷ []) (picked w.parts others) ∙ ap (λ t. before ++ (t ∷ picked w.parts others)) is)
          ∙ ap (λ t. (before ++ picked w.parts (place ∷ others)) ∷ (after w (before ++ t ∷ []) others vs ++ among w before (drop (place + 1) w.parts) v vs)) is,
    )

    pub past-none : (places : List ℕ) (answer : Option (List ℕ)) → after w (before ++ u ∷ []) places vs ≡ [] → Finds w before (v ∷ vs) answer (among w before (drop (place + 1) w.parts) v vs)
        → Finds w before (v ∷ vs) answer (after w before (place ∷ places) (v ∷ vs))
    unfolding Finds
    past-none places answer e f = subst (Finds w before (v ∷ vs) answer)
        (sym (ap (λ t. after w (before ++ t ∷ []) places vs ++ among w before (drop (place + 1) w.parts) v vs) (sym is) ∙ ap (λ lists. lists ++ among w before (drop (place + 1) w.parts) v vs) e)) f

  pub among-end : (place : ℕ) → length w.parts ≤ place → among w before (drop place w.parts) v vs ≡ []
  among-end place past = ap (λ ts. among w before ts v vs) (drop_all place w.parts past)

-- ---- a whole assignment

pub fits-some : (w : Task) (before : List Term) (r : Bool) → r ≡ fits w.shapes.now w.variables w.pattern.now w.term.now before → r ≡ true → Finds w before [] (Some []) (fresh w before [])
unfolding Finds
fits-some w before r e on = (tt, ap (λ b. cond b (before ∷ []) []) (sym e ∙ on) ∙ ap (λ ts. ts ∷ []) (sym (append-nil before)))

pub fits-none : (w : Task) (before : List Term) (r : Bool) → r ≡ fits w.shapes.now w.variables w.pattern.now w.term.now before → r ≡ false → fresh w before [] ≡ []
fits-none w before r e off = ap (λ b. cond b (before ∷ []) []) (sym e ∙ off)

-- ---- no match goes on from here

module _ (w : Task) where
  no_flat : (f : Term → List (List Term)) (us : List Term) → ((u : Term) → f u ≡ []) → flat_map f us ≡ []
  no_flat f [] h = refl
  no_flat f (u ∷ us) h = ap (λ lists. lists ++ flat_map f us) (h u) ∙ no_flat f us h

  no-fresh : (vs : List (ℕ × SortId)) (before : List Term) → ((ts : List Term) → fits w.shapes.now w.variables w.pattern.now w.term.now (before ++ ts) ≡ false) → fresh w before vs ≡ []
  no-fresh [] before h = ap (λ b. cond b (before ∷ []) []) (sym (ap (fits w.shapes.now w.variables w.pattern.now w.term.now) (append-nil before)) ∙ h [])
  no-fresh (v ∷ vs) before h = no_flat (λ u. fresh w (before ++ u ∷ []) vs) (filter (has_sort w.shapes.now v.1) w.parts)
      (λ u. no-fresh vs (before ++ u ∷ []) (λ ts. ap (fits w.shapes.now w.variables w.pattern.now w.term.now) (append_assoc before (u ∷ []) ts) ∙ h (u ∷ ts)))

-- the values that are known stay
pub bound-kept : (vs : List (ℕ × SortId)) (before ts : List Term) (x : ℕ) (u : Term) → known vs before x ≡ Some u → bound vs (before ++ ts) x ≡ u
bound-kept [] before ts x u e = absurd (different e)
  where
    different : None ≡ Some u → ⊥
    different f = cc
bound-kept (v ∷ vs) [] ts x u e = absurd (different e)
  where
    different : None ≡ Some u → ⊥
    different f = cc
bound-kept (v ∷ vs) (t ∷ before) ts x u e = go (v.0 == x) (bound-kept vs before ts x u) e
  where
    inside : Some t ≡ Some u → t ≡ u
    inside f = cc

    go : (b : Bool) → (known vs before x ≡ Some u → bound vs (before ++ ts) x ≡ u) → cond b (Some t) (known vs before x) ≡ Some u → cond b t (bound vs (before ++ ts) x) ≡ u
    go true h f = inside f
    go false h f = h f

-- the next variable has the next value
pub bound-next : (vs : List (ℕ × SortId)) (before : List Term) (v : ℕ × SortId) (rest : List (ℕ × SortId)) (u : Term) (ts : List Term) → drop (length before) vs ≡ v ∷ rest → known vs before v.0 ≡ None
    → bound vs (before ++ (u ∷ ts)) v.0 ≡ u
bound-next [] [] v rest u ts e k = absurd (long e)
  where
    long : [] ≡ v ∷ rest → ⊥
    long f = let l : 0 ≡ suc (length rest) = ap length f in omega arith
bound-next [] (t ∷ before) v rest u ts e k = absurd (long e)
  where
    long : [] ≡ v ∷ rest → ⊥
    long f = let l : 0 ≡ suc (length rest) = ap length f in omega arith
bound-next (w ∷ vs) [] v rest u ts e k = ap (λ b. cond b u (bound vs ts v.0)) (eq-eqb w.0 v.0 (ap (λ (x : ℕ × SortId). x.0) (first e)))
  where
    first : w ∷ vs ≡ v ∷ rest → w ≡ v
    first f = cc
bound-next (w ∷ vs) (t ∷ before) v rest u ts e k = go (w.0 == v.0) (bound-next vs before v rest u ts e) k
  where
    apart : Some t ≡ None → ⊥
    apart g = cc

    go : (b : Bool) → (known vs before v.0 ≡ None → bound vs (before ++ (u ∷ ts)) v.0 ≡ u) → cond b (Some t) (known vs before v.0) ≡ None → cond b t (bound vs (before ++ (u ∷ ts)) v.0) ≡ u
    go true h f = absurd (apart f)
    go false h f = h f

-- a part of the term is valid and canonical
module _ (w : Task) (task : IsTask w) where
  proper : (u : Term) → 1 ≤ length w.variables → Contains w.parts u → IsValid w.shapes.now u × IsCanonical w.shapes.now u
  proper u some c =
      let i : In u (parts w.shapes.now w.term.now) = in_of_contains _ u (subst (λ ts. Contains ts u) (task.parted some) c) in
      let h : IsPart w.shapes.now u w.term.now = piece-part w.shapes.now w.term.now u ((parts-pieces w.shapes.now w.term.now u).0 i) in
      (part-valid w.shapes.now u w.term.now task.valid h, part-canonical w.shapes.now u w.term.now task.canonical h)

  some_variables : (before : List Term) (v : ℕ × SortId) (rest : List (ℕ × SortId)) → drop (length before) w.variables ≡ v ∷ rest → 1 ≤ length w.variables
  some_variables before v rest e = go (length before) w.variables e
    where
      long : [] ≡ v ∷ rest → ⊥
      long f = let l : 0 ≡ suc (length rest) = ap length f in omega arith

      go : (n : ℕ) (vs : List (ℕ × SortId)) → drop n vs ≡ v ∷ rest → 1 ≤ length vs
      go zero [] f = absurd (long f)
      go (suc n) [] f = absurd (long f)
      go n (x ∷ vs) f = omega arith

  -- what a look tells leads the search
  pub look-leads : (a : Prefix) (l : Look) (before : List Term) (v : ℕ × SortId) (rest : List (ℕ × SortId)) → a.shapes.now ≡ w.shapes.now → a.variables.now ≡ w.variables → a.values.now ≡ before → a.next ≡ v.0
      → drop (length before) w.variables ≡ v ∷ rest → Tells a l (Makes a w.pattern.now w.term.now) → Leads w l before rest
  unfolding Leads Tells Makes fits
  look-leads a l before v rest same-shapes same-variables same-values same-next e h u c off =
      no-fresh w rest (before ++ u ∷ []) (λ ts. ⊎_elim
      (λ yes. not_true (sym (h (bound w.variables (before ++ (u ∷ ts))) u (
        (λ x t k. bound-kept w.variables before (u ∷ ts) x t (sym (ap (λ vs. known vs before x) same-variables) ∙ sym (ap (λ us. known a.variables.now us x) same-values) ∙ k)),
        (λ k. ap (bound w.variables (before ++ (u ∷ ts))) same-next
            ∙ bound-next w.variables before v rest u ts e (sym (ap (λ vs. known vs before v.0) same-variables) ∙ sym (ap (λ us. known a.variables.now us v.0) same-values) ∙ ap (known a.variables.now a.values.now) (sym same-next) ∙ k)),
      )
      (subst (λ s. IsValid s u) (sym same-shapes) (proper u (some_variables before v rest e) c).0)
      (subst (λ s. IsCanonical s u) (sym same-shapes) (proper u (some_variables before v rest e) c).1)
      (ap (λ s. instance s (bound w.variables (before ++ (u ∷ ts))) w.pattern.now) same-shapes ∙ fitting (before ++ (u ∷ ts)) (sym (ap (fits w.shapes.now w.variables w.pattern.now w.term.now) (append_assoc before (u ∷ []) ts)) ∙ yes))) ∙ off))
      (λ other. other)
      (true_or_false (fits w.shapes.now w.variables w.pattern.now w.term.now ((before ++ u ∷ []) ++ ts))))
    where
      fitting : (ts : List Term) → fits w.shapes.now w.variables w.pattern.now w.term.now ts ≡ true → instance w.shapes.now (bound w.variables ts) w.pattern.now ≡ w.term.now
      fitting ts f = same-equal _ _ f

-- ---- the whole list

kept-append : {X : Type 0} (f : X → Bool) (xs ys : List X) → filter f (xs ++ ys) ≡ filter f xs ++ filter f ys
kept-append f [] ys = refl
kept-append f (x ∷ xs) ys = go (f x) (kept-append f xs ys)
  where
    go : (b : Bool) → filter f (xs ++ ys) ≡ filter f xs ++ filter f ys → cond b (x ∷ filter f (xs ++ ys)) (filter f (xs ++ ys)) ≡ cond b (x ∷ filter f xs) (filter f xs) ++ filter f ys
    go true e = ap (λ zs. x ∷ zs) e
    go false e = e

map-append : {X Y : Type 0} (f : X → Y) (xs ys : List X) → map f (xs ++ ys) ≡ map f xs ++ map f ys
map-append f [] ys = refl
map-append f (x ∷ xs) ys = ap (λ zs. f x ∷ zs) (map-append f xs ys)

module _ (w : Task) (test : List Term → Bool) where
  -- the lists that begin so and pass the test
  abbrev passing : List Term → List (List Term) → List (List Term)
  passing before lists = filter test (map (λ ts. before ++ ts) lists)

  passing-prefixed : (before : List Term) (u : Term) (lists : List (List Term)) → passing before (map (λ ts. u ∷ ts) lists) ≡ passing (before ++ u ∷ []) lists
  passing-prefixed before u lists = ap (filter test) (go lists)
    where
      go : (lists : List (List Term)) → map (λ ts. before ++ ts) (map (λ ts. u ∷ ts) lists) ≡ map (λ ts. (before ++ u ∷ []) ++ ts) lists
      go [] = refl
      go (ts ∷ lists) = ap (λ r. r ∷ map (λ us. before ++ us) (map (λ us. u ∷ us) lists)) (sym (append_assoc before (u ∷ []) ts)) ∙ ap (λ r. ((before ++ u ∷ []) ++ ts) ∷ r) (go lists)

  passing-flat : (before : List Term) (later : List (List Term)) (us : List Term) (f : Term → List (List Term)) → ((u : Term) → f u ≡ passing (before ++ u ∷ []) later)
      → flat_map f us ≡ passing before (flat_map (prefixed later) us)
  unfolding prefixed
  passing-flat before later [] f h = refl
  passing-flat before later (u ∷ us) f h =
      ap (λ r. r ++ flat_map f us) (h u ∙ sym (passing-prefixed before u later)) ∙ ap (λ r. passing before (map (λ ts. u ∷ ts) later) ++ r) (passing-flat before later us f h)
      ∙ sym (ap (filter test) (map-append (λ ts. before ++ ts) (map (λ ts. u ∷ ts) later) (flat_map (prefixed later) us)) ∙ kept-append test (map (λ ts. before ++ ts) (map (λ ts. u ∷ ts) later)) (map (λ ts. before ++ ts) (flat_map (prefixed later) us)))

fresh-choices : (w : Task) (vs : List (ℕ × SortId)) (before : List Term)
    → fresh w before vs ≡ filter (fits w.shapes.now w.variables w.pattern.now w.term.now) (map (λ ts. before ++ ts) (choices w.shapes.now w.parts vs))
fresh-choices w [] before = ap (λ ts. filter (fits w.shapes.now w.variables w.pattern.now w.term.now) (ts ∷ [])) (sym (append-nil before))
fresh-choices w (v ∷ vs) before = passing-flat w (fits w.shapes.now w.variables w.pattern.now w.term.now) before (choices w.shapes.now w.parts vs) (filter (has_sort w.shapes.now v.1) w.parts)
    (λ u. fresh w (before ++ u ∷ []) vs) (λ u. fresh-choices w vs (before ++ u ∷ []))

map-itself : (lists : List (List Term)) → map (λ (ts : List Term). [] ++ ts) lists ≡ lists
map-itself [] = refl
map-itself (ts ∷ lists) = ap (λ r. ts ∷ r) (map-itself lists)

-- with no values yet, these are all matches
pub fresh-whole : (w : Task) → IsTask w → fresh w [] w.variables ≡ matches w.shapes.now w.pattern.now w.term.now
unfolding matches assignments
fresh-whole w task =
    fresh-choices w w.variables [] ∙ ap (filter (fits w.shapes.now w.variables w.pattern.now w.term.now)) (map-itself (choices w.shapes.now w.parts w.variables) ∙ by_variables w.variables task.parted)
    ∙ ap (λ vs. filter (fits w.shapes.now vs w.pattern.now w.term.now) (choices w.shapes.now (parts w.shapes.now w.term.now) vs)) task.named
  where
    by_variables : (vs : List (ℕ × SortId)) → (1 ≤ length vs → w.parts ≡ parts w.shapes.now w.term.now) → choices w.shapes.now w.parts vs ≡ choices w.shapes.now (parts w.shapes.now w.term.now) vs
    by_variables [] h = refl
    by_variables (v ∷ vs) h = ap (λ all. choices w.shapes.now all (v ∷ vs)) (h (omega arith))

-- ---- slices

module _ (w : Task) (before : List Term) (vs : List (ℕ × SortId)) where
  pub ends-some : length vs < 1 → (r : Bool) → r ≡ fits w.shapes.now w.variables w.pattern.now w.term.now before → r ≡ true → Finds w before vs (Some []) (fresh w before vs)
  ends-some few r e on = subst (λ ws. Finds w before ws (Some []) (fresh w before ws)) (sym (is_empty vs few)) (fits-some w before r e on)

  pub ends-none : length vs < 1 → (r : Bool) → r ≡ fits w.shapes.now w.variables w.pattern.now w.term.now before → r ≡ false → Finds w before vs None (fresh w before vs)
  unfolding Finds
  ends-none few r e off = ap (fresh w before) (is_empty vs few) ∙ fits-none w before r e off

  pub goes-on : (v : ℕ × SortId) (answer : Option (List ℕ)) → 1 ≤ length vs → v ≡ get_or vs 0 v → Finds w before (v ∷ others vs) answer (among w before (drop 0 w.parts) v (others vs)) → Finds w before vs answer (fresh w before vs)
  goes-on v answer some is h = subst (λ ws. Finds w before ws answer (fresh w before ws)) (sym (begins vs v some is)) h

  pub is-next : (v : ℕ × SortId) → drop (length before) w.variables ≡ vs → 1 ≤ length vs → v ≡ get_or vs 0 v → drop (length before) w.variables ≡ v ∷ others vs
  is-next v e some is = e ∙ begins vs v some is

  pub after-end : (places : List ℕ) → length vs < 1 → Finds w before vs None (after w before places vs)
  unfolding Finds
  after-end [] few = refl
  after-end (i ∷ places) few = ap (after w before (i ∷ places)) (is_empty vs few)

  pub after-all : (places : List ℕ) → length places < 1 → Finds w before vs None (after w before places vs)
  unfolding Finds
  after-all places few = ap (λ is. after w before is vs) (is_empty places few)

  pub after-on : (v : ℕ × SortId) (place : ℕ) (places : List ℕ) (answer : Option (List ℕ)) → 1 ≤ length vs → v ≡ get_or vs 0 v → 1 ≤ length places → place ≡ get_or places 0 place
      → Finds w before (v ∷ others vs) answer (after w before (place ∷ others places) (v ∷ others vs)) → Finds w before vs answer (after w before places vs)
  after-on v place places answer some is some' is' h = subst (λ is. Finds w before vs answer (after w before is vs)) (sym (begins places place some' is'))
      (subst (λ ws. Finds w before ws answer (after w before (place ∷ others places) ws)) (sym (begins vs v some is)) h)

pub there-first : (count place : ℕ) (places : List ℕ) → 1 ≤ length places → place ≡ get_or places 0 place → AreThere count places → place < count
there-first count place [] some is h = absurd (omega arith)
there-first count place (i ∷ places) some is h = subst (λ n. n < count) (sym is) h.0

pub there-others : (count : ℕ) (places : List ℕ) → 1 ≤ length places → AreThere count places → AreThere count (others places)
there-others count [] some h = absurd (omega arith)
there-others count (i ∷ places) some h = let few : length places ≤ length (i ∷ places) - 1 = omega arith in subst (AreThere count) (sym (take_all (length (i ∷ places) - 1) places few)) h.1

module _ (w : Task) (before longer : List Term) (v : ℕ × SortId) (vs : List (ℕ × SortId)) (place : ℕ) (u : Term) (within : place < length w.parts) (is : u ≡ get_or w.parts place u) (long : longer ≡ before ++ u ∷ []) where
  own : u ≡ get_or w.parts place (int_term (pos 0))
  own = is ∙ get_or_any w.parts place u (int_term (pos 0)) within

  pub place-none : Finds w longer vs None (fresh w longer vs) → FindsAt w before v vs None place
  unfolding Finds
  place-none h = at-none w before v vs place u within own (subst (λ ts. fresh w ts vs ≡ []) long h)

  pub place-some : (places all : List ℕ) → has_sort w.shapes.now v.1 u ≡ true → Finds w longer vs (Some places) (fresh w longer vs) → all ≡ place ∷ places → FindsAt w before v vs (Some all) place
  place-some places all e h same = at-some w before v vs place u within own places all e (subst (λ ts. Finds w ts vs (Some places) (fresh w ts vs)) long h) same

  pub next-some : (places others all : List ℕ) → Finds w longer vs (Some others) (after w longer places vs) → all ≡ place ∷ others → Finds w before (v ∷ vs) (Some all) (after w before (place ∷ places) (v ∷ vs))
  next-some places others all h same = past-some w before v vs place u within own places others all (subst (λ ts. Finds w ts vs (Some others) (after w ts places vs)) long h) same

  pub next-none : (places : List ℕ) (answer : Option (List ℕ)) → Finds w longer vs None (after w longer places vs) → Finds w before (v ∷ vs) answer (among w before (drop (place + 1) w.parts) v vs)
      → Finds w before (v ∷ vs) answer (after w before (place ∷ places) (v ∷ vs))
  unfolding Finds
  next-none places answer h k = past-none w before v vs place u within own places answer (subst (λ ts. after w ts places vs ≡ []) long h) k

module _ (w : Task) (before : List Term) (v : ℕ × SortId) (vs : List (ℕ × SortId)) (place : ℕ) (u : Term) (within : place < length w.parts) (is : u ≡ get_or w.parts place u) where
  mine : u ≡ get_or w.parts place (int_term (pos 0))
  mine = is ∙ get_or_any w.parts place u (int_term (pos 0)) within

  pub place-unsorted : has_sort w.shapes.now v.1 u ≡ false → FindsAt w before v vs None place
  place-unsorted e = at-unsorted w before v vs place u within mine e

  pub place-never : (l : Look) → Leads w l before vs → admits l u ≡ false → FindsAt w before v vs None place
  unfolding Leads
  place-never l h off = at-none w before v vs place u within mine (h u (contains-at w.parts place u within is) off)

module _ (w : Task) (before : List Term) (v : ℕ × SortId) (vs : List (ℕ × SortId)) (start place : ℕ) (same : among w before (drop start w.parts) v vs ≡ among w before (drop place w.parts) v vs) where
  pub from-some : (places : List ℕ) → FindsAt w before v vs (Some places) place → Finds w before (v ∷ vs) (Some places) (among w before (drop start w.parts) v vs)
  unfolding FindsAt
  from-some places h = subst (Finds w before (v ∷ vs) (Some places)) (sym same) h

  pub from-none : FindsAt w before v vs None place → among w before (drop start w.parts) v vs ≡ among w before (drop (place + 1) w.parts) v vs
  unfolding FindsAt
  from-none h = same ∙ h

  pub from-end : length w.parts ≤ place → Finds w before (v ∷ vs) None (among w before (drop start w.parts) v vs)
  unfolding Finds
  from-end past = same ∙ among-end w before v vs place past

pub ruleset searches = (from-some, from-none, from-end, ends-some, ends-none, goes-on, is-next, place-none, place-some, place-unsorted, place-never, others-next)

pub ruleset afters = (after-end, after-all, after-on, is-next, there-first, there-others, next-some, next-none, others-next)

pub ruleset nexts = (look-leads)
