-- What is found ahead of a place is the first list, or the next one, and in front of those that are owed then.
use Rattle.std.proofs.Common.{◌≡◌, refl, sym, ap, ◌∙◌, subst, ℕ, Option, Some, None, List, [], ◌∷◌, ◌++◌, length, IfSome, All, Contains, arith}
use Rattle.std.proofs.lemmas.List.{map_push}
use Rattle.std.proofs.lemmas.Cmp.{lists_total}
use Rattle.std.specs.declared.cmp.Ordering.TheVariants.{Less, Equal}
use Rattle.std.specs.Ordering.{ordering_then}
use Rattle.std.specs.Cmp.Lexicographic.{slice_cmp}
use Rattle.boxcar.specs.Table.{Where}
use Rattle.elan_terms.specs.declared.tree.Term.{Term}
use Rattle.elan_terms.specs.Term.{order}
use Rattle.elan_terms.proofs.OrderLemmas.{order-equal, order-itself}
use Rattle.elan_terms.proofs.OrderLaws.{order_total}
use Rattle.elan_terms.proofs.Lists.{Pairs, pairs_of, contains_of_in, in_of_contains}
use Rattle.elan_laws.specs.Matching.{AscendLexicographically}
use Rattle.elan_table.specs.Rows.{terms}
use Rattle.elan_search.specs.declared.place.Turn.{Turn}
use Rattle.elan_search.specs.declared.place.Turn.TheVariants.{Found}
use Rattle.elan_search.specs.Next.{ComesAfter, FindsFirst, FindsNext, Gives}
use Rattle.elan_search.specs.Place.{IsAhead, SameAhead, Turns, IsFirstAhead, FindsAhead}
use Rattle.elan_search.proofs.PlaceLemmas as places
use Rattle.elan_search.proofs.OwedLemmas as owing
use Rattle.elan_search.proofs.StepLemmas.{length_terms, of_all}

-- terms that are one of the lists are the first list ahead of a place that has the same lists ahead
found_ahead : (lists : List (List Term)) (n : ℕ) (done now : List Term) (floor past : Option Term) → All (λ xs. length xs ≡ n) lists
    → SameAhead lists done floor now past → past ≡ None → Contains lists now → IsFirstAhead lists done floor now
found_ahead lists n done now floor past long same none there = record {
  there = there;
  ahead = (same now there).1 (subst (λ f. IsAhead now f now) (sym none) (places.ahead_itself order order_total order-equal order-itself now));
  least = λ a found ahead.
      let own : length now ≡ n = of_all (λ xs. length xs ≡ n) lists now long there in
      let its : length a ≡ n = of_all (λ xs. length xs ≡ n) lists a long found in
      places.ahead_not_before order order_total order-equal order-itself now a (omega arith) (subst (λ f. IsAhead now f a) none ((same a found).0 ahead));
}

-- what a turn found is that
pub turn_found : (lists : List (List Term)) (n : ℕ) (done now later : List Term) (floor past end : Option Term) (turn : Turn) → All (λ xs. length xs ≡ n) lists
    → SameAhead lists done floor now past → Turns lists n now past later end turn → turn ≡ Found → IsFirstAhead lists done floor later
turn_found lists n done now later floor past end turn long same turns is =
    let told : Turns lists n now past later end Found = subst (Turns lists n now past later end) is turns in
    subst (IsFirstAhead lists done floor) (sym told.0) (found_ahead lists n done now floor past long same told.1 told.2)

-- ---- the first list

first_of : (lists : List (List Term)) (found : Option (List (Where Term))) → FindsAhead lists [] None found → FindsFirst lists found
first_of [] None h = refl
first_of (a ∷ lists) None h = absurd (h a (0, omega arith, refl) tt)
first_of lists (Some m) h = record { there = h.there; least = λ a there. h.least a there tt }

pub first_from : (lists : List (List Term)) (none : List (Where Term)) (found : Option (List (Where Term))) → none ≡ [] → FindsAhead lists (terms none) None found → FindsFirst lists found
first_from lists none found is h = first_of lists found (subst (λ ws. FindsAhead lists (terms ws) None found) is h)

-- ---- the list after another

pub next_of : (lists : List (List Term)) (n : ℕ) (last done : List (Where Term)) (u : Where Term) (found : Option (List (Where Term)))
    → All (λ xs. length xs ≡ n) lists → length last ≡ n → last ≡ done ++ u ∷ []
    → FindsAhead lists (terms done) (Some u.value) found → FindsNext lists (terms last) found
next_of lists n last done u found long all is h = by_found found h
  where
    is_terms : terms last ≡ terms done ++ u.value ∷ []
    is_terms = ap terms is ∙ map_push (λ (w : Where Term). w.value) done u

    as_long : length (terms done ++ u.value ∷ []) ≡ n
    as_long = ap length (sym is_terms) ∙ length_terms last ∙ all

    to_place : (a : List Term) → Contains lists a → ComesAfter (terms last) a → IsAhead (terms done) (Some u.value) a
    to_place a there lt = places.later_ahead order order_total order-equal order-itself (terms done) u.value a
        (of_all (λ xs. length xs ≡ n) lists a long there ∙ sym as_long) (subst (λ us. ComesAfter us a) is_terms lt)

    by_found : (o : Option (List (Where Term))) → FindsAhead lists (terms done) (Some u.value) o → FindsNext lists (terms last) o
    by_found None none = λ a there lt. none a there (to_place a there lt)
    by_found (Some m) first = record {
      there = first.there;
      after = subst (λ us. ComesAfter us (terms m)) (sym is_terms) (places.ahead_later order order_total order-equal order-itself (terms done) u.value (terms m) first.ahead);
      least = λ a there lt. first.least a there (to_place a there lt);
    }

-- no list comes after one without terms, where no list has any
pub next_none : (lists : List (List Term)) (n : ℕ) (last : List (Where Term)) → All (λ xs. length xs ≡ n) lists → length last ≡ n → last ≡ [] → FindsNext lists (terms last) None
next_none lists n last long all is = λ a there lt.
    let none : 0 ≡ n = ap length (sym is) ∙ all in
    let its : length a ≡ n = of_all (λ xs. length xs ≡ n) lists a long there in
    no_later a (omega arith) (subst (λ us. ComesAfter us a) (ap terms is) lt)
  where
    no_later : (a : List Term) → length a ≡ 0 → ComesAfter [] a → ⊥
    no_later [] e lt = places.equal_not_less lt
    no_later (x ∷ xs) e lt = absurd (omega arith)

-- ---- what is owed

itself : (xs : List Term) → slice_cmp order xs xs ≡ Equal
itself [] = refl
itself (x ∷ xs) = ap (λ o. ordering_then o (slice_cmp order xs xs)) (order-itself x) ∙ itself xs

up : (lists : List (List Term)) → AscendLexicographically lists → Pairs (λ a b. slice_cmp order a b ≡ Less) lists
up lists h = pairs_of (λ a b. slice_cmp order a b ≡ Less) lists h

pub first_gives : (lists : List (List Term)) (found : Option (List (Where Term))) → AscendLexicographically lists → FindsFirst lists found → Gives lists None found
first_gives lists None ascend h = h
first_gives lists (Some m) ascend h = owing.beyond_first (slice_cmp order) (lists_total order_total) itself lists (terms m) (up lists ascend)
    (in_of_contains lists (terms m) h.there) (λ a i. h.least a (contains_of_in lists a i))

pub next_gives : (lists : List (List Term)) (last : List Term) (found : Option (List (Where Term))) → AscendLexicographically lists → FindsNext lists last found → Gives lists (Some last) found
next_gives lists last None ascend h = owing.beyond_none (slice_cmp order) (lists_total order_total) itself lists last (λ a i lt. h a (contains_of_in lists a i) lt)
next_gives lists last (Some m) ascend h = owing.beyond_next (slice_cmp order) (lists_total order_total) itself lists last (terms m) (up lists ascend)
    (in_of_contains lists (terms m) h.there) h.after (λ a i lt. h.least a (contains_of_in lists a i) lt)

-- ---- how long what is found is

row_long : (lists : List (List Term)) (n : ℕ) (m : List (Where Term)) → All (λ xs. length xs ≡ n) lists → Contains lists (terms m) → length m ≡ n
row_long lists n m long there = sym (length_terms m) ∙ of_all (λ xs. length xs ≡ n) lists (terms m) long there

pub first_long : (lists : List (List Term)) (n : ℕ) (found : Option (List (Where Term))) → All (λ xs. length xs ≡ n) lists → FindsFirst lists found → IfSome found (λ m. length m ≡ n)
first_long lists n None long h = tt
first_long lists n (Some m) long h = row_long lists n m long h.there

pub next_long : (lists : List (List Term)) (n : ℕ) (last : List Term) (found : Option (List (Where Term))) → All (λ xs. length xs ≡ n) lists → FindsNext lists last found → IfSome found (λ m. length m ≡ n)
next_long lists n last None long h = tt
next_long lists n last (Some m) long h = row_long lists n m long h.there
