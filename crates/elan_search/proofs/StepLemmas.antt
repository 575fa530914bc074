-- A turn keeps which lists are ahead.
use Rattle.std.proofs.Common.{◌≡◌, refl, sym, ap, ◌∙◌, subst, ◌↔◌, ℕ, suc, ◌+◌, ◌<◌, ◌≤◌, Bool, true, false, Option, Some, None, List, [], ◌∷◌, ◌++◌, length, IsTrue, All, Contains, arith}
use Rattle.std.proofs.lemmas.List.{map_push, length-map}
use Rattle.boxcar.specs.Table.{Where}
use Rattle.elan_terms.specs.declared.tree.Term.{Term}
use Rattle.elan_terms.specs.Term.{order}
use Rattle.elan_terms.proofs.OrderLemmas.{order-equal, order-itself}
use Rattle.elan_terms.proofs.OrderLaws.{order_total}
use Rattle.elan_table.specs.Rows.{terms}
use Rattle.elan_search.specs.declared.ahead.Low.{Low}
use Rattle.elan_search.specs.declared.ahead.Low.TheVariants.{Empty, At}
use Rattle.elan_search.specs.declared.place.Turn.{Turn}
use Rattle.elan_search.specs.declared.place.Turn.TheVariants.{On, Found, Over}
use Rattle.elan_search.specs.Bounds.{term_if, After, GoesOn, IsBound, Bounds}
use Rattle.elan_search.specs.Place.{IsAhead, IsPlace, SameAhead, GoesBack, Turns}
use Rattle.elan_search.proofs.PlaceLemmas as places

behind_push : {X : Type 0} (xs : List X) (y : X) (rest : List X) → xs ++ y ∷ rest ≡ (xs ++ y ∷ []) ++ rest
behind_push [] y rest = refl
behind_push (x ∷ xs) y rest = ap (λ ws. x ∷ ws) (behind_push xs y rest)

length_push : {X : Type 0} (xs : List X) (x : X) → length (xs ++ x ∷ []) ≡ length xs + 1
length_push [] x = refl
length_push (y ∷ xs) x = let e : length (xs ++ x ∷ []) ≡ length xs + 1 = length_push xs x in omega arith

length_behind : {X : Type 0} (xs : List X) (x : X) (rest : List X) → length (xs ++ x ∷ rest) ≡ length xs + 1 + length rest
length_behind [] x rest = omega arith
length_behind (y ∷ xs) x rest = let e : length (xs ++ x ∷ rest) ≡ length xs + 1 + length rest = length_behind xs x rest in omega arith

pub length_terms : (rows : List (Where Term)) → length (terms rows) ≡ length rows
length_terms rows = length-map rows (λ w. w.value)

terms_push : (done : List (Where Term)) (u : Where Term) → terms (done ++ u ∷ []) ≡ terms done ++ u.value ∷ []
terms_push done u = map_push (λ (w : Where Term). w.value) done u

pub of_all : {X : Type 0} (P : X → Type 0) (xs : List X) (x : X) → All P xs → Contains xs x → P x
of_all P xs x h (k, within, is) = subst P is (h k x within)

after_by : (floor : Option Term) (u : Term) → After floor u → places.AfterBy order order_total order-equal order-itself floor u
after_by None u h = tt
after_by (Some f) u h = h

by_after : (floor : Option Term) (u : Term) → places.AfterBy order order_total order-equal order-itself floor u → After floor u
by_after None u h = tt
by_after (Some f) u h = h

module _ (lists : List (List Term)) (n : ℕ) (long : All (λ xs. length xs ≡ n) lists) where
  -- ---- a place grows

  pub grown : (done : List Term) (floor : Option Term) (u : Term) → length done < n → IsBound lists done floor u
      → IsPlace n (done ++ u ∷ []) None × SameAhead lists done floor (done ++ u ∷ []) None
  grown done floor u few bound = (
    record { within = let e : length (done ++ u ∷ []) ≡ length done + 1 = length_push done u in omega arith; whole = λ e. refl },
    λ a there. let its : length a ≡ n = of_all (λ xs. length xs ≡ n) lists a long there in (
      places.grown_ahead order order_total order-equal order-itself done floor u a (omega arith)
          (λ v rest same later. bound.least v (rest, subst (Contains lists) same there) (by_after floor v later)),
      places.ahead_grown order order_total order-equal order-itself done floor u a (omega arith) (after_by floor u bound.after),
    ),
  )

  pub grown_rows : {N : Type 0} (done slice later : List (Where Term)) (floor copied : Option (Where Term)) (low : Low N) (u : Where Term)
      → length done < n → Bounds lists (terms slice) (term_if copied) low → slice ≡ done → copied ≡ floor → low ≡ At u → later ≡ done ++ u ∷ []
      → IsPlace n (terms later) None × SameAhead lists (terms done) (term_if floor) (terms later) None
  grown_rows done slice later floor copied low u few bound is_slice is_floor is_at is_later =
      let count : length (terms done) ≡ length done = length_terms done in
      let of_row : IsBound lists (terms done) (term_if floor) u.value = subst (λ f. IsBound lists (terms done) (term_if f) u.value) is_floor (subst (Bounds lists (terms done) (term_if copied)) is_at (subst (λ us. Bounds lists (terms us) (term_if copied) low) is_slice bound)) in
      subst (λ us. IsPlace n us None × SameAhead lists (terms done) (term_if floor) us None) (sym (ap terms is_later ∙ terms_push done u))
      (grown (terms done) (term_if floor) u.value (omega arith) of_row)

  -- ---- a place gives its last item up

  -- no list begins with all of these terms and goes on behind the floor
  abbrev NoneWith : List Term → Option Term → Type 0
  NoneWith done floor = (rest : List Term) → Contains lists (done ++ rest) → IsAhead [] floor rest → ⊥

  none_low : (done : List Term) (floor : Option Term) → length done < n → ((u : Term) → GoesOn lists done u → After floor u → ⊥) → NoneWith done floor
  none_low done floor few none [] there h =
      let its : length (done ++ []) ≡ n = of_all (λ xs. length xs ≡ n) lists _ long there in
      let same : length (done ++ []) ≡ length done = no_more done in absurd (omega arith)
    where
      no_more : (xs : List Term) → length (xs ++ []) ≡ length xs
      no_more [] = refl
      no_more (x ∷ xs) = ap suc (no_more xs)
  none_low done floor few none (v ∷ rest) there h = none v (rest, there) (by_after floor v (places.after_head order order_total order-equal order-itself floor v rest h))

  none_whole : (done : List Term) (floor : Option Term) → length done ≡ n → (Contains lists done → ⊥) → NoneWith done floor
  none_whole done floor whole absent [] there h = absent (subst (Contains lists) (no_more done) there)
    where
      no_more : (xs : List Term) → xs ++ [] ≡ xs
      no_more [] = refl
      no_more (x ∷ xs) = ap (λ ys. x ∷ ys) (no_more xs)
  none_whole done floor whole absent (v ∷ rest) there h =
      let its : length (done ++ v ∷ rest) ≡ n = of_all (λ xs. length xs ≡ n) lists _ long there in
      let more : length (done ++ v ∷ rest) ≡ length done + 1 + length rest = length_behind done v rest in absurd (omega arith)

  gone_back : (done : List Term) (u : Term) (floor : Option Term) → length (done ++ u ∷ []) ≤ n → NoneWith (done ++ u ∷ []) floor
      → IsPlace n done (Some u) × SameAhead lists (done ++ u ∷ []) floor done (Some u)
  gone_back done u floor within none = let e : length (done ++ u ∷ []) ≡ length done + 1 = length_push done u in (
    record { within = omega arith; whole = λ same. absurd (omega arith) },
    λ a there. (
      places.back_ahead order order_total order-equal order-itself done u floor a
          (λ rest same. none rest (subst (Contains lists) (same ∙ behind_push done u rest) there)),
      places.ahead_back order order_total order-equal order-itself done u floor a,
    ),
  )

  back_turns : (done later : List (Where Term)) (floor past : Option (Where Term)) (turn : Turn) → length done ≤ n → NoneWith (terms done) (term_if floor)
      → GoesBack done later past turn → Turns lists n (terms done) (term_if floor) (terms later) (term_if past) turn
  back_turns done later floor None On within none h = elim h [ ]
  back_turns done later floor (Some u) On within none h =
      let same : terms done ≡ terms later ++ u.value ∷ [] = ap terms h ∙ terms_push later u in
      let count : length (terms done) ≡ length done = length_terms done in
      subst (λ us. IsPlace n (terms later) (Some u.value) × SameAhead lists us (term_if floor) (terms later) (Some u.value)) (sym same)
      (gone_back (terms later) u.value (term_if floor) (subst (λ us. length us ≤ n) same (omega arith)) (subst (λ us. NoneWith us (term_if floor)) same none))
  back_turns done later floor past Found within none h = elim h [ ]
  back_turns done later floor past Over within none h = λ a there ahead.
      subst (λ us. NoneWith us (term_if floor)) (ap terms h) none a there (subst (λ us. IsAhead us (term_if floor) a) (ap terms h) ahead)

  -- where no bound is found
  pub back_low : {N : Type 0} (done slice later : List (Where Term)) (floor copied past : Option (Where Term)) (low : Low N) (turn : Turn) → length done < n
      → Bounds lists (terms slice) (term_if copied) low → slice ≡ done → copied ≡ floor → low ≡ Empty
      → GoesBack done later past turn → Turns lists n (terms done) (term_if floor) (terms later) (term_if past) turn
  back_low done slice later floor copied past low turn few bound is_slice is_floor is_empty h =
      let count : length (terms done) ≡ length done = length_terms done in
      back_turns done later floor past turn (omega arith) (none_low (terms done) (term_if floor) (omega arith)
      (subst (λ f. (u : Term) → GoesOn lists (terms done) u → After (term_if f) u → ⊥) is_floor (subst (Bounds lists (terms done) (term_if copied)) is_empty (subst (λ us. Bounds lists (terms us) (term_if copied) low) is_slice bound)))) h

  -- where the terms are none of the lists
  pub back_whole : (done slice later : List (Where Term)) (floor past : Option (Where Term)) (held : Bool) (turn : Turn) → length done ≡ n
      → IsTrue held ↔ Contains lists (terms slice) → slice ≡ done → held ≡ false
      → GoesBack done later past turn → Turns lists n (terms done) (term_if floor) (terms later) (term_if past) turn
  back_whole done slice later floor past held turn whole fits is_slice is_false h =
      let count : length (terms done) ≡ length done = length_terms done in
      back_turns done later floor past turn (omega arith) (none_whole (terms done) (term_if floor) (omega arith) (λ there. never (sym (fits.1 (subst (λ us. Contains lists (terms us)) (sym is_slice) there)) ∙ is_false))) h
    where
      never : true ≡ false → ⊥
      never e = cc
