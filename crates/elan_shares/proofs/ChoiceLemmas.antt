-- Lists of arguments, shorter ones first.
use Rattle.std.proofs.Common.{◌≡◌, refl, sym, ap, ◌∙◌, subst, ℕ, ◌≤◌, ◌<◌, ℤ, Bool, true, false, cond, nat_lt, Option, Some, None, List, length, take, is_gt, arith}
use Rattle.std.proofs.lemmas.Bool.{ltb-true}
use Rattle.std.proofs.lemmas.Cmp.{ranked}
use Rattle.std.specs.declared.cmp.Ordering.{Ordering}
use Rattle.std.specs.declared.cmp.Ordering.TheVariants.{Less, Equal, Greater}
use Rattle.std.specs.Ordering.{MatchOrdering, nat_cmp, ordering_then}
use Rattle.std.specs.Cmp.Lexicographic.{slice_cmp}
use Rattle.boxcar.specs.Table.{Where}
use Rattle.elan_terms.specs.declared.tree.OpId.{OpId}
use Rattle.elan_terms.specs.declared.tree.Term.{Term}
use Rattle.elan_terms.specs.declared.tree.Shapes.{Shapes}
use Rattle.elan_terms.specs.Trees.{int_term, app_term}
use Rattle.elan_terms.specs.Term.{order, is_ac}
use Rattle.elan_terms.specs.Valid.{IsValid}
use Rattle.elan_terms.proofs.NodeLemmas.{two_arguments}
use Rattle.elan_terms.proofs.OrderLaws.{order-apps, order-kinds}
use Rattle.elan_bags.specs.Choices.{NotAfterList, IsPick, FindsLeast}
use Rattle.elan_bags.proofs.TimesLemmas.{some-length}
use Rattle.elan_shares.specs.declared.share.Places.{Places}
use Rattle.elan_shares.specs.Sizes.{Fits, IsNext}
use Rattle.elan_shares.specs.Nodes.{args_order, FindsFirst, IsTaken, IsLonger, IsPast, IsOver}

-- ---- the order of lists

not_gt_by : (m n : ℕ) (o rest : Ordering) → MatchOrdering o (m < n) (m ≡ n) (n < m) → m ≤ n → (m ≡ n → is_gt rest ≡ false) → is_gt (ordering_then o rest) ≡ false
not_gt_by m n Less rest r le f = refl
not_gt_by m n Equal rest r le f = f r
not_gt_by m n Greater rest r le f = absurd (omega arith)

-- a list that is not longer, and where it is as long does not come after, comes first
pub not_after_args : (xs ys : List Term) → length xs ≤ length ys → (length xs ≡ length ys → NotAfterList xs ys) → is_gt (args_order xs ys) ≡ false
not_after_args xs ys le f = not_gt_by (length xs) (length ys) (nat_cmp (length xs) (length ys)) (slice_cmp order xs ys) (ranked (length xs) (length ys) (nat_cmp (length xs) (length ys)) refl) le f

greater_less : {A : Type 0} → Greater ≡ Less → A
greater_less e = absurd (no e)
  where
    no : Greater ≡ Less → ⊥
    no f = cc

le_by : (m n : ℕ) (o rest : Ordering) → MatchOrdering o (m < n) (m ≡ n) (n < m) → ordering_then o rest ≡ Less → m ≤ n
le_by m n Less rest r e = omega arith
le_by m n Equal rest r e = omega arith
le_by m n Greater rest r e = greater_less e

pub past-length : (xs ys : List Term) → args_order xs ys ≡ Less → length xs ≤ length ys
past-length xs ys e = le_by (length xs) (length ys) (nat_cmp (length xs) (length ys)) (slice_cmp order xs ys) (ranked (length xs) (length ys) (nat_cmp (length xs) (length ys)) refl) e

-- ---- what is found

-- two facts that hold of the same lists
pub finds_alike : (Is Was : List Term → Type 0) → ((xs : List Term) → Was xs → Is xs) → ((xs : List Term) → Is xs → Was xs) → (found : Option (List Term)) → FindsFirst Was found → FindsFirst Is found
finds_alike Is Was to back None h = λ xs k. h xs (back xs k)
finds_alike Is Was to back (Some xs) h = record { is = to xs h.is; first = λ ys k. h.first ys (back ys k) }

module _ (places : Places) (count : ℕ) (us : List Term) where
  pub finds_taken : (Fact Was : List Term → Type 0) → ((xs : List Term) → Was xs → Fact xs) → ((xs : List Term) → Fact xs → Was xs) → (found : Option (List Term))
      → FindsFirst (IsTaken places count us Was) found → FindsFirst (IsTaken places count us Fact) found
  finds_taken Fact Was to back found h = finds_alike (IsTaken places count us Fact) (IsTaken places count us Was)
      (λ xs k. record { some = k.some; fits = k.fits; fact = to xs k.fact })
      (λ xs k. record { some = k.some; fits = k.fits; fact = back xs k.fact })
      found h

  -- ---- longer lists

  too_few : (b : Bool) (n many : ℕ) (xs : List Term) → nat_lt n many ≡ b → None ≡ cond b None (Some xs) → n < many
  too_few true n many xs e f = ltb-true n many e
  too_few false n many xs e f = absurd (no f)
    where
      no : None ≡ Some xs → ⊥
      no g = cc

  pub longer_found : (past many : ℕ) (found : Option (List Term)) → IsNext places count past many → found ≡ cond (nat_lt (length us) many) None (Some (take many us)) → FindsLeast (IsPick us many) found
      → FindsFirst (IsTaken places count us (IsLonger past)) found
  longer_found past many None next e h = λ xs k.
      let few : length us < many = too_few (nat_lt (length us) many) (length us) many (take many us) refl e in
      let le : many ≤ length xs = next.least (length xs) k.fact k.fits in
      absurd (omega (arith, some-length k.some))
  longer_found past many (Some xs) next e h =
      let long : length xs ≡ many = h.is.long in
      record {
        is = record { some = h.is.some; fits = subst (Fits places count) (sym long) next.fits; fact = subst (λ n. past < n) (sym long) next.above };
        first = λ ys k.
            let le : many ≤ length ys = next.least (length ys) k.fact k.fits in
            not_after_args xs ys (omega arith) (λ same. h.least ys (record { some = k.some; long = sym same ∙ long }));
      }

  -- ---- the floor

  module _ (op : OpId) where
    pub over_before : (floor : Where Term) (found : Option (List Term)) → ((xs : List Term) → order floor.value (app_term op xs) ≡ Less)
        → FindsFirst (IsTaken places count us (IsLonger 1)) found → FindsFirst (IsTaken places count us (IsOver op (Some floor))) found
    over_before floor found before = finds_taken (IsOver op (Some floor)) (IsLonger 1) (λ xs more. (more, before xs)) (λ xs h. h.0) found

    -- how the floor stands to a node
    against_int : (floor : Where Term) (z : ℤ) (xs : List Term) → floor.value ≡ int_term z → order floor.value (app_term op xs) ≡ Less
    against_int floor z xs e = ap (λ t. order t (app_term op xs)) e ∙ order-kinds z op xs

    against_app : (floor : Where Term) (f : OpId) (past xs : List Term) (o : Ordering) → floor.value ≡ app_term f past → o ≡ nat_cmp f.0 op.0 → order floor.value (app_term op xs) ≡ ordering_then o (args_order past xs)
    against_app floor f past xs o e is = ap (λ t. order t (app_term op xs)) e ∙ order-apps f op past xs ∙ ap (λ o. ordering_then o (args_order past xs)) (sym is)

    pub int_floor : (floor : Where Term) (z : ℤ) (found : Option (List Term)) → floor.value ≡ int_term z → FindsFirst (IsTaken places count us (IsLonger 1)) found
        → FindsFirst (IsTaken places count us (IsOver op (Some floor))) found
    int_floor floor z found e = over_before floor found (λ xs. against_int floor z xs e)

    module _ (floor : Where Term) (f : OpId) (past : List Term) (e : floor.value ≡ app_term f past) where
      pub lower_floor : (found : Option (List Term)) → Less ≡ nat_cmp f.0 op.0 → FindsFirst (IsTaken places count us (IsLonger 1)) found
          → FindsFirst (IsTaken places count us (IsOver op (Some floor))) found
      lower_floor found is = over_before floor found (λ xs. against_app floor f past xs Less e is)

      pub higher_floor : Greater ≡ nat_cmp f.0 op.0 → FindsFirst (IsTaken places count us (IsOver op (Some floor))) None
      higher_floor is = λ xs k. greater_less (sym (against_app floor f past xs Greater e is) ∙ k.fact.1)

      same_operator : Equal ≡ nat_cmp f.0 op.0 → f ≡ op
      same_operator is = let n : f.0 ≡ op.0 = ranked f.0 op.0 Equal is in ap (λ (i : ℕ). record { 0 = i }) n

      pub same_floor : (shapes : Shapes) (found : Option (List Term)) → Equal ≡ nat_cmp f.0 op.0 → is_ac shapes op ≡ true → IsValid shapes floor.value
          → FindsFirst (IsTaken places count us (IsPast past)) found → FindsFirst (IsTaken places count us (IsOver op (Some floor))) found
      same_floor shapes found is ac valid =
          let two : 2 ≤ length past = two_arguments shapes op past ac (subst (IsValid shapes) (e ∙ ap (λ o. app_term o past) (same_operator is)) valid) in
          finds_taken (IsOver op (Some floor)) (IsPast past)
          (λ xs later. let le : length past ≤ length xs = past-length past xs later in (omega arith, against_app floor f past xs Equal e is ∙ later))
          (λ xs h. sym (against_app floor f past xs Equal e is) ∙ h.1)
          found
