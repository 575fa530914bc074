-- Lists of children.
use Rattle.std.specs.Prelude.{◌≡◌, ◌≢◌, ℕ, ◌+◌, ◌≤◌, ◌<◌, List, [], ◌∷◌, ◌++◌, true, false, length, take, drop, take_while, replicate, refl, Option, Some, None, MatchOption, Result, Ok, Err, OnOk, ◌==◌}
use Rattle.std.proofs.lemmas.Bool.Decides.{nat_tests}
use Rattle.std.proofs.Common.{suc, sym, ◌∙◌, ap, arith, get_or, set}
use Rattle.std.proofs.lemmas.List.{drop_more, drop-set-lt}
use Rattle.elan_tree.specs.Tree.{Tree, Item, Open, Cat, First, Then, Trees, none, more, trees}
use Rattle.elan_tree.specs.Moves.{join, pushed}
use Rattle.elan_tree.specs.Normal.{NotOne, NotCat, NotEmpty}
use Rattle.std.specs.List.{prefix_len}
use Rattle.std.specs.declared.vec.Vec.{Vec}
use Rattle.std.specs.declared.alloc.Global.{Global}
use Rattle.elan_tree.specs.Shape.{tree_of}
use Rattle.elan_tree.specs.declared.node.Shape.{Shape}
use Rattle.elan_tree.specs.declared.node.Shape.TheVariants as S
use Rattle.elan_tree.specs.Kids.{flat, count, width, parts, cut_kids, not_item, with_child, with_children}

module _ {I O K : Type 0} where
  pub join-none : (ts : Trees I O K) → join ts none ≡ ts
  join-none none = refl
  join-none (more t ts) = ap (more t) (join-none ts)

  pub join-assoc : (ts us vs : Trees I O K) → join (join ts us) vs ≡ join ts (join us vs)
  join-assoc none us vs = refl
  join-assoc (more t ts) us vs = ap (more t) (join-assoc ts us vs)

  pub trees-append : (xs ys : List (Tree I O K)) → trees (xs ++ ys) ≡ join (trees xs) (trees ys)
  trees-append [] ys = refl
  trees-append (x ∷ xs) ys = ap (more x) (trees-append xs ys)

  pub count-trees : (xs : List (Tree I O K)) → count (trees xs) ≡ length xs
  count-trees [] = refl
  count-trees (x ∷ xs) = omega (arith, count-trees xs)

  pub not_one : (xs : List (Tree I O K)) → length xs ≢ 1 → NotOne (trees xs)
  not_one [] h = tt
  not_one (x ∷ []) h = absurd (h refl)
  not_one (x ∷ y ∷ xs) h = tt

  pub flat-more : (t : Tree I O K) (ts : Trees I O K) → flat (more t ts) ≡ join (parts t) (flat ts)
  flat-more (Item i) ts = refl
  flat-more (Open o) ts = refl
  flat-more (Cat us) ts = refl
  flat-more (First one arms) ts = refl
  flat-more (Then one t k) ts = refl

  take-next : (n : ℕ) (x : Tree I O K) (xs : List (Tree I O K)) → trees (take (suc n + 1) (x ∷ xs)) ≡ more x (trees (take (n + 1) xs))
  take-next n x xs =
      let e : suc n + 1 ≡ suc (n + 1) = omega arith in
      ap (λ m. trees (take m (x ∷ xs))) e

  -- one more child stands before the first item
  one_more : (x : Tree I O K) (xs : List (Tree I O K)) → length (take (1 + prefix_len not_item xs) (x ∷ xs)) ≡ suc (length (take_while not_item xs))
  one_more x xs =
      let e : 1 + prefix_len not_item xs ≡ suc (prefix_len not_item xs) = omega arith in
      ap (λ n. length (take n (x ∷ xs))) e

  next_cut : (x : Tree I O K) (xs : List (Tree I O K)) → trees (take (length (take_while not_item xs) + 1) xs) ≡ cut_kids (trees xs)
      → trees (take (length (take (1 + prefix_len not_item xs) (x ∷ xs)) + 1) (x ∷ xs)) ≡ more x (cut_kids (trees xs))
  next_cut x xs h =
      ap (λ n. trees (take (n + 1) (x ∷ xs))) (one_more x xs) ∙ take-next (length (take_while not_item xs)) x xs ∙ ap (more x) h

  pub cut-kids : (xs : List (Tree I O K)) → trees (take (length (take_while not_item xs) + 1) xs) ≡ cut_kids (trees xs)
  cut-kids [] = refl
  cut-kids (Item i ∷ xs) = refl
  cut-kids (Open o ∷ xs) = next_cut (Open o) xs (cut-kids xs)
  cut-kids (Cat us ∷ xs) = next_cut (Cat us) xs (cut-kids xs)
  cut-kids (First one arms ∷ xs) = next_cut (First one arms) xs (cut-kids xs)
  cut-kids (Then one t k ∷ xs) = next_cut (Then one t k) xs (cut-kids xs)

  pub cut-none : (xs : List (Tree I O K)) → length xs ≤ length (take_while not_item xs) → trees xs ≡ cut_kids (trees xs)
  cut-none [] h = refl
  cut-none (Item i ∷ xs) h = absurd (omega arith)
  cut-none (Open o ∷ xs) h = let e = one_more (Open o) xs in ap (more (Open o)) (cut-none xs (omega arith))
  cut-none (Cat us ∷ xs) h = let e = one_more (Cat us) xs in ap (more (Cat us)) (cut-none xs (omega arith))
  cut-none (First one arms ∷ xs) h = let e = one_more (First one arms) xs in ap (more (First one arms)) (cut-none xs (omega arith))
  cut-none (Then one t k ∷ xs) h = let e = one_more (Then one t k) xs in ap (more (Then one t k)) (cut-none xs (omega arith))

  pub width-other : (t : Tree I O K) → NotCat t → width t ≡ 1
  width-other (Item i) h = refl
  width-other (Open o) h = refl
  width-other (Cat ts) h = absurd h
  width-other (First one arms) h = refl
  width-other (Then one t k) h = refl

  pub parts-other : (t : Tree I O K) → NotCat t → parts t ≡ more t none
  parts-other (Item i) h = refl
  parts-other (Open o) h = refl
  parts-other (Cat ts) h = absurd h
  parts-other (First one arms) h = refl
  parts-other (Then one t k) h = refl

  pub not_cat : (s : Shape I O K) → ((kids : Vec (Tree I O K) Global) → s ≡ S.Cat kids → ⊥) → NotCat (tree_of s)
  not_cat (S.Item i) h = tt
  not_cat (S.Open o) h = tt
  not_cat (S.Cat kids) h = h kids refl
  not_cat (S.First one arms) h = tt
  not_cat (S.Then one t k) h = tt

  -- the next child of a loop
  pub next_kid : (xs : List (Tree I O K)) (i : ℕ) (t new : Tree I O K) → i < length xs → t ≡ get_or xs i t → drop i xs ≡ t ∷ drop (i + 1) (set xs i new)
  next_kid xs i t new h e = drop_more xs i t h ∙ λ j. sym e j ∷ sym (drop-set-lt (i + 1) xs i new (omega arith)) j

  -- one more child is spliced in
  pub flat_next : (out : Trees I O K) (xs ys : List (Tree I O K)) (t : Tree I O K) (all : Trees I O K) → xs ≡ t ∷ ys → join out (flat (trees xs)) ≡ all
      → join (join out (parts t)) (flat (trees ys)) ≡ all
  flat_next out xs ys t all e h = join-assoc out (parts t) (flat (trees ys)) ∙ ap (join out) (sym (flat-more t (trees ys)) ∙ ap (λ l. flat (trees l)) (sym e)) ∙ h

  pub with_children-none : (ts : List (Tree I O K)) → with_children ts [] ≡ ts
  with_children-none [] = refl
  with_children-none (t ∷ ts) = refl

  -- the last child is put under its continuation
  pub with_children-last : (ts us : List (Tree I O K)) (u d : Tree I O K) → length us < length ts
      → with_children (set ts (length us) (with_child (get_or ts (length us) d) u)) us ≡ with_children ts (us ++ u ∷ [])
  with_children-last [] us u d h = absurd (omega arith)
  with_children-last (t ∷ ts) [] u d h = ap (λ l. with_child t u ∷ l) (sym (with_children-none ts))
  with_children-last (t ∷ ts) (v ∷ us) u d h = ap (λ l. with_child t v ∷ l) (with_children-last ts us u d (omega arith))

  -- under the shells of one continuation
  pub with_shells : (k : K) (us : List (Tree I O K)) → trees (with_children (replicate (length us) (Then false (Cat none) k)) us) ≡ pushed k (trees us)
  with_shells k [] = refl
  with_shells k (u ∷ us) = ap (more (Then false u k)) (with_shells k us)

-- where there is no value, the first fact holds
pub none_case : {X : Type 0} (r : Option X) (P : Type 0) (Q : X → Type 0) → MatchOption r P Q → ((x : X) → r ≡ Some x → ⊥) → P
none_case (Some x) P Q m h = absurd (h x refl)
none_case None P Q m h = m

pub filled : {I O K : Type 0} (k : K) (us all fin : List (Tree I O K)) (n : ℕ) → fin ≡ with_children all us → all ≡ replicate n (Then false (Cat none) k) → n ≡ length us
    → trees fin ≡ pushed k (trees us)
filled k us all fin n e f h =
    ap trees (e ∙ ap (λ ts. with_children ts us) (f ∙ ap (λ m. replicate m (Then false (Cat none) k)) h)) ∙ with_shells k us

pub on_ok_more : {X E A B : Type 0} (r : Result X E) → (A → B) → OnOk r A → OnOk r B
on_ok_more (Ok x) f h = f h
on_ok_more (Err e) f h = tt

pub not_empty : {I O K : Type 0} (xs : List (Tree I O K)) (n : ℕ) → n ≡ length xs → n ≢ 0 → NotEmpty (Cat (trees xs))
not_empty [] n e h = absurd (h e)
not_empty (x ∷ xs) n e h = tt

pub no_trees : {I O K : Type 0} (xs : List (Tree I O K)) (n : ℕ) → n ≡ length xs → n ≡ 0 → trees xs ≡ none
no_trees [] n e h = refl
no_trees (x ∷ xs) n e h = absurd (omega arith)

pub is_zero : (n : ℕ) → true ≡ (n == 0) → n ≡ 0
is_zero n h = grind (arith, nat_tests)

pub not_zero : (n : ℕ) → false ≡ (n == 0) → n ≢ 0
not_zero n h = grind (arith, nat_tests)
