-- The first injection on a cycle, by its number and as it is.
use Rattle.std.proofs.Common.{◌≡◌, refl, sym, ap, ◌∙◌, ℕ, suc, ◌≤◌, ◌+◌, Bool, true, false, not, cond, nat_lt, Option, Some, None, List, [], ◌∷◌, map, length, slice_get, arith}
use Rattle.std.specs.List.{find, position, position_or_len}
use Rattle.std.proofs.lemmas.Bool.{ltb-false}
use Rattle.std.proofs.lemmas.List.{length-map}
use Rattle.std.proofs.lemmas.Option.{slice_get_past}
use Rattle.elan_cycles.specs.declared.edge.Edge.{Edge}
use Rattle.elan_cycles.specs.Search.{comes_back, first_on_cycle as number_on_cycle}
use Rattle.elan_signature.specs.declared.done.Injection.{Injection}
use Rattle.elan_signature.specs.Cycles.{edge_of, element_at, first_on_cycle}

module _ {A B : Type 0} (h : A → B) (test : B → Bool) where
  at_place : (xs : List A) → slice_get xs (position_or_len test (map h xs)) ≡ find (λ x. test (h x)) xs
  at_place [] = refl
  at_place (x ∷ xs) = by_case (test (h x)) (at_place xs)
    where
      by_case : (b : Bool) → slice_get xs (position_or_len test (map h xs)) ≡ find (λ x. test (h x)) xs
          → slice_get (x ∷ xs) (cond (not b) (1 + position_or_len test (map h xs)) 0) ≡ cond b (Some x) (find (λ x. test (h x)) xs)
      by_case true e = refl
      by_case false e =
          let n = position_or_len test (map h xs) in
          let next : 1 + n ≡ suc n = omega arith in
          ap (slice_get (x ∷ xs)) next ∙ e

  at_number : (xs : List A) (n : ℕ) (b : Bool) → nat_lt n (length (map h xs)) ≡ b → element_at xs (cond b (Some n) None) ≡ slice_get xs n
  at_number xs n true is = refl
  at_number xs n false is =
      let long : length xs ≤ n = let past = ltb-false n (length (map h xs)) is in let same = length-map xs h in omega (arith, past, same) in
      sym (slice_get_past xs n long)

  pub element-position : (xs : List A) → element_at xs (position test (map h xs)) ≡ find (λ x. test (h x)) xs
  element-position xs = at_number xs (position_or_len test (map h xs)) _ refl ∙ at_place xs

-- the injection of the first number is the first one on a cycle
pub first-element : (all : List Injection) → element_at all (number_on_cycle (map edge_of all)) ≡ first_on_cycle all
first-element all = element-position edge_of (comes_back (map edge_of all)) all

-- the same for edges that are those of the injections
pub number_element : (all : List Injection) (edges : List Edge) (number : Option ℕ) → edges ≡ map edge_of all
    → number ≡ number_on_cycle edges → element_at all number ≡ first_on_cycle all
number_element all edges number is e = ap (element_at all) (e ∙ ap number_on_cycle is) ∙ first-element all
