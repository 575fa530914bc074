-- The toy branch of the tests: a number, a table that gives each number its growth, and the list that the table defines.
use Rattle.std.specs.Prelude.{◌≡◌, ℕ, List, [], ◌∷◌, Bool, ◌==◌, if◌then◌else◌}
use Rattle.elan_tree.specs.Sense.{Sense}
use Rattle.elan_tree.specs.Listing.{cut, each, if_any}
use Rattle.elan_tree.specs.Growths.{growth_list, GrowthKin}
use Rattle.elan_tree.specs.declared.branch.Growth.{Growth}

-- 0 keeps one of 1 and 2, 1 is 3 and 4, 10 is 11 and 12, 20 is 21 or else 22 with each item made anew, 21 is nothing,
-- 22 is 23 and 24, and each other number is an item
abbrev pub toy_items : ℕ → List ℕ
toy_items n =
    if n == 0 then 3 ∷ []
    else (if n == 1 then 3 ∷ 4 ∷ []
    else (if n == 10 then 11 ∷ 12 ∷ []
    else (if n == 20 then 23 ∷ 24 ∷ []
    else (if n == 21 then []
    else (if n == 22 then 23 ∷ 24 ∷ []
    else n ∷ [])))))

-- an item is kept, or the branch of its number is made of it
abbrev pub toy_after : Bool → ℕ → List ℕ
toy_after makes i = if makes then toy_items i else i ∷ []

-- the first of two branches that has an item, with what is made of its items
abbrev pub either_list : Bool → Bool → ℕ → ℕ → List ℕ
either_list one makes first second =
    if_any (toy_items first) (each (toy_after makes) (cut one (toy_items first)))
    (if_any (toy_items second) (each (toy_after makes) (cut one (toy_items second))) [])

module _ {B K : Type 0} (number : B → ℕ) (makes : K → Bool) where
  -- an item is its number, and all is of one kin
  abbrev pub toy_sense : Sense B ℕ K ℕ
  toy_sense = record { means = λ i. i; items = λ b. toy_items (number b); after = λ k i. toy_after (makes k) i; kin = λ _. 0; kin_of_item = λ _. 0; kin_of_then = λ _. 0 }

  -- the growth has this list
  abbrev pub Has : List ℕ → Growth B ℕ K ℕ → Type 0
  Has ms g = (growth_list toy_sense g ≡ ms) × GrowthKin toy_sense 0 g
