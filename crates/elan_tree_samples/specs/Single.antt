-- The toy branch of the test: a number, a table that gives each number its growth, and the list that the table defines.
use Rattle.std.specs.Prelude.{ℕ, List, [], ◌∷◌, ◌==◌, if◌then◌else◌}
use Rattle.elan_tree.specs.Sense.{Sense}

-- 0 keeps one item of 1 or else of 2, 1 is 3 and 4, and each other number is an item
abbrev pub toy_items : ℕ → List ℕ
toy_items n = if n == 0 then 3 ∷ [] else (if n == 1 then 3 ∷ 4 ∷ [] else n ∷ [])

-- an item is its number, a continuation keeps it, and all is of one kin
abbrev pub toy_sense : {B : Type 0} → (B → ℕ) → Sense B ℕ ℕ ℕ
toy_sense number = record { means = λ i. i; items = λ b. toy_items (number b); after = λ _ i. i ∷ []; kin = λ _. 0; kin_of_item = λ _. 0; kin_of_then = λ _. 0 }
