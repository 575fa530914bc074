-- The rule of one deque.
use Rattle.std.specs.Prelude.{◌≡◌, ℕ, ◌+◌, ◌-◌, List, [], ◌∷◌, ◌++◌}
use mathlib.Core.Option.{some}
use lib.ListN.{get_elem?}
use Rattle.boxcar.specs.Table.{Where}
use Rattle.elan_pool.specs.declared.rule.Tally.{Tally}

-- what a pass knows: its parts, the numbers of the spots that it put, and of those that it took
abbrev pub tally : ℕ → List ℕ → List ℕ → Tally
tally parts put taken = record { parts = parts; put = put; taken = taken }

-- one spot more was put
abbrev pub with_put : Tally → ℕ → Tally
with_put v number = tally v.parts (v.put ++ number ∷ []) v.taken

-- one spot more was taken
abbrev pub with_taken : Tally → ℕ → Tally
with_taken v number = tally v.parts v.put (v.taken ++ number ∷ [])

-- one part less
abbrev pub with_less : Tally → Tally
with_less v = tally (v.parts - 1) v.put v.taken

-- what two passes know together
abbrev pub joined : Tally → Tally → Tally
joined v w = tally (v.parts + w.parts) (v.put ++ w.put) (v.taken ++ w.taken)

-- the numbers of spots
abbrev pub numbers : {B : Type 0} → List (Where B) → List ℕ
numbers [] = []
numbers (s ∷ ss) = s.index ∷ numbers ss

-- the weights of the numbers, added up
abbrev pub weigh : (ℕ → ℕ) → List ℕ → ℕ
weigh h [] = 0
weigh h (x ∷ xs) = h x + weigh h xs

-- each number stands in one list as often as in the other: they weigh the same, however the numbers are weighed
abbrev pub SameSpots : List ℕ → List ℕ → Type 0
SameSpots xs ys = (h : ℕ → ℕ) → weigh h xs ≡ weigh h ys

-- an amount of each pass, added up
abbrev pub total : (Tally → ℕ) → List Tally → ℕ
total f [] = 0
total f (v ∷ vs) = f v + total f vs

-- a pass with no part has put and taken nothing
abbrev pub Idle : Tally → Type 0
Idle v = v.parts ≡ 0 → (v.put ≡ []) × (v.taken ≡ [])

-- what was put is what was taken and what the deque holds, however the spots are weighed
abbrev pub Balanced : {B : Type 0} → List (Where B) → List Tally → Type 0
Balanced items views =
    (total (λ v. v.parts) views ≡ 256)
    × ((h : ℕ → ℕ)
    → total (λ v. weigh h v.put) views ≡ total (λ v. weigh h v.taken) views + weigh h (numbers items))
    × ((port : ℕ) (v : Tally) → get_elem? views port ≡ some v → Idle v)

-- with what was left before, what a pass put is what it took with what is left now, each spot as often
abbrev pub DrainsTo : {B : Type 0} → List (Where B) → Tally → List (Where B) → Type 0
DrainsTo old v new =
    (h : ℕ → ℕ) → weigh h (numbers old) + weigh h v.put ≡ weigh h v.taken + weigh h (numbers new)
