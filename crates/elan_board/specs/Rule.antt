-- The rule of the two progress words: word 0 is the greatest number of released items that was told, word 1 sums up cuts.
use Rattle.std.specs.Prelude.{◌≡◌, ℕ, ◌+◌, ◌≤◌, List, [], ◌∷◌, max}
use mathlib.Core.Option.{some}
use lib.ListN.{get_elem?}
use Rattle.atomic_table.specs.Table.{State, Step, Me}
use Rattle.elan_board.specs.declared.words.Look.{Look}

-- a view of the words, by its six numbers
abbrev pub look : ℕ → ℕ → ℕ → ℕ → ℕ → ℕ → Look
look released cuts told added released_loads cuts_loads =
    record { released = released; cuts = cuts; told = told; added = added; released_loads = released_loads; cuts_loads = cuts_loads }

-- neither what a view was shown of the released items, nor what it told of them, passes the word
abbrev pub Bounded : ℕ → Look → Type 0
Bounded word v = (v.released ≤ word) × (v.told ≤ word)

-- no view passes the word, and some view told it; so the word is 0, as it was made, or a number that was told
abbrev pub KeptAt : ℕ → List Look → Type 0
KeptAt word views =
    ((id : ℕ) (v : Look) → get_elem? views id ≡ some v → Bounded word v)
    × ((id : ℕ) × (v : Look) × (get_elem? views id ≡ some v) × (v.told ≡ word))

-- the rule of the words: the first is the greatest number that was told, and of the second, which wraps, nothing is ruled
abbrev pub Kept : State ℕ Look → Type 0
Kept s = (a : ℕ) × (b : ℕ) × (s.words ≡ a ∷ b ∷ []) × KeptAt a s.views

-- a load of the first word finds no less than the view was shown; it is shown that, and counts the load
abbrev pub LoadsReleased : Step ℕ → Me ℕ Look → ℕ → Me ℕ Look → Type 0
LoadsReleased s v n w = (v.0.released ≤ n) × (w ≡ (look n v.0.cuts v.0.told v.0.added (v.0.released_loads + 1) v.0.cuts_loads, v.1))

-- after a load of the second word the view keeps the greatest number that it was shown, and counts the load
abbrev pub LoadsCuts : Step ℕ → Me ℕ Look → ℕ → Me ℕ Look → Type 0
LoadsCuts s v n w = w ≡ (look v.0.released (max v.0.cuts n) v.0.told v.0.added v.0.released_loads (v.0.cuts_loads + 1), v.1)

-- the first word rises to the operand where it is less, and the view keeps its greatest operand
abbrev pub Tells : Step ℕ → Me ℕ Look → ℕ → Me ℕ Look → Type 0
Tells s v n w =
    (v.0.released ≤ max n s.first)
    × (w ≡ (look (max n s.first) v.0.cuts (max v.0.told s.first) v.0.added v.0.released_loads v.0.cuts_loads, v.1))

-- the operand is added to the second word, and the view keeps the sum of its operands
abbrev pub Adds : Step ℕ → Me ℕ Look → ℕ → Me ℕ Look → Type 0
Adds s v n w = w ≡ (look v.0.released v.0.cuts v.0.told (v.0.added + s.first) v.0.released_loads v.0.cuts_loads, v.1)
