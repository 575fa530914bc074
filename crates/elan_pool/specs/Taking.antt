-- What the ends of a seat take, by deque, and how often they found nothing.
use Rattle.std.specs.Prelude.{◌≡◌, ◌≢◌, ℕ, ◌<◌, ◌≤◌, ◌-◌, ◌^◌, ◌⊎◌, List, [], ◌∷◌, ◌++◌}

-- the lists of taken spots stay
abbrev pub Same : (ℕ → List ℕ) → (ℕ → List ℕ) → Type 0
Same old new = (d : ℕ) → new d ≡ old d

-- one spot joins the list of one deque
abbrev pub Took : ℕ → ℕ → (ℕ → List ℕ) → (ℕ → List ℕ) → Type 0
Took deque number old new =
    (new deque ≡ old deque ++ number ∷ []) × ((d : ℕ) → d ≢ deque → new d ≡ old d)

-- a count of 64 bits rose, or stands at its end
abbrev pub Rose : ℕ → ℕ → Type 0
Rose old new = (old < new) ⊎ (new ≡ 2 ^ 64 - 1)

-- the misses of no other deque change, and those of this one do not fall
abbrev pub Misses : ℕ → (ℕ → ℕ) → (ℕ → ℕ) → Type 0
Misses deque old new = (old deque ≤ new deque) × ((d : ℕ) → d ≢ deque → new d ≡ old d)

-- no count of misses falls
abbrev pub NoFall : (ℕ → ℕ) → (ℕ → ℕ) → Type 0
NoFall old new = (d : ℕ) → old d ≤ new d

-- which deques are looked at before one of the others: the own one, and those of a lesser number
abbrev pub IsBefore : ℕ → ℕ → ℕ → Type 0
IsBefore own deque d = (deque ≢ own) × ((d ≡ own) ⊎ (d < deque))

-- a spot was taken from one of so many deques, and each that is looked at before that one gave nothing
abbrev pub Found : ℕ → ℕ → ℕ → (ℕ → List ℕ) → (ℕ → List ℕ) → (ℕ → ℕ) → (ℕ → ℕ) → Type 0
Found count own number taken taken' missed missed' =
    (deque : ℕ)
    × (deque < count)
    × Took deque number taken taken'
    × ((d : ℕ) → IsBefore own deque d → Rose (missed d) (missed' d))

-- nothing was taken, and each of so many deques gave nothing
abbrev pub FoundNone : ℕ → (ℕ → List ℕ) → (ℕ → List ℕ) → (ℕ → ℕ) → (ℕ → ℕ) → Type 0
FoundNone count taken taken' missed missed' =
    Same taken taken'
    × ((d : ℕ) → d < count → Rose (missed d) (missed' d))
