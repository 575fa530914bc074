-- Where injections lead.
use Rattle.std.specs.Prelude.{ℕ, ◌<◌, List}
use Rattle.std.specs.List.{Contains, All}

-- from one sort to another by one injection, or by one injection to a sort from which others lead on
pub data Leads (injections : List (ℕ × ℕ)) : ℕ → ℕ → Type 0 where
  at_once : {s t : ℕ} → Contains injections (s, t) → Leads injections s t
  further : {s t u : ℕ} → Contains injections (s, t) → Leads injections t u → Leads injections s u

-- no sort leads back to itself
abbrev pub HasNoCycle : List (ℕ × ℕ) → Type 0
HasNoCycle injections = (s : ℕ) → Leads injections s s → ⊥

-- each injection leads from one of so many sorts
abbrev pub BeginAmong : ℕ → List (ℕ × ℕ) → Type 0
BeginAmong count = All (λ i. i.0 < count)
