-- What items, branches and continuations mean, and the kin of each.
use Rattle.std.specs.Prelude.{ℕ, List}

-- B, I and K are branches, items and continuations, M is what items mean
pub record Sense (B I K M : Type 0) : Type 0 where
  -- what an item means
  pub means : I → M
  -- the list of a branch
  pub items : B → List M
  -- the list that a continuation makes of an item
  pub after : K → M → List M
  -- the kin of a branch, of an item and of a continuation
  pub kin : B → ℕ
  pub kin_of_item : I → ℕ
  pub kin_of_then : K → ℕ
