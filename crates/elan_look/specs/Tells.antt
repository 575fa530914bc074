-- What a bound tells.
use Rattle.std.specs.Prelude.{◌≡◌, ℕ, pos, Bool, Option, Some, None, List, IsTrue, IsFalse}
use Rattle.std.specs.List.{AllZip}
use Rattle.boxcar.specs.Table.{Where}
use Rattle.elan_terms.specs.declared.tree.OpId.{OpId}
use Rattle.elan_terms.specs.declared.tree.SortId.{SortId}
use Rattle.elan_terms.specs.declared.tree.Term.{Term}
use Rattle.elan_terms.specs.declared.tree.Pattern.{Pattern}
use Rattle.elan_terms.specs.declared.tree.Shapes.{Shapes}
use Rattle.elan_terms.specs.Trees.{int_term, app_term}
use Rattle.elan_terms.specs.Match.{instance}
use Rattle.elan_terms.specs.Valid.{HasSort}
use Rattle.elan_terms.specs.Ascending.{NotAfter}
use Rattle.elan_arms.specs.Arms.{app_pattern}
use Rattle.elan_arms.specs.Values.{IsProper}
use Rattle.elan_shares.specs.Shares.{After}
use Rattle.elan_look.specs.declared.low.Low.{Low}
use Rattle.elan_look.specs.declared.low.Low.TheVariants.{Empty, Any, At}
use Rattle.elan_look.specs.declared.sight.Sight.{Sight}
use Rattle.elan_look.specs.Lows.{is_empty, is_any}
use Rattle.elan_look.specs.Sights.{value_at}

-- ---- values

-- the sought variable may have this value: it is of the variable's sort and comes after the floor
abbrev pub Takes : Shapes → Option (ℕ × SortId) → Option (Where Term) → Term → Type 0
Takes shapes None floor u = ⊥
Takes shapes (Some v) floor u = HasSort shapes u v.1 × After floor u

-- the sought variable, if there is one, has a value that it may have
abbrev pub HasAfter : Shapes → Option (ℕ × SortId) → Option (Where Term) → (ℕ → Term) → Type 0
HasAfter shapes None floor value = Unit {0}
HasAfter shapes (Some v) floor value = HasSort shapes (value v.0) v.1 × After floor (value v.0)

-- the value of the sought variable; the integer 0 where no variable is sought
abbrev pub sought_value : Option (ℕ × SortId) → (ℕ → Term) → Term
sought_value None value = int_term (pos 0)
sought_value (Some v) value = value v.0

module _ {N : Type 0} where
  -- variables whose values are known have these
  abbrev pub Knows : Sight N → (ℕ → Term) → Type 0
  Knows s value = (x : ℕ) (row : Where Term) → value_at s x ≡ Some row → value x ≡ row.value

  -- all values are valid and canonical; those that are known are these; the sought variable has one that it may have
  pub record Agrees (shapes : Shapes) (s : Sight N) (value : ℕ → Term) : Type 0 where
    pub proper : (x : ℕ) → IsProper shapes (value x)
    pub known : Knows s value
    pub sought : HasAfter shapes s.sought s.floor value

  -- ---- bounds

  -- the value is within the bound
  abbrev pub Allows : Low N → Term → Type 0
  Allows Empty u = ⊥
  Allows Any u = Unit {0}
  Allows (At row) u = NotAfter row.value u

  -- a term that bounds is one that the sought variable may have
  abbrev pub IsTaken : Shapes → Sight N → Low N → Type 0
  IsTaken shapes s Empty = Unit {0}
  IsTaken shapes s Any = Unit {0}
  IsTaken shapes s (At row) = Takes shapes s.sought s.floor row.value

  -- Of values with which a fact holds, that of the sought variable is within the bound. Where all values that the fact
  -- speaks of are given, the fact holds with them, unless the bound says that there is nothing.
  pub record Tells (shapes : Shapes) (s : Sight N) (given : Bool) (Fact : (ℕ → Term) → Type 0) (low : Low N) : Type 0 where
    pub prunes : (value : ℕ → Term) → Agrees shapes s value → Fact value → Allows low (sought_value s.sought value)
    pub taken : IsTaken shapes s low
    pub exact : IsTrue given → (value : ℕ → Term) → Knows s value → IsFalse (is_empty low) → Fact value

  -- where the sought variable is there, something is known
  abbrev pub SaysIf : Bool → Low N → Type 0
  SaysIf there low = IsTrue there → IsFalse (is_any low)

-- ---- facts

-- the variable of this number has this value
unfoldable pub Has : ℕ → Term → (ℕ → Term) → Type 0
Has x t value = value x ≡ t

-- the pattern is the term
unfoldable pub Makes : Shapes → Pattern → Term → (ℕ → Term) → Type 0
Makes shapes p t value = instance shapes value p ≡ t

-- each of the patterns is the term beside it, and there are as many of both
unfoldable pub MakeEach : Shapes → List Pattern → List Term → (ℕ → Term) → Type 0
MakeEach shapes ps ts value = AllZip (λ p t. instance shapes value p ≡ t) ps ts

-- the operator over the patterns is the operator over the terms
unfoldable pub MakeNode : Shapes → OpId → List Pattern → List Term → (ℕ → Term) → Type 0
MakeNode shapes op ps ts value = instance shapes value (app_pattern op ps) ≡ app_term op ts
