-- In which ranges the numbers of options stand.
use Rattle.std.specs.Prelude.{ℕ, ◌≤◌, Bool, Option, Some, None}
use Rattle.elan_cli.specs.Settings.{most}
use Rattle.elan_cli.specs.declared.given.Options.{Options}
use Rattle.elan_cli.specs.declared.setting.Setting.TheVariants.{Workers, Limit, Steps, Demo}

-- the number is at least 1 and at most this
abbrev pub IsWithin : ℕ → ℕ → Type 0
IsWithin greatest n = (1 ≤ n) × (n ≤ greatest)

-- so is the number, if there is one
abbrev pub IsNoneOrWithin : ℕ → Option ℕ → Type 0
IsNoneOrWithin greatest None = Unit {0}
IsNoneOrWithin greatest (Some n) = IsWithin greatest n

-- each number of the options stands in the range of its option
pub record AreInRange (plain : Bool) (o : Options) : Type 0 where
  pub workers : IsWithin (most plain Workers) o.workers
  pub limit : IsWithin (most plain Limit) o.limit
  pub steps : IsWithin (most plain Steps) o.steps
  pub demo : IsNoneOrWithin (most plain Demo) o.demo
