-- Strategies whose parameters are read in the actuals of calls.
use Rattle.std.specs.Prelude.{ℕ, suc, List, map}
use Rattle.elan_program.specs.declared.strategy.Strategy.{Strategy}
use Rattle.elan_program.specs.Strategies.{with_actuals}
use Rattle.elan_plain.specs.declared.closures.Actuals.{Actuals}
use Rattle.elan_plain.specs.declared.closures.Actuals.TheVariants as actuals
use Rattle.elan_plain.specs.declared.closures.Closure.{Closure}

-- a strategy in which each parameter is replaced by its actual, whose own parameters are replaced by theirs
abbrev pub closed : Actuals → Strategy → Strategy
closed actuals.Absent s = s
closed (actuals.Given' given pointer read_in) s = with_actuals (map (closed read_in) given.now) s

-- how many calls the actuals lead through
abbrev pub calls : Actuals → ℕ
calls actuals.Absent = 0
calls (actuals.Given' given pointer read_in) = suc (calls read_in)

-- the strategy that a closure stands for
abbrev pub meant : Closure → Strategy
meant c = closed c.actuals.now c.strategy.now
