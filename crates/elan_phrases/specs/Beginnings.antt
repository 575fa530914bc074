-- With which symbols the parts of a text begin.
use Rattle.std.specs.Prelude.{Bool, ◌||◌}
use Rattle.elan_phrases.specs.declared.symbol.Symbol.{Symbol}
use Rattle.elan_phrases.specs.declared.symbol.Symbol.TheVariants.{Import, Sort, Operators, Rules, Strategies, Where, If, Dk, Repeat, Iterate, Normalise, Implicit, Comma, LeftRound, LeftSquare}
use Rattle.elan_phrases.specs.Symbols.{one, names, labels, plain_steps, choices, visibilities, spelled}

-- a step of a strategy
abbrev pub begins_step : Symbol → Bool
begins_step s =
    plain_steps s
    || (labels s
    || (one LeftRound s || (one Dk s || (choices s || (one Repeat s || (one Iterate s || one Normalise s))))))

-- another name of a list, which may have a comma before it
abbrev pub begins_another_name : Symbol → Bool
begins_another_name s = one Comma s || names s

-- references and their `;`, `global` and `local` before them
abbrev pub begins_imported : Symbol → Bool
begins_imported s = visibilities s || names s

-- a declaration of an operator, `global` or `local`
abbrev pub begins_declared : Symbol → Bool
begins_declared s = visibilities s || spelled s

-- a rule, `global` or `local`
abbrev pub begins_ruled : Symbol → Bool
begins_ruled s = visibilities s || one LeftSquare s

-- a clause of a rule
abbrev pub begins_clause : Symbol → Bool
begins_clause s = one Where s || one If s

-- a mark of a section of strategies: `global`, `local` or `implicit`
abbrev pub begins_mark : Symbol → Bool
begins_mark s = visibilities s || one Implicit s

-- a definition of a strategy, or such a mark
abbrev pub begins_defined : Symbol → Bool
begins_defined s = begins_mark s || one LeftSquare s

-- a section of a module
abbrev pub begins_section : Symbol → Bool
begins_section s =
    one Import s || (one Sort s || (one Operators s || (one Rules s || one Strategies s)))
