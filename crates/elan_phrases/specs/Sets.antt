-- Which symbols are in a set that the grammar speaks of.
use Rattle.std.specs.Prelude.{Bool}
use Rattle.elan_phrases.specs.declared.symbol.Symbol.{Symbol}
use Rattle.elan_phrases.specs.declared.symbol_set.SymbolSet.{SymbolSet}
use Rattle.elan_phrases.specs.declared.symbol_set.SymbolSet.TheVariants.{Names, Labels, Importable, Visibilities, PlainSteps, Choices, Spelled, InText, BeginsStep, BeginsAnotherName, BeginsImported, BeginsDeclared, BeginsRuled, BeginsClause, BeginsMark, BeginsDefined, BeginsSection}
use Rattle.elan_phrases.specs.Symbols.{names, labels, importable, visibilities, plain_steps, choices, spelled, in_text}
use Rattle.elan_phrases.specs.Beginnings.{begins_step, begins_another_name, begins_imported, begins_declared, begins_ruled, begins_clause, begins_mark, begins_defined, begins_section}

-- the symbols of a set
abbrev pub set_of : SymbolSet → Symbol → Bool
set_of Names = names
set_of Labels = labels
set_of (Importable importer) = importable importer
set_of Visibilities = visibilities
set_of PlainSteps = plain_steps
set_of Choices = choices
set_of Spelled = spelled
set_of InText = in_text
set_of BeginsStep = begins_step
set_of BeginsAnotherName = begins_another_name
set_of BeginsImported = begins_imported
set_of BeginsDeclared = begins_declared
set_of BeginsRuled = begins_ruled
set_of BeginsClause = begins_clause
set_of BeginsMark = begins_mark
set_of BeginsDefined = begins_defined
set_of BeginsSection = begins_section
