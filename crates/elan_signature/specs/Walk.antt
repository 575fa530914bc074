-- The walk through the instances, which ends at the first refusal.
use Rattle.std.specs.Prelude.{ℕ, Bool, true, cond, nat_lt, Option, Some, None, Result, Ok, List, [], ◌∷◌, ◌++◌, map, length, slice_get}
use Rattle.elan_text.specs.declared.refusal.Code.TheVariants.{E14}
use Rattle.elan_text.specs.declared.refusal.Refusal.{Refusal}
use Rattle.elan_phrases.specs.declared.span.Span.{Span}
use Rattle.elan_syntax.specs.declared.parts.LplOutline.{LplOutline}
use Rattle.elan_syntax.specs.declared.parts.ModuleOutline.{ModuleOutline}
use Rattle.elan_syntax.specs.declared.parts.OpDecl.{OpDecl}
use Rattle.elan_syntax.specs.declared.parts.Section.{Section}
use Rattle.elan_syntax.specs.declared.parts.Section.TheVariants as section
use Rattle.elan_syntax.specs.declared.parts.Vars.{Vars}
use Rattle.elan_modules.specs.declared.flat.Flat.{Flat}
use Rattle.elan_modules.specs.declared.flat.Instance.{Instance}
use Rattle.elan_modules.specs.declared.flat.LoadedText.{LoadedText}
use Rattle.elan_modules.specs.declared.flat.Origin.{Origin}
use Rattle.elan_modules.specs.declared.flat.Origin.TheVariants as origin
use Rattle.elan_modules.specs.Modules.{parameters_of}
use Rattle.elan_modules.specs.Sorts.{argument_spans, place_at}
use Rattle.elan_program.specs.declared.signature.Operator.{Operator}
use Rattle.elan_program.specs.Soundness.{leads}
use Rattle.elan_signature.specs.declared.done.Done.{Done}
use Rattle.elan_signature.specs.declared.done.Injection.{Injection}
use Rattle.elan_signature.specs.Outcomes.{next, Checked}
use Rattle.elan_numbers.specs.Numbering.{number_of}
use Rattle.elan_signature.specs.Declarations.{Scope, World, scope_of, sort_text, sort_at, operator_at, refused, most}

-- ---- sort expressions

-- each of these names a declared sort
unfoldable pub look_all : Scope → List Span → Checked
look_all c [] = Ok tt
look_all c (s ∷ ss) = next (sort_at c s) (λ n. look_all c ss)

-- so does each argument of these references
unfoldable pub look_arguments : Scope → List Span → Checked
look_arguments c [] = Ok tt
look_arguments c (r ∷ rs) = next (look_all c (argument_spans c.text r)) (λ v. look_arguments c rs)

-- so does the sort of each of these variables
unfoldable pub look_variables : Scope → List Vars → Checked
look_variables c [] = Ok tt
look_variables c (v ∷ vs) = next (sort_at c v.sort) (λ n. look_variables c vs)

-- whether a number is one of the first so many; a sort that is declared has a number
abbrev pub is_one_of : ℕ → Option ℕ → Bool
is_one_of count None = true
is_one_of count (Some n) = nat_lt n count

-- no declared sort is one too many
unfoldable pub count_sorts : Scope → List Span → Checked
count_sorts c [] = Ok tt
count_sorts c (s ∷ ss) =
    cond (is_one_of most (number_of (sort_text c s) c.counted)) (count_sorts c ss) (refused c E14 s.first)

-- ---- operators

-- an injection, where it leads and where it is declared
abbrev pub injection_at : Scope → Span → ℕ × ℕ → Injection
injection_at c spelling lead = record {
  from = record { 0 = lead.0 };
  to = record { 0 = lead.1 };
  at = place_at c.text spelling.first;
  «module» = c.text.«module»;
}

-- what was done, and this operator
abbrev pub with_declared : Scope → Span → Done → Operator → Done
with_declared c spelling done o = record {
  operators = done.operators ++ o ∷ [];
  injections = done.injections ++ map (injection_at c spelling) (leads o.pieces o.args o.sort);
}

-- the operator of a declaration, behind those before it
abbrev pub with_operator : Scope → Done → OpDecl → Result Done Refusal
with_operator c done d = next (operator_at c (length done.operators) d) (λ o. Ok (with_declared c d.spelling done o))

-- the operators of these declarations
unfoldable pub with_operators : Scope → Done → List OpDecl → Result Done Refusal
with_operators c done [] = Ok done
with_operators c done (d ∷ ds) = next (with_operator c done d) (λ further. with_operators c further ds)

-- ---- sections, instances and the `LPL` text

-- the sort of a section of rules and those of its variables
abbrev pub look_rules : Scope → Span → List Vars → Checked
look_rules c sort vars = next (sort_at c sort) (λ n. look_variables c vars)

-- the sort of a section of strategies
abbrev pub look_strategies : Scope → Span → Checked
look_strategies c sort = next (sort_at c sort) (λ n. Ok tt)

-- the walk goes on from here, where nothing is wrong
abbrev pub then_still : Done → Checked → Result Done Refusal
then_still done checked = next checked (λ v. Ok done)

-- a section
unfoldable pub with_section : Scope → Done → Section → Result Done Refusal
with_section c done (section.Imports references) = then_still done (look_arguments c references)
with_section c done (section.Sorts spans) = then_still done (count_sorts c spans)
with_section c done (section.Operators operators) = with_operators c done operators
with_section c done (section.Rules sort vars rules) = then_still done (look_rules c sort vars)
with_section c done (section.Strategies sort definitions) = then_still done (look_strategies c sort)

-- sections one after the other
unfoldable pub with_sections : Scope → Done → List Section → Result Done Refusal
with_sections c done [] = Ok done
with_sections c done (s ∷ ss) = next (with_section c done s) (λ further. with_sections c further ss)

-- a module of a text
abbrev pub with_module : World → Instance → Done → LoadedText → Option ModuleOutline → Result Done Refusal
with_module w i done text None = Ok done
with_module w i done text (Some outline) =
    with_sections (scope_of w text (parameters_of text outline.parameters) i.args) done outline.sections

-- the module of this number
abbrev pub with_text : World → Instance → Done → ℕ → Option LoadedText → Result Done Refusal
with_text w i done number None = Ok done
with_text w i done number (Some text) = with_module w i done text (slice_get text.modules number)

-- an instance; a built-in one has no text
abbrev pub with_origin : World → Instance → Done → Origin → Result Done Refusal
with_origin w i done (origin.Builtin built_in) = Ok done
with_origin w i done (origin.Text text «module») = with_text w i done «module» (slice_get w.texts text)

-- instances one after the other
unfoldable pub with_instances : World → Done → List Instance → Result Done Refusal
with_instances w done [] = Ok done
with_instances w done (i ∷ is) = next (with_origin w i done i.origin) (λ further. with_instances w further is)

-- the sorts of the `LPL` text
unfoldable pub look_lpl : Scope → LplOutline → Checked
look_lpl c lpl =
    next (sort_at c lpl.query_sort) (λ n. next (sort_at c lpl.result_sort) (λ m. look_arguments c lpl.imports))

-- the `LPL` text, which stands in the first text and has no parameters
abbrev pub look_stream : World → LplOutline → Option LoadedText → Checked
look_stream w lpl None = Ok tt
look_stream w lpl (Some text) = look_lpl (scope_of w text [] []) lpl

-- the walk through the instances and the `LPL` text
unfoldable pub walked : Flat → World → Done → Result Done Refusal
walked f w done =
    next (with_instances w done f.instances) (λ further. then_still further (look_stream w f.lpl (slice_get w.texts 0)))
