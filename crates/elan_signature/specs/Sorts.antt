-- The sorts of a program in the order of their first declaration.
use Rattle.std.specs.Prelude.{ℕ, Option, Some, None, List, [], ◌∷◌, slice_get, codes}
use Rattle.elan_text.specs.declared.name.Name.{Name}
use Rattle.elan_numbers.specs.Numbering.{with_name}
use Rattle.elan_phrases.specs.declared.span.Span.{Span}
use Rattle.elan_syntax.specs.declared.parts.ModuleOutline.{ModuleOutline}
use Rattle.elan_syntax.specs.declared.parts.Section.{Section}
use Rattle.elan_syntax.specs.declared.parts.Section.TheVariants as section
use Rattle.elan_modules.specs.declared.flat.Instance.{Instance}
use Rattle.elan_modules.specs.declared.flat.LoadedText.{LoadedText}
use Rattle.elan_modules.specs.declared.flat.Origin.{Origin}
use Rattle.elan_modules.specs.declared.flat.Origin.TheVariants as origin
use Rattle.elan_modules.specs.declared.flat.Standard.{Standard}
use Rattle.elan_modules.specs.declared.flat.Standard.TheVariants as standard
use Rattle.elan_modules.specs.Sorts.{written}
use Rattle.elan_modules.specs.Modules.{parameters_of}

-- the sort of a built-in module, which for `eq` is none
abbrev pub with_built_in : List Name → Standard → List Name
with_built_in known standard.Bool = with_name known (codes "bool")
with_built_in known standard.Int = with_name known (codes "int")
with_built_in known standard.Eq = known

-- a module's text with the sorts that stand for its parameters
module _ (text : LoadedText) (parameters args : List Name) where
  -- the sorts of these sort expressions
  abbrev pub with_spans : List Name → List Span → List Name
  with_spans known [] = known
  with_spans known (s ∷ ss) = with_spans (with_name known (written text parameters args s)) ss

  -- the sorts that a section declares
  abbrev pub with_section : List Name → Section → List Name
  with_section known (section.Imports references) = known
  with_section known (section.Sorts spans) = with_spans known spans
  with_section known (section.Operators operators) = known
  with_section known (section.Rules sort vars rules) = known
  with_section known (section.Strategies sort definitions) = known

  -- the sorts that sections declare
  abbrev pub with_sections : List Name → List Section → List Name
  with_sections known [] = known
  with_sections known (s ∷ ss) = with_sections (with_section known s) ss

-- the sorts that a module of a text declares
abbrev pub with_module : LoadedText → List Name → List Name → Option ModuleOutline → List Name
with_module text args known None = known
with_module text args known (Some outline) =
    with_sections text (parameters_of text outline.parameters) args known outline.sections

-- the same for the module of this number
abbrev pub with_text : List Name → ℕ → List Name → Option LoadedText → List Name
with_text args number known None = known
with_text args number known (Some text) = with_module text args known (slice_get text.modules number)

-- the sorts that an instance declares
abbrev pub with_origin : List LoadedText → List Name → Instance → Origin → List Name
with_origin texts known i (origin.Builtin built_in) = with_built_in known built_in
with_origin texts known i (origin.Text text «module») = with_text i.args «module» known (slice_get texts text)

-- the sorts that instances declare, behind those that are known
abbrev pub with_instances : List LoadedText → List Name → List Instance → List Name
with_instances texts known [] = known
with_instances texts known (i ∷ is) = with_instances texts (with_origin texts known i i.origin) is

-- the sorts of the built-in modules among these instances
abbrev pub with_built_ins : List Name → List Instance → List Name
with_built_ins known [] = known
with_built_ins known (i ∷ is) = with_built_ins (of_origin known i.origin) is
  where
    of_origin : List Name → Origin → List Name
    of_origin known (origin.Builtin built_in) = with_built_in known built_in
    of_origin known (origin.Text text «module») = known
