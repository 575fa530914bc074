-- In which order the instances of a flat program stand: each one once, behind those that it imports.
use Rattle.std.specs.Prelude.{◌≡◌, true, false, List, [], ◌∷◌, ◌++◌, Option, None, Some}
use Rattle.std.specs.List.{All, list_any}
use Rattle.elan_lexer.specs.Places.{first_place}
use Rattle.elan_syntax.specs.declared.parts.ModuleOutline.{ModuleOutline}
use Rattle.elan_modules.specs.declared.flat.LoadedText.{LoadedText}
use Rattle.elan_modules.specs.declared.flat.Origin.{Origin}
use Rattle.elan_modules.specs.declared.flat.Origin.TheVariants.{Builtin, Text}
use Rattle.elan_modules.specs.declared.flat.Instance.{Instance}
use Rattle.elan_modules.specs.declared.flat.Flat.{Flat}
use Rattle.elan_modules.specs.declared.walk.Reference.{Reference}
use Rattle.elan_modules.specs.Modules.{parameters_of, imports_of, standard_imports}
use Rattle.elan_modules.specs.Fitting.{module_at}
use Rattle.elan_modules.specs.Visits.{is_instance}

-- a reference to the instance
abbrev pub reference_to : Instance → Reference
reference_to i = record { name = i.name; args = i.args; at = first_place; «module» = None }

-- what a module of a text imports, with the sorts of the instance in place of its parameters; nothing without a module
abbrev pub imports_in : Instance → Option (LoadedText × ModuleOutline) → List Reference
imports_in i None = []
imports_in i (Some at) = imports_of at.0 (parameters_of at.0 at.1.parameters) i.args at.1.sections

-- what an instance of this origin imports
abbrev pub imports_by : List LoadedText → Instance → Origin → List Reference
imports_by texts i (Builtin built_in) = standard_imports built_in (reference_to i)
imports_by texts i (Text text_number module_number) = imports_in i (module_at texts (Text text_number module_number))

-- the instance that a reference names is one of these
abbrev pub IsAmong : List Instance → Reference → Type 0
IsAmong instances r = list_any (is_instance r) instances ≡ true

-- Instances in order, behind these: none of them was there before it, and each one that it imports was.
abbrev pub AreOrdered : List LoadedText → List Instance → List Instance → Type 0
AreOrdered texts before [] = Unit {0}
AreOrdered texts before (i ∷ others) = (list_any (is_instance (reference_to i)) before ≡ false)
    × All (IsAmong before) (imports_by texts i i.origin) × AreOrdered texts (before ++ i ∷ []) others

-- each instance stands once, behind those that it imports
abbrev pub IsOrdered : Flat → Type 0
IsOrdered flat = AreOrdered flat.texts [] flat.instances
