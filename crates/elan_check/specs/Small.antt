-- When the sections of modules and texts are small.
use Rattle.std.specs.Prelude.{Bool}
use Rattle.std.specs.List.{list_all}
use Rattle.elan_modules.specs.declared.flat.LoadedText.{LoadedText}
use Rattle.elan_syntax.specs.declared.parts.ModuleOutline.{ModuleOutline}
use Rattle.elan_clauses.specs.Offered.{is_few}

-- each section of a module is small
abbrev pub is_small_module : ModuleOutline → Bool
is_small_module m = list_all is_few m.sections

-- the same of each module of a text
abbrev pub is_small_text : LoadedText → Bool
is_small_text t = list_all is_small_module t.modules
