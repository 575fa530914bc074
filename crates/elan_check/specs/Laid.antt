-- The sections of a flat program that hold rules and definitions, in the order of the walk, each with its sorts; and what
-- strategies everywhere see of them.
use Rattle.std.specs.Prelude.{ℕ, ◌+◌, Bool, Option, Some, None, Ok, Err, List, [], ◌∷◌, ◌++◌, length, map, slice_get}
use Rattle.std.specs.List.{flat_map}
use Rattle.std.specs.Option.{option_map}
use Rattle.std.specs.Str.{bytes_eq}
use Rattle.elan_text.specs.declared.name.Name.{Name}
use Rattle.elan_text.specs.declared.refusal.Code.TheVariants.{E10}
use Rattle.elan_terms.specs.declared.tree.SortId.{SortId}
use Rattle.elan_program.specs.declared.signature.Signature.{Signature}
use Rattle.elan_names.specs.declared.heads.Label.{Label}
use Rattle.elan_names.specs.declared.heads.Head.{Head}
use Rattle.elan_names.specs.declared.heads.Names.{Names}
use Rattle.elan_names.specs.Names.{places}
use Rattle.elan_names.specs.Resolved.{next}
use Rattle.elan_phrases.specs.declared.span.Span.{Span}
use Rattle.elan_syntax.specs.declared.parts.Vars.{Vars}
use Rattle.elan_syntax.specs.declared.parts.RuleOutline.{RuleOutline}
use Rattle.elan_syntax.specs.declared.parts.Definition.{Definition as DefinitionOutline}
use Rattle.elan_syntax.specs.declared.parts.ModuleOutline.{ModuleOutline}
use Rattle.elan_syntax.specs.declared.parts.Section.{Section}
use Rattle.elan_syntax.specs.declared.parts.Section.TheVariants as section
use Rattle.elan_modules.specs.declared.flat.Flat.{Flat}
use Rattle.elan_modules.specs.declared.flat.Instance.{Instance}
use Rattle.elan_modules.specs.declared.flat.LoadedText.{LoadedText}
use Rattle.elan_modules.specs.declared.flat.Origin.{Origin}
use Rattle.elan_modules.specs.declared.flat.Origin.TheVariants.{Builtin, Text}
use Rattle.elan_reading.specs.declared.lexeme.Variable.{Variable}
use Rattle.elan_check.specs.declared.sorts.Module.{Module as LentModule}
use Rattle.elan_modules.specs.Sorts.{written}
use Rattle.elan_clauses.specs.Refusals.{Checked, refusal_at, name_at}

-- ---- sorts

-- a module in its text, with the sorts that stand for its parameters
pub record Scene : Type 0 where
  pub text : LoadedText
  pub parameters : List Name
  pub args : List Name

-- the same, as it is lent
abbrev pub seen : LentModule → Scene
seen m = record { text = m.text.now; parameters = m.replacements.now.parameters; args = m.replacements.now.sorts }

-- a sort has this written form
abbrev pub is_sort_named : List ℕ → Name → Bool
is_sort_named word name = bytes_eq name.bytes word

-- the first of these numbers as a sort
abbrev pub first_sort : List ℕ → Option SortId
first_sort [] = None
first_sort (n ∷ ns) = Some (record { 0 = n })

-- a sort, or the refusal of an expression for which there is none
abbrev pub sort_or : Scene → Span → Option SortId → Checked SortId
sort_or site at None = Err (refusal_at site.text at.first E10)
sort_or site at (Some sort) = Ok sort

-- the sort of a sort expression, which is the first one of its written form
unfoldable pub sort_at : Signature → Scene → Span → Checked SortId
sort_at g site at =
    sort_or site at (first_sort (places (is_sort_named (written site.text site.parameters site.args at)) 0 g.sorts))

-- ---- sections

-- what stands in a section: rules with variables, of which the tokens are kept, or definitions
pub data Part : Type 0 where
  RulesFor : LoadedText → SortId → List ℕ → List Variable → List RuleOutline → Part
  StrategiesFor : LoadedText → SortId → List DefinitionOutline → Part

-- the variables of these tokens, the first of which has this number
abbrev pub variables_at : LoadedText → SortId → ℕ → List ℕ → List Variable
variables_at text sort k [] = []
variables_at text sort k (t ∷ ts) = record { name = name_at text t; sort = sort; number = k } ∷ variables_at text sort (k + 1) ts

-- the variables of a declaration behind those before them
abbrev pub declared : Signature → Scene → List Variable → Vars → Checked (List Variable)
declared g site before v =
    next (sort_at g site v.sort) (λ sort. Ok (before ++ variables_at site.text sort (length before) v.names))

-- the variables of declarations behind those before them
abbrev pub variables_of : Signature → Scene → List Variable → List Vars → Checked (List Variable)
variables_of g site before [] = Ok before
variables_of g site before (v ∷ vs) = next (declared g site before v) (λ more. variables_of g site more vs)

-- the tokens of the names in declarations
abbrev pub tokens_of : List Vars → List ℕ
tokens_of vs = flat_map (λ (v : Vars). v.names) vs

-- a section of rules for a sort
abbrev pub laid_rules : Signature → Scene → Span → List Vars → List RuleOutline → Checked Part
laid_rules g site sort vars rules =
    next (sort_at g site sort) (λ s.
    next (variables_of g site [] vars) (λ variables. Ok (RulesFor site.text s (tokens_of vars) variables rules)))

-- a section of definitions for a sort
abbrev pub laid_strategies : Signature → Scene → Span → List DefinitionOutline → Checked Part
laid_strategies g site sort definitions = next (sort_at g site sort) (λ s. Ok (StrategiesFor site.text s definitions))

-- a section behind those before it
abbrev pub laid_section : Signature → Scene → List Part → Section → Checked (List Part)
laid_section g site before (section.Rules sort vars rules) =
    next (laid_rules g site sort vars rules) (λ part. Ok (before ++ part ∷ []))
laid_section g site before (section.Strategies sort definitions) =
    next (laid_strategies g site sort definitions) (λ part. Ok (before ++ part ∷ []))
laid_section g site before _ = Ok before

-- the sections of a module behind those before them
abbrev pub laid_sections : Signature → Scene → List Part → List Section → Checked (List Part)
laid_sections g site before [] = Ok before
laid_sections g site before (s ∷ ss) = next (laid_section g site before s) (λ more. laid_sections g site more ss)

-- ---- instances

-- the module of an instance in its text, if it has one
abbrev pub module_in : Option LoadedText → ℕ → Option (LoadedText × ModuleOutline)
module_in None j = None
module_in (Some text) j = option_map (λ m. (text, m)) (slice_get text.modules j)

-- the same of an instance
abbrev pub module_of : Flat → Origin → Option (LoadedText × ModuleOutline)
module_of flat (Builtin built_in) = None
module_of flat (Text i j) = module_in (slice_get flat.texts i) j

-- where the sections of an instance stand
abbrev pub site_of : Instance → LoadedText × ModuleOutline → Scene
site_of instance m = record { text = m.0; parameters = map (name_at m.0) m.1.parameters; args = instance.args }

-- the sections of an instance behind those before them
abbrev pub laid_module : Signature → Instance → List Part → Option (LoadedText × ModuleOutline) → Checked (List Part)
laid_module g instance before None = Ok before
laid_module g instance before (Some m) = laid_sections g (site_of instance m) before m.1.sections

-- the sections of all instances
abbrev pub laid_all : Signature → Flat → List Part → List Instance → Checked (List Part)
laid_all g flat before [] = Ok before
laid_all g flat before (i ∷ is) = next (laid_module g i before (module_of flat i.origin)) (λ more. laid_all g flat more is)

-- the sections of a flat program in the order of the walk
unfoldable pub laid : Signature → Flat → Checked (List Part)
laid g flat = laid_all g flat [] flat.instances

-- ---- what strategies see, wherever they stand

-- the label of a rule with its sort
abbrev pub label_of : LoadedText → SortId → RuleOutline → Label
label_of text sort r = record { name = option_map (name_at text) r.label; sort = sort }

-- the name of a definition, its sort, and how many parameters it has
abbrev pub head_of : LoadedText → SortId → DefinitionOutline → Head
head_of text sort d = record { name = name_at text d.name; sort = sort; parameters = length d.parameters }

-- the labels of a section
abbrev pub labels_in : Part → List Label
labels_in (RulesFor text sort tokens variables rules) = map (label_of text sort) rules
labels_in (StrategiesFor text sort definitions) = []

-- the heads of the definitions of a section
abbrev pub heads_in : Part → List Head
heads_in (RulesFor text sort tokens variables rules) = []
heads_in (StrategiesFor text sort definitions) = map (head_of text sort) definitions

-- the labels of all rules and the heads of all definitions
abbrev pub names_of : List Part → Names
names_of parts = record { labels = flat_map labels_in parts; heads = flat_map heads_in parts }
