-- The grammar, rule by rule. The value of a rule is a part of the outline.
use Rattle.std.specs.Prelude.{ℕ, List, [], ◌∷◌, ◌++◌, Bool, true, false, ◌||◌, Option, Some, None}
use Rattle.elan_forms.specs.Form.{◌>>=◌, ◌>>◌, token, pure, place, either, optional, loop, spanned, whole}
use Rattle.elan_text.specs.declared.name.Name.{Name}
use Rattle.elan_phrases.specs.declared.span.Span.{Span}
use Rattle.elan_phrases.specs.declared.plan.Planned.{Planned}
use Rattle.elan_phrases.specs.declared.symbol.Symbol.{Symbol}
use Rattle.elan_phrases.specs.declared.symbol.Symbol.TheVariants.{Module, Import, Sort, Operators, Rules, Strategies, For, Where, If, End, Lpl, Arrow, Becomes, Comma, Semicolon, Colon, LeftRound, RightRound, LeftSquare, RightSquare, Pri, AssocLeft, AssocRight, Ac, Description, Query, Of, Result, Start, With}
use Rattle.elan_phrases.specs.declared.symbol.Importer.TheVariants.{AModule, AnLplText}
use Rattle.elan_phrases.specs.Symbols.{Seen, one, a, names, labels, spelled, importable, fresh, the_name}
use Rattle.elan_phrases.specs.Beginnings.{begins_another_name, begins_imported, begins_declared, begins_ruled, begins_clause, begins_mark, begins_defined, begins_section}
use Rattle.elan_phrases.specs.Tokens.{Rule, taken, sign, number_of, span, span_of, small_number, name, visibility}
use Rattle.elan_phrases.specs.Texts.{text}
use Rattle.elan_phrases.specs.SortExpressions.{closing_arguments, sort_span, more_sorts, references}
use Rattle.elan_phrases.specs.Strategies.{strategy_plan, some_strategy}
use Rattle.elan_syntax.specs.declared.parts.Outline.{Outline}
use Rattle.elan_syntax.specs.declared.parts.ModuleOutline.{ModuleOutline}
use Rattle.elan_syntax.specs.declared.parts.Section.{Section}
use Rattle.elan_syntax.specs.declared.parts.Section.TheVariants as section
use Rattle.elan_syntax.specs.declared.parts.OpDecl.{OpDecl}
use Rattle.elan_syntax.specs.declared.parts.Attributes.{Attributes}
use Rattle.elan_syntax.specs.declared.parts.Side.{Side}
use Rattle.elan_syntax.specs.declared.parts.Side.TheVariants as side
use Rattle.elan_syntax.specs.declared.parts.Vars.{Vars}
use Rattle.elan_syntax.specs.declared.parts.RuleOutline.{RuleOutline}
use Rattle.elan_syntax.specs.declared.parts.ClauseOutline.{ClauseOutline}
use Rattle.elan_syntax.specs.declared.parts.ClauseOutline.TheVariants as clause
use Rattle.elan_syntax.specs.declared.parts.Definition.{Definition}
use Rattle.elan_syntax.specs.declared.parts.LplOutline.{LplOutline}
use Rattle.elan_syntax.specs.declared.attributes.Attribute.{Attribute}
use Rattle.elan_syntax.specs.declared.attributes.Attribute.TheVariants.{Priority, Associativity, AcMark}
use Rattle.elan_syntax.specs.declared.rules.RulesFor.{RulesFor}
use Rattle.elan_syntax.specs.declared.definitions.StrategiesFor.{StrategiesFor}
use Rattle.elan_syntax.specs.declared.parameters.Parameters.{Parameters}

-- ---- imports

-- ref { ref } ";", behind those found
unfoldable pub import_list : List Span → Rule (List Span)
import_list before = do
  found ← references (importable AModule) before
  sign Semicolon
  pure found

-- [ vis ] ref { ref } ";", behind those found
unfoldable pub one_import : List Span → Rule (List Span)
one_import found = either (visibility >> import_list found) (import_list found)

-- { [ vis ] ref { ref } ";" }
unfoldable pub more_imports : List Span → Rule (List Span)
more_imports = loop (λ _. a begins_imported) one_import

-- imports = "import" { [ vis ] ref { ref } ";" } "end"
unfoldable pub imports : Rule Section
imports = do
  sign Import
  found ← more_imports []
  sign End
  pure (section.Imports found)

-- ---- sorts

-- sorts = "sort" { sortx } ";" "end"
unfoldable pub sorts : Rule Section
sorts = do
  sign Sort
  found ← more_sorts []
  sign Semicolon
  sign End
  pure (section.Sorts found)

-- ---- attributes of operators

-- "pri" NUMBER, which is at most 255; the value is that of the number
unfoldable pub priority : Rule ℕ
priority = sign Pri >> small_number

-- "assocLeft" | "assocRight"
unfoldable pub associativity : Rule Side
associativity = either (sign AssocLeft >> pure side.Left) (sign AssocRight >> pure side.Right)

-- "(" "AC" ")"
unfoldable pub ac_mark : Rule (Unit {0})
ac_mark = do
  sign LeftRound
  sign Ac
  sign RightRound

-- no attribute
abbrev pub no_attributes : Attributes
no_attributes = record { priority = None; associativity = None; ac = false }

-- these attributes with this priority
abbrev pub with_priority : Attributes → ℕ → Attributes
with_priority before n = record { priority = Some n; associativity = before.associativity; ac = before.ac }

-- these attributes with the side to which the operator associates
abbrev pub with_side : Attributes → Side → Attributes
with_side before s = record { priority = before.priority; associativity = Some s; ac = before.ac }

-- these attributes of an operator that is associative and commutative
abbrev pub with_ac : Attributes → Attributes
with_ac before = record { priority = before.priority; associativity = before.associativity; ac = true }

-- attribute = "pri" NUMBER | "assocLeft" | "assocRight" | "(" "AC" ")", the one of this kind, beside those before it
abbrev pub attribute : Attribute → Attributes → Rule Attributes
attribute Priority before = priority >>= (λ n. pure (with_priority before n))
attribute Associativity before = associativity >>= (λ s. pure (with_side before s))
attribute AcMark before = ac_mark >> pure (with_ac before)

-- `assocLeft` or `assocRight`
abbrev pub begins_side : Symbol → Bool
begins_side s = one AssocLeft s || one AssocRight s

-- with which an attribute of this kind begins
abbrev pub begins_attribute : Attribute → Symbol → Bool
begins_attribute Priority s = one Pri s
begins_attribute Associativity s = begins_side s
begins_attribute AcMark s = one LeftRound s

-- this attribute, or nothing
unfoldable pub one_of : Attribute → Attributes → Rule Attributes
one_of x before = either (attribute x before) (pure before)

-- these two, each at most once, in any order
unfoldable pub two_of : Attribute → Attribute → Attributes → Rule Attributes
two_of x y before =
    either (attribute x before >>= one_of y)
    (either (attribute y before >>= one_of x) (pure before))

-- { attribute }, where each of the three stands at most once, in any order
unfoldable pub some_attributes : Rule Attributes
some_attributes =
    either (attribute Priority no_attributes >>= two_of Associativity AcMark)
    (either (attribute Associativity no_attributes >>= two_of Priority AcMark)
    (either (attribute AcMark no_attributes >>= two_of Priority Associativity) (pure no_attributes)))

-- ---- operators

-- { spell }
unfoldable pub more_spelled : Rule (Unit {0})
more_spelled = loop (λ _. a spelled) (λ _. taken (a spelled)) tt

-- spell { spell }
unfoldable pub spelling : Rule Span
spelling = spanned span (taken (a spelled) >> more_spelled)

-- "(" { sortx } ")"
unfoldable pub argument_sorts : Rule (List Span)
argument_sorts = do
  sign LeftRound
  found ← more_sorts []
  sign RightRound
  pure found

-- [ "(" { sortx } ")" ]
abbrev pub some_argument_sorts : Rule (List Span)
some_argument_sorts = either argument_sorts (pure [])

-- opdecl = spell { spell } ":" [ "(" { sortx } ")" ] sortx { attribute } ";"
unfoldable pub declaration : Rule OpDecl
declaration = do
  spelling ← spelling
  sign Colon
  args ← some_argument_sorts
  sort ← sort_span
  attributes ← some_attributes
  sign Semicolon
  pure (record { spelling = spelling; args = args; sort = sort; attributes = attributes })

-- vis | opdecl, a declaration behind those found
unfoldable pub declared : List OpDecl → Rule (List OpDecl)
declared found = either (visibility >> pure found) (declaration >>= (λ d. pure (found ++ d ∷ [])))

-- { vis | opdecl }
unfoldable pub more_declared : List OpDecl → Rule (List OpDecl)
more_declared = loop (λ _. a begins_declared) declared

-- operators = "operators" { vis | opdecl } "end"
unfoldable pub operators : Rule Section
operators = do
  sign Operators
  found ← more_declared []
  sign End
  pure (section.Operators found)

-- ---- variables

-- [ "," ] NAME
unfoldable pub another_name : Rule ℕ
another_name = either (sign Comma >> number_of (a names)) (number_of (a names))

-- { [ "," ] NAME }, each behind those found
unfoldable pub more_names : List ℕ → Rule (List ℕ)
more_names = loop (λ _. a begins_another_name) (λ found. another_name >>= (λ n. pure (found ++ n ∷ [])))

-- vars = NAME { [ "," ] NAME } ":" sortx ";"
unfoldable pub vars : Rule Vars
vars = do
  first ← number_of (a names)
  found ← more_names (first ∷ [])
  sign Colon
  sort ← sort_span
  sign Semicolon
  pure (record { names = found; sort = sort })

-- { vars }, each behind those found
unfoldable pub more_vars : List Vars → Rule (List Vars)
more_vars = loop (λ _. a names) (λ found. vars >>= (λ v. pure (found ++ v ∷ [])))

-- ---- rules

-- "where" text ":=" "(" [ strategy ] ")" text
unfoldable pub where_clause : Rule ClauseOutline
where_clause = do
  sign Where
  left ← text
  sign Becomes
  sign LeftRound
  by ← some_strategy
  sign RightRound
  of ← text
  pure (clause.Where left by of)

-- "if" text
unfoldable pub if_clause : Rule ClauseOutline
if_clause = do
  sign If
  condition ← text
  pure (clause.If condition)

-- clause = "where" text ":=" "(" [ strategy ] ")" text | "if" text
unfoldable pub clause_rule : Rule ClauseOutline
clause_rule = either where_clause if_clause

-- { clause }, each behind those found
unfoldable pub more_clauses : List ClauseOutline → Rule (List ClauseOutline)
more_clauses = loop (λ _. a begins_clause) (λ found. clause_rule >>= (λ c. pure (found ++ c ∷ [])))

-- "[", whose number is that of the rule or definition that it begins
abbrev pub bracket : Rule ℕ
bracket = number_of (a (one LeftSquare))

-- [ LABEL ]
abbrev pub some_label : Rule (Option ℕ)
some_label = optional (number_of (a labels))

-- text "=>" text { clause } "end", of a rule that begins at this token and has this label
unfoldable pub sides : ℕ → Option ℕ → Rule RuleOutline
sides at label = do
  left ← text
  sign Arrow
  right ← text
  clauses ← more_clauses []
  sign End
  pure (record { at = at; label = label; left = left; right = right; clauses = clauses })

-- rule = "[" [ LABEL ] "]" text "=>" text { clause } "end"
unfoldable pub rule : Rule RuleOutline
rule = do
  at ← bracket
  label ← some_label
  sign RightSquare
  sides at label

-- vis | rule, a rule behind those found
unfoldable pub ruled : List RuleOutline → Rule (List RuleOutline)
ruled found = either (visibility >> pure found) (rule >>= (λ r. pure (found ++ r ∷ [])))

-- { vis | rule }
unfoldable pub more_ruled : List RuleOutline → Rule (List RuleOutline)
more_ruled = loop (λ _. a begins_ruled) ruled

-- a section of rules for this sort
abbrev pub rules_of : Span → List Vars → List RuleOutline → RulesFor
rules_of sort vars rules = record { sort = sort; vars = vars; rules = rules }

-- "]" text "=>" text { clause } "end" { vis | rule }, behind the name of the sort and the `[` of this number
unfoldable pub bare_rule_first : Span → ℕ → Rule RulesFor
bare_rule_first name at = do
  sign RightSquare
  first ← sides at None
  found ← more_ruled (first ∷ [])
  pure (rules_of name [] found)

-- sortx { "," sortx } "]" { vars } { vis | rule }, behind the name of the sort and a `[`
unfoldable pub ruled_sort : Span → Rule RulesFor
ruled_sort name = do
  closing_arguments
  past ← place
  variables ← more_vars []
  found ← more_ruled []
  pure (rules_of (span name.first past) variables found)

-- A `[` directly after the name of the sort is the first of a rule where `]` follows, and else it belongs to the sort.
unfoldable pub ruled_bracket : Span → Rule RulesFor
ruled_bracket name = bracket >>= (λ at. either (bare_rule_first name at) (ruled_sort name))

-- vars { vars } { vis | rule }
unfoldable pub vars_first : Span → Rule RulesFor
vars_first name = do
  first ← vars
  variables ← more_vars (first ∷ [])
  found ← more_ruled []
  pure (rules_of name variables found)

-- vis { vis | rule }
unfoldable pub visibility_first : Span → Rule RulesFor
visibility_first name = do
  visibility
  found ← more_ruled []
  pure (rules_of name [] found)

-- What stands behind the name of the sort of a section of rules. A `[` there is told by the token behind it, so a first
-- rule with a label has variables, `global` or `local` before it, or a sort with brackets.
unfoldable pub behind_ruled : Span → Rule RulesFor
behind_ruled name =
    either (ruled_bracket name)
    (either (vars_first name)
    (either (visibility_first name) (pure (rules_of name [] []))))

-- sortx { vars } { vis | rule }, told by its first tokens
unfoldable pub rules_for : Rule RulesFor
rules_for = span_of (a names) >>= behind_ruled

-- rules = "rules" "for" sortx { vars } { vis | rule } "end"
unfoldable pub rules : Rule Section
rules = do
  sign Rules
  sign For
  found ← rules_for
  sign End
  pure (section.Rules found.sort found.vars found.rules)

-- ---- strategies

-- LABEL, behind those found
abbrev pub one_label : List ℕ → Rule (List ℕ)
one_label found = number_of (a labels) >>= (λ n. pure (found ++ n ∷ []))

-- { "," LABEL }, each behind those found
unfoldable pub more_labels : List ℕ → Rule (List ℕ)
more_labels = loop (λ _. a (one Comma)) (λ found. sign Comma >> one_label found)

-- "(" LABEL { "," LABEL } ")", where the labels may be equal
unfoldable pub formals : Rule (List ℕ)
formals = do
  sign LeftRound
  first ← one_label []
  found ← more_labels first
  sign RightRound
  pure found

-- [ "(" LABEL { "," LABEL } ")" ]
abbrev pub some_formals : Rule (List ℕ)
some_formals = either formals (pure [])

-- "]" LABEL [ "(" LABEL { "," LABEL } ")" ] "=>" strategy "end", behind the `[` of this number
unfoldable pub definition_behind : ℕ → Rule Definition
definition_behind at = do
  sign RightSquare
  name ← number_of (a labels)
  parameters ← some_formals
  sign Arrow
  by ← strategy_plan
  sign End
  pure (record { at = at; name = name; parameters = parameters; by = by })

-- definition = "[" "]" LABEL [ "(" LABEL { "," LABEL } ")" ] "=>" strategy "end"
unfoldable pub definition : Rule Definition
definition = bracket >>= definition_behind

-- vis | "implicit"
unfoldable pub mark : Rule (Unit {0})
mark = taken (a begins_mark)

-- vis | "implicit" | definition, a definition behind those found
unfoldable pub defined : List Definition → Rule (List Definition)
defined found = either (mark >> pure found) (definition >>= (λ d. pure (found ++ d ∷ [])))

-- { vis | "implicit" | definition }
unfoldable pub more_defined : List Definition → Rule (List Definition)
more_defined = loop (λ _. a begins_defined) defined

-- a section of strategies for this sort
abbrev pub strategies_of : Span → List Definition → StrategiesFor
strategies_of sort definitions = record { sort = sort; definitions = definitions }

-- "]" LABEL [ "(" LABEL { "," LABEL } ")" ] "=>" strategy "end" { vis | "implicit" | definition }, behind the name of
-- the sort and the `[` of this number
unfoldable pub definition_first : Span → ℕ → Rule StrategiesFor
definition_first name at = do
  first ← definition_behind at
  found ← more_defined (first ∷ [])
  pure (strategies_of name found)

-- sortx { "," sortx } "]" { vis | "implicit" | definition }, behind the name of the sort and a `[`
unfoldable pub defined_sort : Span → Rule StrategiesFor
defined_sort name = do
  closing_arguments
  past ← place
  found ← more_defined []
  pure (strategies_of (span name.first past) found)

-- A `[` directly after the name of the sort is the first of a definition where `]` follows, and else it belongs to the
-- sort.
unfoldable pub defined_bracket : Span → Rule StrategiesFor
defined_bracket name = bracket >>= (λ at. either (definition_first name at) (defined_sort name))

-- ( vis | "implicit" ) { vis | "implicit" | definition }
unfoldable pub mark_first : Span → Rule StrategiesFor
mark_first name = do
  mark
  found ← more_defined []
  pure (strategies_of name found)

-- What stands behind the name of the sort of a section of strategies. A `[` there is told by the token behind it.
unfoldable pub behind_defined : Span → Rule StrategiesFor
behind_defined name = either (defined_bracket name) (either (mark_first name) (pure (strategies_of name [])))

-- sortx { vis | "implicit" | definition }, told by its first tokens
unfoldable pub strategies_for : Rule StrategiesFor
strategies_for = span_of (a names) >>= behind_defined

-- strategies = "strategies" "for" sortx { vis | "implicit" | definition } "end"
unfoldable pub strategies : Rule Section
strategies = do
  sign Strategies
  sign For
  found ← strategies_for
  sign End
  pure (section.Strategies found.sort found.definitions)

-- ---- modules

-- these parameters and one more, by its number and its bytes
abbrev pub with_parameter : Parameters → ℕ → List ℕ → Parameters
with_parameter taken at word =
    record { numbers = taken.numbers ++ at ∷ []; names = taken.names ++ record { bytes = word } ∷ [] }

-- no parameters
abbrev pub no_parameters : Parameters
no_parameters = record { numbers = []; names = [] }

-- NAME, which is none of the parameters before it
unfoldable pub parameter : Parameters → Rule Parameters
parameter taken = do
  at ← place
  t ← token (fresh taken.names)
  pure (with_parameter taken at t.text)

-- { "," NAME }, each behind those found
unfoldable pub more_parameters : Parameters → Rule Parameters
more_parameters = loop (λ _. a (one Comma)) (λ taken. sign Comma >> parameter taken)

-- "[" NAME { "," NAME } "]", where the names differ
unfoldable pub parameters : Rule (List ℕ)
parameters = do
  sign LeftSquare
  first ← parameter no_parameters
  found ← more_parameters first
  sign RightSquare
  pure found.numbers

-- [ "[" NAME { "," NAME } "]" ]
abbrev pub some_parameters : Rule (List ℕ)
some_parameters = either parameters (pure [])

-- section = imports | sorts | operators | rules | strategies
unfoldable pub section_rule : Rule Section
section_rule = either imports (either sorts (either operators (either rules strategies)))

-- { section }, each behind those found
unfoldable pub sections : List Section → Rule (List Section)
sections = loop (λ _. a begins_section) (λ found. section_rule >>= (λ s. pure (found ++ s ∷ [])))

-- [ "[" NAME { "," NAME } "]" ] { section } "end", behind a name of this number
unfoldable pub module_behind : ℕ → Rule ModuleOutline
module_behind name = do
  parameters ← some_parameters
  found ← sections []
  sign End
  pure (record { name = name; parameters = parameters; sections = found })

-- module = "module" NAME [ "[" NAME { "," NAME } "]" ] { section } "end", whose first NAME passes the test
unfoldable pub module_of : (Seen → Bool) → Rule ModuleOutline
module_of p = do
  sign Module
  name ← number_of p
  module_behind name

-- { module }, each behind those found
unfoldable pub more_modules : List ModuleOutline → Rule (List ModuleOutline)
more_modules = loop (λ _. a (one Module)) (λ found. module_of (a names) >>= (λ m. pure (found ++ m ∷ [])))

-- ---- whole texts

-- WORD "of" "sort" sortx
unfoldable pub sort_of : Symbol → Rule Span
sort_of word = do
  sign word
  sign Of
  sign Sort
  sort_span

-- "start" "with" "(" [ strategy ] ")"
unfoldable pub start_with : Rule (Option Planned)
start_with = do
  sign Start
  sign With
  sign LeftRound
  start ← some_strategy
  sign RightRound
  pure start

-- "import" ref { ref }, where the word `start` ends the list
unfoldable pub lpl_imports : Rule (List Span)
lpl_imports = sign Import >> references (importable AnLplText) []

-- lpl = "LPL" NAME "description" "query" "of" "sort" sortx "result" "of" "sort" sortx "import" ref { ref }
--       "start" "with" "(" [ strategy ] ")" "query" "end"
unfoldable pub lpl : Rule LplOutline
lpl = do
  sign Lpl
  name
  sign Description
  query_sort ← sort_of Query
  result_sort ← sort_of Result
  imports ← lpl_imports
  start ← start_with
  sign Query
  sign End
  pure (record { query_sort = query_sort; result_sort = result_sort; imports = imports; start = start })

-- { module } lpl text "end"
unfoldable pub program : Rule Outline
program = do
  modules ← more_modules []
  lpl ← lpl
  query ← text
  sign End
  pure (record { modules = modules; lpl = lpl; query = query })

-- stream = { module } lpl text "end", and after it the stream ends
abbrev pub stream : Rule Outline
stream = whole program

-- the text of one module of this name, and after it the text ends
abbrev pub module_text : Name → Rule ModuleOutline
module_text name = whole (module_of (the_name name))
