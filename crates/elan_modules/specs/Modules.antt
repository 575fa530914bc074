-- Modules in their texts: where the module of a name is, what it imports and which sort expressions stand in it.
use Rattle.std.specs.Prelude.{ℕ, Bool, ◌==◌, ◌||◌, ◌&&◌, ◌+◌, ◌-◌, cond, List, [], ◌∷◌, ◌++◌, length, map, nat_lt, Option, Some, None, Result, Ok, Err, codes}
use Rattle.std.specs.List.{list_all}
use Rattle.std.specs.Str.{bytes_eq}
use Rattle.elan_text.specs.declared.name.Name.{Name}
use Rattle.elan_text.specs.declared.refusal.Code.{Code}
use Rattle.elan_text.specs.declared.refusal.Place.{Place}
use Rattle.elan_text.specs.declared.refusal.Refusal.{Refusal}
use Rattle.elan_lexer.specs.declared.token.Token.{Token}
use Rattle.elan_lexer.specs.Pieces.{code_of as code_of_fault}
use Rattle.elan_lexer.specs.Bytes.{is_letter, is_digit}
use Rattle.elan_lexer.specs.Lex.{Lexed, lexed}
use Rattle.elan_forms.specs.Whole.{Answer, done, refused}
use Rattle.elan_phrases.specs.declared.span.Span.{Span}
use Rattle.elan_phrases.specs.Symbols.{Seen, seen, is_unreserved}
use Rattle.elan_syntax.specs.declared.parts.ModuleOutline.{ModuleOutline}
use Rattle.elan_syntax.specs.declared.parts.OpDecl.{OpDecl}
use Rattle.elan_syntax.specs.declared.parts.Vars.{Vars}
use Rattle.elan_syntax.specs.declared.parts.Section.{Section}
use Rattle.elan_syntax.specs.declared.parts.Section.TheVariants as section
use Rattle.elan_syntax.specs.Grammar.{module_text}
use Rattle.elan_syntax.specs.Outlines.{code_of, place_of}
use Rattle.elan_modules.specs.declared.flat.LoadedText.{LoadedText}
use Rattle.elan_modules.specs.declared.walk.Reference.{Reference}
use Rattle.elan_modules.specs.declared.flat.Standard.{Standard}
use Rattle.elan_modules.specs.declared.flat.Standard.TheVariants as standard
use Rattle.elan_modules.specs.Sorts.{word_at, place_at, written, names_in, argument_spans, most_names}

-- ---- built-in modules

-- the built-in module of a name
abbrev pub standard_of : List ℕ → Option Standard
standard_of name =
    cond (bytes_eq name (codes "bool")) (Some standard.Bool)
    (cond (bytes_eq name (codes "int")) (Some standard.Int)
    (cond (bytes_eq name (codes "eq")) (Some standard.Eq) None))

-- how many parameters it has
abbrev pub parameter_count : Standard → ℕ
parameter_count standard.Bool = 0
parameter_count standard.Int = 0
parameter_count standard.Eq = 1

-- `bool`, at the place of a reference to a module that imports it
abbrev pub bool_at : Reference → Reference
bool_at r = record { name = record { bytes = codes "bool" }; args = []; at = r.at; «module» = r.«module» }

-- what a built-in module imports, at the place of the reference to it: `int` and `eq` import `bool`
abbrev pub standard_imports : Standard → Reference → List Reference
standard_imports standard.Bool r = []
standard_imports standard.Int r = bool_at r ∷ []
standard_imports standard.Eq r = bool_at r ∷ []

-- ---- modules of texts

-- the name of a module of a text
abbrev pub name_of : LoadedText → ModuleOutline → List ℕ
name_of text outline = word_at text outline.name

-- a module, with its text and the numbers of both
pub record Found : Type 0 where
  pub text_number : ℕ
  pub module_number : ℕ
  pub text : LoadedText
  pub outline : ModuleOutline

-- the first module of a name among those of a text, and its number, where they are counted from this number on
unfoldable pub find_in : LoadedText → ℕ → List ModuleOutline → List ℕ → Option (ℕ × ModuleOutline)
find_in text j [] name = None
find_in text j (m ∷ ms) name = cond (bytes_eq (name_of text m) name) (Some (j, m)) (find_in text (j + 1) ms name)

-- the module that was found in a text of this number, or else what is found elsewhere
abbrev pub found_first : ℕ → LoadedText → Option (ℕ × ModuleOutline) → Option Found → Option Found
found_first i text (Some at) other =
    Some (record { text_number = i; module_number = at.0; text = text; outline = at.1 })
found_first i text None other = other

-- the first module of a name among those of texts, which are counted from this number on
unfoldable pub find : ℕ → List LoadedText → List ℕ → Option Found
find i [] name = None
find i (text ∷ texts) name = found_first i text (find_in text 0 text.modules name) (find (i + 1) texts name)

-- the names of its parameters
abbrev pub parameters_of : LoadedText → List ℕ → List Name
parameters_of text numbers = map (λ number. record { bytes = word_at text number }) numbers

-- ---- the sort expressions of a module, in the order of its text

-- the sort expressions of operators: of each the arguments' and then its own
abbrev pub operator_sorts : List OpDecl → List Span
operator_sorts [] = []
operator_sorts (o ∷ os) = o.args ++ o.sort ∷ operator_sorts os

-- the sort expressions that are arguments of references
abbrev pub argument_sorts : LoadedText → List Span → List Span
argument_sorts text [] = []
argument_sorts text (r ∷ rs) = argument_spans text r ++ argument_sorts text rs

-- the sort expressions of a section
abbrev pub section_sorts : LoadedText → Section → List Span
section_sorts text (section.Imports references) = argument_sorts text references
section_sorts text (section.Sorts sorts) = sorts
section_sorts text (section.Operators operators) = operator_sorts operators
section_sorts text (section.Rules sort vars rules) = sort ∷ map (λ (v : Vars). v.sort) vars
section_sorts text (section.Strategies sort definitions) = sort ∷ []

-- the sort expressions of sections
abbrev pub sort_spans : LoadedText → List Section → List Span
sort_spans text [] = []
sort_spans text (s ∷ ss) = section_sorts text s ++ sort_spans text ss

-- the place of the first sort expression that has too many names once the parameters are replaced
unfoldable pub first_long : LoadedText → List Name → List Name → List Span → Option Place
first_long text parameters sorts [] = None
first_long text parameters sorts (s ∷ ss) =
    cond (nat_lt most_names (names_in (written text parameters sorts s))) (Some (place_at text s.first))
    (first_long text parameters sorts ss)

-- ---- the references of a module, in the order of its text

-- the written forms of sort expressions, with the parameters replaced
abbrev pub written_all : LoadedText → List Name → List Name → List Span → List Name
written_all text parameters sorts = map (λ s. record { bytes = written text parameters sorts s })

-- a reference with its arguments, once the parameters are replaced
abbrev pub reference_of : LoadedText → List Name → List Name → Span → Reference
reference_of text parameters sorts at = record {
  name = record { bytes = word_at text at.first };
  args = written_all text parameters sorts (argument_spans text at);
  at = place_at text at.first;
  «module» = text.«module»;
}

-- the references of these spans
abbrev pub references_of : LoadedText → List Name → List Name → List Span → List Reference
references_of text parameters sorts = map (reference_of text parameters sorts)

-- the references of a section
abbrev pub section_imports : LoadedText → List Name → List Name → Section → List Reference
section_imports text parameters sorts (section.Imports references) = references_of text parameters sorts references
section_imports text parameters sorts (section.Sorts spans) = []
section_imports text parameters sorts (section.Operators operators) = []
section_imports text parameters sorts (section.Rules sort vars rules) = []
section_imports text parameters sorts (section.Strategies sort definitions) = []

-- the references of sections
abbrev pub imports_of : LoadedText → List Name → List Name → List Section → List Reference
imports_of text parameters sorts [] = []
imports_of text parameters sorts (s ∷ ss) = section_imports text parameters sorts s ++ imports_of text parameters sorts ss

-- ---- loaded texts

-- a refusal at a place of the text that was loaded for a name
abbrev pub refusal_in : Name → Code → Place → Refusal
refusal_in name code at = record { code = code; at = at; «module» = Some name }

-- a letter, a digit or `_`
abbrev pub is_word_byte : ℕ → Bool
is_word_byte b = is_letter b || (is_digit b || b == 95)

-- a name that a module can have: a word that is not reserved
unfoldable pub is_name : List ℕ → Bool
is_name word = list_all is_word_byte word && is_unreserved word

-- a text that is one module, with its outline
abbrev pub Opened : Type 0
Opened = Result (LoadedText × ModuleOutline) Refusal

-- the text of a module with its parts
abbrev pub loaded_text : Name → List ℕ → List Token → ModuleOutline → LoadedText
loaded_text name bytes tokens outline =
    record { «module» = Some name; bytes = bytes; tokens = tokens; modules = outline ∷ [] }

-- the outline that was read, or its refusal at the token that decides
abbrev pub outlined : Name → List ℕ → List Token → Answer Seen ModuleOutline → Opened
outlined name bytes tokens (done outline n rest) = Ok (loaded_text name bytes tokens outline, outline)
outlined name bytes tokens (refused why rest) =
    Err (refusal_in name (code_of why) (place_of bytes tokens (length tokens - length rest)))

-- the text that was cut into tokens, or its refusal at the first fault
abbrev pub cut : Name → List ℕ → Lexed → Opened
cut name bytes (Ok tokens) = outlined name bytes tokens ((module_text name).read 0 (seen bytes tokens))
cut name bytes (Err fault) = Err (refusal_in name (code_of_fault fault.0) fault.1)

-- a text that is one module of a name, with its tokens and its outline, or its refusal
unfoldable pub opened : Name → List ℕ → Opened
opened name bytes = cut name bytes (lexed bytes)
