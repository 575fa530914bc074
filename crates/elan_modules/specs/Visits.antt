-- A walk through the imports from a list of references: it follows each one, and finishes an instance behind those that it imports.
use Rattle.std.specs.Prelude.{ℕ, zero, suc, ◌+◌, ◌==◌, Bool, true, false, ◌&&◌, ◌||◌, cond, List, [], ◌∷◌, ◌++◌, length, nat_le, nat_lt, Option, Some, None, Result, Ok, Err}
use Rattle.std.specs.List.{list_any}
use Rattle.std.specs.Str.{bytes_eq}
use Rattle.elan_text.specs.declared.name.Name.{Name}
use Rattle.elan_text.specs.declared.refusal.Code.{Code}
use Rattle.elan_text.specs.declared.refusal.Code.TheVariants.{E01, E05, E06, E07, E08, E09, E14}
use Rattle.elan_text.specs.declared.refusal.Place.{Place}
use Rattle.elan_text.specs.declared.refusal.Refusal.{Refusal}
use Rattle.elan_lexer.specs.Places.{first_place}
use Rattle.elan_phrases.specs.declared.span.Span.{Span}
use Rattle.elan_lexer.specs.declared.token.Token.{Token}
use Rattle.elan_syntax.specs.declared.parts.LplOutline.{LplOutline}
use Rattle.elan_syntax.specs.declared.parts.Outline.{Outline}
use Rattle.elan_syntax.specs.declared.parts.ModuleOutline.{ModuleOutline}
use Rattle.elan_modules.specs.declared.flat.LoadedText.{LoadedText}
use Rattle.elan_modules.specs.declared.flat.Origin.{Origin}
use Rattle.elan_modules.specs.declared.flat.Origin.TheVariants.{Builtin, Text}
use Rattle.elan_modules.specs.declared.flat.Instance.{Instance}
use Rattle.elan_modules.specs.declared.flat.Flat.{Flat}
use Rattle.elan_modules.specs.Walking.{Walk}
use Rattle.elan_modules.specs.declared.walk.Reference.{Reference}
use Rattle.elan_modules.specs.declared.flat.Standard.{Standard}
use Rattle.elan_numbers.specs.Numbering.{is_called}
use Rattle.elan_loaders.specs.Libraries.{Told, Has, HasNone, Untold}
use Rattle.elan_modules.specs.Sorts.{place_at}
use Rattle.elan_modules.specs.Modules.{Found, find, name_of, standard_of, parameter_count, standard_imports, parameters_of, sort_spans, first_long, references_of, is_name, imports_of, refusal_in, Opened, opened}

-- what is told of the text of a name
abbrev pub Library : Type 0
Library = List ℕ → Told

-- why a walk ends: a text is refused, or it comes to a name of which nothing is told
pub data Halted : Type 0 where
  Refuses : Refusal → Halted
  Silent : Halted

-- a walk that goes on, or why it ends
abbrev pub Walked : Type 0
Walked = Result Walk Halted

-- the walk goes on with what comes next, or it has ended
abbrev pub next : {A B : Type 0} → Result A Halted → (A → Result B Halted) → Result B Halted
next (Ok a) more = more a
next (Err halted) more = Err halted

-- how many instances there may be
abbrev pub most_instances : ℕ
most_instances = 256

-- how many bytes the texts may have together
abbrev pub most_bytes : ℕ
most_bytes = 4194304

-- a refusal at the first token of a reference
abbrev pub refusal_at : Code → Reference → Refusal
refusal_at code r = record { code = code; at = r.at; «module» = r.«module» }

-- the walk ends with it
abbrev pub refused_at : {A : Type 0} → Code → Reference → Result A Halted
refused_at code r = Err (Refuses (refusal_at code r))

-- ---- the text of a name

-- how many bytes texts have together
abbrev pub total : List LoadedText → ℕ
total [] = 0
total (text ∷ texts) = length text.bytes + total texts

-- the walk with a text that was opened, and its module
abbrev pub with_text : Walk → Opened → Result (Walk × Found) Halted
with_text walk (Err refusal) = Err (Refuses refusal)
with_text walk (Ok read) = Ok (
  record { texts = walk.texts ++ read.0 ∷ []; done = walk.done },
  record { text_number = length walk.texts; module_number = 0; text = read.0; outline = read.1 },
)

-- the refusal of a text that makes all of them too long
abbrev pub too_long : Name → Refusal
too_long name = refusal_in name E01 first_place

-- A text that is loaded: all texts together may be too long; then it is cut into tokens, and then it is read as a module
-- of the name.
abbrev pub loaded : Walk → Name → List ℕ → Result (Walk × Found) Halted
loaded walk name bytes =
    cond (nat_lt most_bytes (total walk.texts + length bytes)) (Err (Refuses (too_long name)))
    (with_text walk (opened name bytes))

-- what the loaders tell of the text of a reference
abbrev pub fetched : Walk → Reference → Told → Result (Walk × Found) Halted
fetched walk r (Has bytes) = loaded walk r.name bytes
fetched walk r HasNone = refused_at E06 r
fetched walk r Untold = Err Silent

-- the module that was found, or else that which the loaders have; what is no name is refused as the grammar does it
abbrev pub located_or : Library → Walk → Reference → Option Found → Result (Walk × Found) Halted
located_or library walk r (Some found) = Ok (walk, found)
located_or library walk r None =
    cond (is_name r.name.bytes) (fetched walk r (library r.name.bytes)) (refused_at E05 r)

-- the text of the name of a reference: the stream's own, else one that was loaded before, else the loaders'
unfoldable pub located : Library → Walk → Reference → Result (Walk × Found) Halted
located library walk r = located_or library walk r (find 0 walk.texts r.name.bytes)

-- ---- what an instance imports

-- an instance that is begun: the walk with its text, where its module is, and what it imports
pub record Begun : Type 0 where
  pub walk : Walk
  pub origin : Origin
  pub imports : List Reference

-- the refusal of a sort expression that has too many names
abbrev pub long_at : LoadedText → Place → Refusal
long_at text at = record { code = E14; at = at; «module» = text.«module» }

-- a sort expression that is too long, or else the imports
abbrev pub measured : LoadedText → Option Place → List Reference → Result (List Reference) Halted
measured text (Some at) imports = Err (Refuses (long_at text at))
measured text None imports = Ok imports

-- What a module of a text imports: it has as many parameters as there are arguments, which replace them, and no sort
-- expression is too long then.
unfoldable pub text_imports : Reference → LoadedText → ModuleOutline → Result (List Reference) Halted
text_imports r text outline = let parameters = parameters_of text outline.parameters in
    cond (length r.args == length parameters)
    (measured text (first_long text parameters r.args (sort_spans text outline.sections))
    (imports_of text parameters r.args outline.sections))
    (refused_at E07 r)

-- what a built-in module imports, which has as many parameters as there are arguments
abbrev pub built_imports : Reference → Standard → Result (List Reference) Halted
built_imports r built_in =
    cond (length r.args == parameter_count built_in) (Ok (standard_imports built_in r)) (refused_at E07 r)

-- an instance of a module of a text
abbrev pub begun_text : Reference → Walk × Found → Result Begun Halted
begun_text r at = next (text_imports r at.1.text at.1.outline)
    (λ imports. Ok (record { walk = at.0; origin = Text at.1.text_number at.1.module_number; imports = imports }))

-- an instance of a module that is built in
abbrev pub begun_standard : Walk → Reference → Standard → Result Begun Halted
begun_standard walk r built_in =
    next (built_imports r built_in) (λ imports. Ok (record { walk = walk; origin = Builtin built_in; imports = imports }))

-- an instance of a module that is built in, or else of one of a text
abbrev pub begun_or : Library → Walk → Reference → Option Standard → Result Begun Halted
begun_or library walk r (Some built_in) = begun_standard walk r built_in
begun_or library walk r None = next (located library walk r) (begun_text r)

-- the instance that a reference begins
unfoldable pub begun : Library → Walk → Reference → Result Begun Halted
begun library walk r = begun_or library walk r (standard_of r.name.bytes)

-- ---- the visit of a reference

-- how the references in a module are visited, on a path of names
abbrev pub Visiting : Type 0
Visiting = List Name → Walk → Reference → Walked

-- references one after the other
unfoldable pub visit_all : Visiting → List Name → Walk → List Reference → Walked
visit_all visiting path walk [] = Ok walk
visit_all visiting path walk (r ∷ rs) = next (visiting path walk r) (λ further. visit_all visiting path further rs)

-- two lists of names are the same
abbrev pub same_names : List Name → List Name → Bool
same_names [] [] = true
same_names [] (y ∷ ys) = false
same_names (x ∷ xs) [] = false
same_names (x ∷ xs) (y ∷ ys) = bytes_eq x.bytes y.bytes && same_names xs ys

-- the name is that of the module that a reference names
abbrev pub is_named_by : Reference → Name → Bool
is_named_by r name = bytes_eq r.name.bytes name.bytes

-- the instance that a reference names: the same name and the same arguments
abbrev pub is_instance : Reference → Instance → Bool
is_instance r i = bytes_eq r.name.bytes i.name.bytes && same_names r.args i.args

-- the instance of a reference, whose module is there
abbrev pub instance_of : Reference → Origin → Instance
instance_of r origin = record { name = r.name; args = r.args; origin = origin }

-- the instance is finished
abbrev pub finished : Reference → Origin → Walk → Walk
finished r origin walk = record { texts = walk.texts; done = walk.done ++ instance_of r origin ∷ [] }

-- its imports are visited with its name on the path, and then it is finished
abbrev pub completed : Visiting → List Name → Reference → Begun → Walked
completed visiting path r b =
    next (visit_all visiting (path ++ r.name ∷ []) b.walk b.imports) (λ further. Ok (finished r b.origin further))

-- A visit: the name is on the path; or the instance was finished; or too many instances were begun, which are those on
-- the path and those finished; or it is begun.
unfoldable pub visit_step : Visiting → Library → List Name → Walk → Reference → Walked
visit_step visiting library path walk r =
    cond (list_any (is_named_by r) path) (refused_at E08 r)
    (cond (list_any (is_instance r) walk.done) (Ok walk)
    (cond (nat_le most_instances (length path + length walk.done)) (refused_at E14 r)
    (next (begun library walk r) (completed visiting path r))))

-- The visit of a reference on a path. The number is how many instances may still be begun below it: where it is 0 the
-- path alone has too many, so that no reference in the module is visited.
unfoldable pub visit : ℕ → Library → Visiting
visit zero library = visit_step (λ path walk r. refused_at E14 r) library
visit (suc n) library = visit_step (visit n library) library

-- ---- the whole stream

-- there is a built-in module
abbrev pub is_some : Option Standard → Bool
is_some None = false
is_some (Some built_in) = true

-- the name is that of one of these modules, or of one that is built in
abbrev pub is_taken : List Name → List ℕ → Bool
is_taken before name = list_any (is_called name) before || is_some (standard_of name)

-- the place of the first module whose name is taken by an earlier one, or by one that is built in; these are the names of
-- those before them
unfoldable pub named_twice : LoadedText → List Name → List ModuleOutline → Option Place
named_twice stream before [] = None
named_twice stream before (m ∷ ms) =
    cond (is_taken before (name_of stream m)) (Some (place_at stream m.name))
    (named_twice stream (before ++ record { bytes = name_of stream m } ∷ []) ms)

-- where a stream begins: nothing is loaded and nothing is finished
abbrev pub start : LoadedText → Walk
start stream = record { texts = stream ∷ []; done = [] }

-- the flat program of a walk
abbrev pub flat_of : LplOutline → Span → Walk → Flat
flat_of lpl query walk = record { texts = walk.texts; instances = walk.done; lpl = lpl; query = query }

-- the refusal of a module of the stream whose name is taken
abbrev pub taken_at : Place → Refusal
taken_at at = record { code = E09; at = at; «module» = None }

-- the first module with a name that is taken, or else what follows
abbrev pub named_once : {A : Type 0} → Option Place → Result A Halted → Result A Halted
named_once (Some at) more = Err (Refuses (taken_at at))
named_once None more = more

-- The walk of a stream: no two of its modules have one name; then the references of the `LPL` import are visited in
-- order, without parameters and on an empty path.
unfoldable pub walked : Library → LoadedText → LplOutline → Walked
walked library stream lpl =
    named_once (named_twice stream [] stream.modules)
    (visit_all (visit most_instances library) [] (start stream) (references_of stream [] [] lpl.imports))

-- the flat program of a stream, or its first refusal
abbrev pub flattened : Library → LoadedText → LplOutline → Span → Result Flat Halted
flattened library stream lpl query = next (walked library stream lpl) (λ walk. Ok (flat_of lpl query walk))

-- the stream as the first text, with its modules
abbrev pub stream_with : List ℕ → List Token → List ModuleOutline → LoadedText
stream_with bytes tokens modules = record { «module» = None; bytes = bytes; tokens = tokens; modules = modules }

-- the same of a stream with its outline
abbrev pub stream_of : List ℕ → List Token → Outline → LoadedText
stream_of bytes tokens outline = stream_with bytes tokens outline.modules

-- the flat program of a stream with its outline, or its first refusal
abbrev pub flat_program : Library → List ℕ → List Token → Outline → Result Flat Halted
flat_program library bytes tokens outline =
    flattened library (stream_of bytes tokens outline) outline.lpl outline.query

-- the code is that of a module that nobody has
abbrev pub is_e06 : Code → Bool
is_e06 E06 = true
is_e06 code = false

-- a walk ends in that nobody has the text of a name
abbrev pub is_unknown : {A : Type 0} → Result A Halted → Bool
is_unknown (Ok a) = false
is_unknown (Err Silent) = false
is_unknown (Err (Refuses refusal)) = is_e06 refusal.code

-- no loader has a text
abbrev pub nobody : Library
nobody name = HasNone

-- a stream needs loaders: the walk over no libraries ends in that nobody has the text of a name
abbrev pub needs_loaders : List ℕ → List Token → Outline → Bool
needs_loaders bytes tokens outline = is_unknown (flat_program nobody bytes tokens outline)
