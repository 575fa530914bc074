-- Worked walks, whose values the definitions compute from the bytes of the texts.
use Rattle.std.proofs.Common.{◌≡◌, ℕ, List, [], ◌∷◌, ◌++◌, Option, Some, None, Ok, Err, cond, refl}
use Rattle.std.specs.Prelude.{codes}
use Rattle.std.specs.Str.{bytes_eq}
use Rattle.elan_text.specs.declared.refusal.Code.{Code}
use Rattle.elan_text.specs.declared.refusal.Code.TheVariants.{E02, E05, E06, E07, E08, E09, E14}
use Rattle.elan_text.specs.declared.name.Name.{Name}
use Rattle.elan_lexer.specs.declared.token.Token.{Token}
use Rattle.elan_lexer.specs.Lex.{Lexed, lexed}
use Rattle.elan_forms.specs.Whole.{Answer, done, refused as halted}
use Rattle.elan_phrases.specs.Symbols.{Seen, seen}
use Rattle.elan_syntax.specs.Grammar.{stream}
use Rattle.elan_syntax.specs.declared.parts.Outline.{Outline}
use Rattle.elan_modules.specs.declared.flat.LoadedText.{LoadedText}
use Rattle.elan_modules.specs.declared.flat.Origin.TheVariants.{Builtin, Text}
use Rattle.elan_modules.specs.declared.flat.Standard.{Standard}
use Rattle.elan_modules.specs.declared.flat.Standard.TheVariants as built
use Rattle.elan_modules.specs.declared.flat.Instance.{Instance}
use Rattle.elan_loaders.specs.Libraries.{first_told, Library as Texts}
use Rattle.elan_modules.specs.Visits.{Library, Halted, Refuses, Silent, Walked, walked, stream_of}
use Rattle.elan_modules.proofs.Computed.{computed}

-- the instances that a walk finishes and the names of the texts that it loads, or why it ends
data Came : Type 0 where
  Finishes : List Instance → List (Option Name) → Came
  Ends : Halted → Came
  NoStream : Came

came : Walked → Came
came (Ok walk) = Finishes walk.done (names walk.texts)
  where
    names : List LoadedText → List (Option Name)
    names [] = []
    names (text ∷ texts) = text.«module» ∷ names texts
came (Err why) = Ends why

-- where the walk of a stream of these bytes comes to
of_outline : Library → List ℕ → List Token → Answer Seen Outline → Came
unfolding came
of_outline library bytes tokens (done o n rest) =
    came (walked library (stream_of bytes tokens o) o.lpl)
of_outline library bytes tokens (halted why rest) = NoStream

of_tokens : Library → List ℕ → Lexed → Came
unfolding of_outline
of_tokens library bytes (Ok tokens) = of_outline library bytes tokens (stream.read 0 (seen bytes tokens))
of_tokens library bytes (Err e) = NoStream

where_to : List (Option Texts) → List ℕ → Came
unfolding of_tokens
where_to libraries bytes = of_tokens (first_told libraries) bytes (lexed bytes)

-- a library with one text
abbrev one : List ℕ → List ℕ → Option Texts
one name text = Some (λ wanted. cond (bytes_eq wanted name) (Some text) None)

-- the walk ends with this refusal, in the stream or in the text of a module
abbrev refused : Option Name → Code → ℕ → ℕ → Came
refused module_ code line column =
    Ends (Refuses (record { code = code; at = record { line = line; column = column }; «module» = module_ }))

abbrev named : List ℕ → Name
named bytes = record { bytes = bytes }

-- an instance of a module that is built in
abbrev standard : List ℕ → Standard → Instance
standard name built_in = record { name = named name; args = []; origin = Builtin built_in }

-- an instance without arguments of a module of a text
abbrev plain : List ℕ → ℕ → ℕ → Instance
plain name text number = record { name = named name; args = []; origin = Text text number }

-- an instance with one argument
abbrev applied : List ℕ → List ℕ → ℕ → ℕ → Instance
applied name arg text number = record { name = named name; args = named arg ∷ []; origin = Text text number }

-- what is asked, of a module with this name
abbrev ask : List ℕ → List ℕ
ask m = codes "LPL q description\nquery of sort s\nresult of sort s\nimport " ++ m ++ codes "\nstart with (id) query\nend\na end\n"

-- two modules that import each other
cycle : where_to [] (codes "module m1\nimport m2; end\nend\nmodule m2\nimport m1; end\nend\n" ++ ask (codes "m1"))
    ≡ refused None E08 5 8
unfolding computed where_to
cycle = refl

-- `eq` without its argument
short : where_to [] (ask (codes "eq")) ≡ refused None E07 4 8
unfolding computed where_to
short = refl

-- a name that nobody has, and one of which nothing is told
missing : where_to [] (ask (codes "missing")) ≡ refused None E06 4 8
unfolding computed where_to
missing = refl

-- a loader tells nothing
silent : where_to (None ∷ []) (ask (codes "missing")) ≡ Ends Silent
unfolding computed where_to
silent = refl

-- a loader is not asked for what is built in, which stands before what imports it
needless : where_to (None ∷ []) (ask (codes "int")) ≡ Finishes (standard (codes "bool") built.Bool ∷ standard (codes "int") built.Int ∷ []) (None ∷ [])
unfolding computed where_to
needless = refl

-- a loaded module with a parameter
cell : where_to (one (codes "cell") (codes "module cell[X]\nsort cell[X]; end\noperators\nwrap(@) : (X) cell[X];\nend\nend\n") ∷ [])
    (codes "module top\nimport cell[s]; end\nsort s; end\noperators\nz : s;\nend\nend\n" ++ ask (codes "top"))
    ≡ Finishes (applied (codes "cell") (codes "s") 1 0 ∷ plain (codes "top") 0 0 ∷ []) (None ∷ Some (named (codes "cell")) ∷ [])
unfolding computed where_to
cell = refl

-- the built-in module is finished before the loaded one, and its importer last
use_ : where_to (one (codes "list") (codes "module list[X]\nsort list[X]; end\noperators global\n  nil : list[X];\n  @ . @ : (X list[X]) list[X] pri 5 assocRight;\nend\nend\n") ∷ [])
    (codes "module use\nimport global int list[int]; end\nend\n" ++ ask (codes "use"))
    ≡ Finishes (standard (codes "bool") built.Bool ∷ standard (codes "int") built.Int ∷ applied (codes "list") (codes "int") 1 0 ∷ plain (codes "use") 0 0 ∷ []) (None ∷ Some (named (codes "list")) ∷ [])
unfolding computed where_to
use_ = refl

-- two instances of one text, which is loaded once
twice : where_to (one (codes "list") (codes "module list[X]\nsort list[X]; end\noperators global\n  nil : list[X];\n  @ . @ : (X list[X]) list[X] pri 5 assocRight;\nend\nend\n") ∷ [])
    (codes "module use\nimport global int list[int] list[bool]; end\nend\n" ++ ask (codes "use"))
    ≡ Finishes (standard (codes "bool") built.Bool ∷ standard (codes "int") built.Int ∷ applied (codes "list") (codes "int") 1 0 ∷ applied (codes "list") (codes "bool") 1 0
    ∷ plain (codes "use") 0 0 ∷ []) (None ∷ Some (named (codes "list")) ∷ [])
unfolding computed where_to
twice = refl

-- of two loaders the first one with the text decides: the second has a text without tokens
first : where_to (one (codes "other") [] ∷ one (codes "cell") (codes "module cell[X]\nsort cell[X]; end\noperators\nwrap(@) : (X) cell[X];\nend\nend\n") ∷ one (codes "cell") [] ∷ []) (ask (codes "cell[t[s]]"))
    ≡ Finishes (applied (codes "cell") (codes "t[s]") 1 0 ∷ []) (None ∷ Some (named (codes "cell")) ∷ [])
unfolding computed where_to
first = refl

-- in the other order it is the text without tokens
last : where_to (one (codes "cell") [] ∷ one (codes "cell") (codes "module cell[X]\nsort cell[X]; end\noperators\nwrap(@) : (X) cell[X];\nend\nend\n") ∷ []) (ask (codes "cell[s]"))
    ≡ refused (Some (named (codes "cell"))) E05 1 1
unfolding computed where_to
last = refl

-- a loaded text is a module of the name that was asked for
other : where_to (one (codes "m") (codes "// comment\nmodule n end") ∷ []) (ask (codes "m")) ≡ refused (Some (named (codes "m"))) E05 2 8
unfolding computed where_to
other = refl

-- a bad byte of a loaded text is refused in that text
bad : where_to (one (codes "m") (codes "module m\n" ++ 200 ∷ []) ∷ []) (ask (codes "m")) ≡ refused (Some (named (codes "m"))) E02 2 1
unfolding computed where_to
bad = refl

-- a module of the stream with the name of an earlier one
again : where_to [] (codes "module m end\nmodule n end module m end\n" ++ ask (codes "n")) ≡ refused None E09 2 21
unfolding computed where_to
again = refl

-- a module of the stream with the name of one that is built in
taken : where_to [] (codes "module n end module eq end\n" ++ ask (codes "n")) ≡ refused None E09 1 21
unfolding computed where_to
taken = refl

-- what no visit reaches is not looked at
unseen : where_to [] (codes "module n import missing; end end module m end\n" ++ ask (codes "m bool m")) ≡ Finishes (plain (codes "m") 0 1 ∷ standard (codes "bool") built.Bool ∷ []) (None ∷ [])
unfolding computed where_to
unseen = refl

-- a parameter with brackets behind it stays, and one inside of them is replaced
inner : where_to [] (codes "module n[X] import m[X[X],t[X],X]; end end module m[A,B,C] end\n" ++ ask (codes "n[u[v]]")) ≡ Finishes (record { name = named (codes "m"); args = named (codes "X[u[v]]") ∷ named (codes "t[u[v]]") ∷ named (codes "u[v]") ∷ []; origin = Text 0 1 } ∷ applied (codes "n") (codes "u[v]") 0 0 ∷ []) (None ∷ [])
unfolding computed where_to
inner = refl

-- 33 names of which 32 are replaced by two names each are 65; with 31 of them there are 63
long : where_to [] (codes "module n[X]\nsort a\n  s[X,X,X,X,X,X,X,X,X,X,X,X,X,X,X,X,X,X,X,X,X,X,X,X,X,X,X,X,X,X,X,X]; end end\n" ++ ask (codes "n[u[v]]")) ≡ refused None E14 3 3
unfolding computed where_to
long = refl

-- with 31 of them there are 63
short_enough : where_to [] (codes "module n[X]\nsort a\n  s[X,X,X,X,X,X,X,X,X,X,X,X,X,X,X,X,X,X,X,X,X,X,X,X,X,X,X,X,X,X,X]; end end\n" ++ ask (codes "n[u[v]]")) ≡ Finishes (applied (codes "n") (codes "u[v]") 0 0 ∷ []) (None ∷ [])
unfolding computed where_to
short_enough = refl
