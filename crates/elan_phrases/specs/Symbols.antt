-- What a token is to the grammar, and which tokens its rules speak of.
use Rattle.std.specs.Prelude.{ℕ, Bool, true, false, not, cond, nat_le, ◌&&◌, ◌||◌, List, [], ◌∷◌, map, Option, Some, None, codes}
use Rattle.std.specs.List.{list_any}
use Rattle.std.specs.Str.{bytes_eq}
use denote.Enum.Bare.{sameb}
use Rattle.elan_lexer.specs.declared.token.Kind.{Kind}
use Rattle.elan_lexer.specs.declared.token.Token.{Token}
use Rattle.elan_lexer.specs.Bytes.{value}
use Rattle.elan_lexer.specs.Text.{token_text}
use Rattle.elan_text.specs.declared.name.Name.{Name as TextName}
use Rattle.elan_lexer.specs.declared.token.Kind.TheVariants.{Word as AWord, Number as ANumber, Sign as ASign}
use Rattle.elan_phrases.specs.declared.symbol.Symbol.{Symbol}
use Rattle.elan_phrases.specs.declared.symbol.Symbol.TheVariants.{Module, Import, Sort, Operators, Rules, Strategies, For, Global, Local, End, Where, If, Lpl, Number, Arrow, Becomes, Comma, Semicolon, Colon, LeftRound, RightRound, LeftSquare, RightSquare, Hole, Star, Plus, Sign, Id, Fail, Dk, Dc, First, Repeat, Iterate, Normalise, One, Implicit, Pri, AssocLeft, AssocRight, Ac, Description, Query, Of, Result, Start, With, Name}
use Rattle.elan_phrases.specs.declared.symbol.Importer.{Importer}
use Rattle.elan_phrases.specs.declared.symbol.Importer.TheVariants.{AModule, AnLplText}
use Rattle.elan_phrases.specs.contracts.symbol.Symbol.{the_type}

-- `==` on symbols
unfoldable pub same_symbol : Symbol → Symbol → Bool
same_symbol = sameb the_type

-- the symbol that a table gives to a text
abbrev pub look_up : List ℕ → List (List ℕ × Symbol) → Option Symbol
look_up text [] = None
look_up text (entry ∷ entries) = cond (bytes_eq text entry.0) (Some entry.1) (look_up text entries)

-- the words that no name may be
unfoldable pub reserved_words : List (List ℕ × Symbol)
reserved_words =
    (codes "module", Module) ∷ (codes "import", Import) ∷ (codes "sort", Sort) ∷ (codes "operators", Operators)
    ∷ (codes "rules", Rules) ∷ (codes "strategies", Strategies) ∷ (codes "for", For) ∷ (codes "global", Global)
    ∷ (codes "local", Local) ∷ (codes "end", End) ∷ (codes "where", Where) ∷ (codes "if", If) ∷ (codes "LPL", Lpl) ∷ []

-- the words that a strategy is made of, and no label may be
unfoldable pub strategy_words : List (List ℕ × Symbol)
strategy_words =
    (codes "id", Id) ∷ (codes "fail", Fail) ∷ (codes "dk", Dk) ∷ (codes "dc", Dc) ∷ (codes "first", First)
    ∷ (codes "repeat", Repeat) ∷ (codes "iterate", Iterate) ∷ (codes "normalise", Normalise) ∷ []

-- the other words that have a place of their own; they are names and labels elsewhere
unfoldable pub placed_words : List (List ℕ × Symbol)
placed_words =
    (codes "one", One) ∷ (codes "implicit", Implicit) ∷ (codes "pri", Pri) ∷ (codes "assocLeft", AssocLeft)
    ∷ (codes "assocRight", AssocRight) ∷ (codes "AC", Ac) ∷ (codes "description", Description) ∷ (codes "query", Query)
    ∷ (codes "of", Of) ∷ (codes "result", Result) ∷ (codes "start", Start) ∷ (codes "with", With) ∷ []

-- the signs that the grammar names
unfoldable pub named_signs : List (List ℕ × Symbol)
named_signs =
    (codes "=>", Arrow) ∷ (codes ":=", Becomes) ∷ (codes ",", Comma) ∷ (codes ";", Semicolon) ∷ (codes ":", Colon)
    ∷ (codes "(", LeftRound) ∷ (codes ")", RightRound) ∷ (codes "[", LeftSquare) ∷ (codes "]", RightSquare)
    ∷ (codes "@", Hole) ∷ (codes "*", Star) ∷ (codes "+", Plus) ∷ []

-- the symbol that was found, or else the other
abbrev pub found_or : Option Symbol → Symbol → Symbol
found_or (Some s) other = s
found_or None other = other

-- the symbol of a word
unfoldable pub word_symbol : List ℕ → Symbol
word_symbol text =
    found_or (look_up text reserved_words)
    (found_or (look_up text strategy_words) (found_or (look_up text placed_words) Name))

-- the symbol of a token of this kind with these bytes
unfoldable pub symbol_of : Kind → List ℕ → Symbol
symbol_of AWord text = word_symbol text
symbol_of ANumber text = Number
symbol_of ASign text = found_or (look_up text named_signs) Sign

-- a token as the grammar sees it
pub record Seen : Type 0 where
  pub symbol : Symbol
  pub text : List ℕ

-- the tokens of a text as the grammar sees them
unfoldable pub seen : List ℕ → List Token → List Seen
seen bytes = map (λ t. record { symbol = symbol_of t.kind (token_text bytes t); text = token_text bytes t })

-- ---- kinds of tokens

-- this symbol alone
abbrev pub one : Symbol → Symbol → Bool
one s x = same_symbol x s

-- a word that is not reserved
unfoldable pub names : Symbol → Bool
names Module = false
names Import = false
names Sort = false
names Operators = false
names Rules = false
names Strategies = false
names For = false
names Global = false
names Local = false
names End = false
names Where = false
names If = false
names Lpl = false
names Number = false
names Arrow = false
names Becomes = false
names Comma = false
names Semicolon = false
names Colon = false
names LeftRound = false
names RightRound = false
names LeftSquare = false
names RightSquare = false
names Hole = false
names Star = false
names Plus = false
names Sign = false
names _ = true

-- a name that may label a rule
unfoldable pub labels : Symbol → Bool
labels Id = false
labels Fail = false
labels Dk = false
labels Dc = false
labels First = false
labels Repeat = false
labels Iterate = false
labels Normalise = false
labels s = names s

-- `id` or `fail`
abbrev pub plain_steps : Symbol → Bool
plain_steps s = one Id s || one Fail s

-- `dc` or `first`
unfoldable pub choices : Symbol → Bool
choices Dc = true
choices First = true
choices _ = false

-- a name that does not end the imports of an `LPL` text
unfoldable pub imported : Symbol → Bool
imported Start = false
imported s = names s

-- a name that may be that of a module where this imports
abbrev pub importable : Importer → Symbol → Bool
importable AModule s = names s
importable AnLplText s = imported s

-- `global` or `local`
unfoldable pub visibilities : Symbol → Bool
visibilities Global = true
visibilities Local = true
visibilities _ = false

-- a token of a spelling: all but reserved words, numbers, `:`, `;`, `=>` and `:=`
unfoldable pub spelled : Symbol → Bool
spelled Comma = true
spelled LeftRound = true
spelled RightRound = true
spelled LeftSquare = true
spelled RightSquare = true
spelled Hole = true
spelled Star = true
spelled Plus = true
spelled Sign = true
spelled s = names s

-- a token of a text: all but reserved words, `=>` and `:=`
unfoldable pub in_text : Symbol → Bool
in_text Arrow = false
in_text Becomes = false
in_text Number = true
in_text Comma = true
in_text Semicolon = true
in_text Colon = true
in_text LeftRound = true
in_text RightRound = true
in_text LeftSquare = true
in_text RightSquare = true
in_text Hole = true
in_text Star = true
in_text Plus = true
in_text Sign = true
in_text s = names s

-- a token whose symbol passes the test
abbrev pub a : (Symbol → Bool) → Seen → Bool
a p t = p t.symbol

-- ---- tokens whose bytes count

-- the greatest priority
abbrev pub most_priority : ℕ
most_priority = 255

-- the value of digits, where it is no greater than the greatest priority
unfoldable pub small_value : List ℕ → Option ℕ
small_value digits = cond (nat_le (value digits) most_priority) (Some (value digits)) None

-- a number that is no greater than the greatest priority
unfoldable pub small_numbers : Seen → Bool
small_numbers t = one Number t.symbol && nat_le (value t.text) most_priority

-- the word is the bytes of a name
abbrev pub is_named : List ℕ → TextName → Bool
is_named word name = bytes_eq name.bytes word

-- a name that is none of these
unfoldable pub fresh : List TextName → Seen → Bool
fresh taken t = names t.symbol && not (list_any (is_named t.text) taken)

-- this name
unfoldable pub the_name : TextName → Seen → Bool
the_name name t = names t.symbol && is_named t.text name

-- these bytes are a word that is not reserved, once they are a word
unfoldable pub is_unreserved : List ℕ → Bool
is_unreserved word = names (word_symbol word)
