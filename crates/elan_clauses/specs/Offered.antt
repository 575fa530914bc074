-- What the law of validity asks: of how texts are read, and of a flat program.
use Rattle.std.specs.Prelude.{◌≡◌, ℕ, suc, [], ◌∷◌, ◌==◌, Bool, true, ◌&&◌, nat_lt, Some, Ok, List, length, slice_get, slice_range}
use Rattle.std.specs.List.{list_all, list_any, flat_map}
use Rattle.elan_terms.specs.declared.tree.SortId.{SortId}
use Rattle.elan_terms.specs.declared.tree.Pattern.{Pattern}
use Rattle.elan_terms.specs.Match.{occurrences}
use Rattle.elan_program.specs.declared.signature.Signature.{Signature}
use Rattle.elan_program.specs.Signature.{shapes_of}
use Rattle.elan_program.specs.Soundness.{most, has_sort_id}
use Rattle.elan_program.specs.Patterns.{pattern_sort}
use Rattle.elan_modules.specs.declared.flat.Flat.{Flat}
use Rattle.elan_modules.specs.declared.flat.LoadedText.{LoadedText}
use Rattle.elan_phrases.specs.declared.span.Span.{Span}
use Rattle.elan_syntax.specs.declared.parts.Vars.{Vars}
use Rattle.elan_syntax.specs.declared.parts.Definition.{Definition as DefinitionOutline}
use Rattle.elan_syntax.specs.declared.parts.ModuleOutline.{ModuleOutline}
use Rattle.elan_syntax.specs.declared.parts.Section.{Section}
use Rattle.elan_syntax.specs.declared.parts.Section.TheVariants as section
use Rattle.elan_reading.specs.declared.lexeme.Variable.{Variable}
use Rattle.elan_reading.specs.declared.sought.Sought.{Sought}
use Rattle.elan_reading.specs.declared.sought.Sought.TheVariants.{Sort, Any}
use Rattle.elan_clauses.specs.Texts.{Reader}

-- a variable with this number and this sort is declared
abbrev pub is_declared : List Variable → ℕ × SortId → Bool
is_declared vs v = list_any (λ w. w.number == v.0 && w.sort.0 == v.1.0) vs

-- a pattern is valid, and has the sort that was sought
abbrev pub IsOf : Signature → Sought → Pattern → Type 0
IsOf g (Sort s) p = pattern_sort (shapes_of g) p ≡ Some s
IsOf g Any p = (s : SortId) × (pattern_sort (shapes_of g) p ≡ Some s)

-- each run of a text is read as a valid pattern of the sort that was sought, over declared variables
abbrev pub ReadsWell : Reader → Signature → LoadedText → Type 0
ReadsWell read g text = (declared : List Variable) (sought : Sought) (at : Span) (p : Pattern)
    → read.reading g declared sought text.bytes (slice_range text.tokens at.first at.past) ≡ Ok p
    → IsOf g sought p × (list_all (is_declared declared) (occurrences p) ≡ true)

-- a definition has fewer than 4,294,967,296 parameters
abbrev pub has_few : DefinitionOutline → Bool
has_few d = nat_lt (length d.parameters) most

-- a section declares fewer than 4,294,967,296 variables, and each of its definitions has so few parameters
abbrev pub is_few : Section → Bool
is_few (section.Rules sort vars rules) = nat_lt (length (flat_map (λ (v : Vars). v.names) vars)) most
is_few (section.Strategies sort definitions) = list_all has_few definitions
is_few _ = true

-- the same of each section of a flat program
unfoldable pub is_small : Flat → Bool
is_small flat = list_all (λ (t : LoadedText). list_all (λ (m : ModuleOutline). list_all is_few m.sections) t.modules) flat.texts

-- variables are numbered from k on, and their sorts are there
abbrev pub are_declared : Signature → ℕ → List Variable → Bool
are_declared g k [] = true
are_declared g k (v ∷ vs) = (v.number == k && has_sort_id g v.sort) && are_declared g (suc k) vs
