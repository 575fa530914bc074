-- Whole streams, and modules of a name, are read exactly.
use Rattle.std.proofs.Common.{◌≡◌, ℕ, Bool, true, false, ◌&&◌, List, [], ◌∷◌, ◌++◌, refl}
use Rattle.std.specs.Str.{bytes_eq}
use Rattle.std.proofs.lemmas.Slice.Eq.{bytes_eq-Decides}
use Rattle.elan_text.specs.declared.name.Name.{Name as TextName}
use Rattle.elan_forms.specs.Whole.{Gives}
use Rattle.elan_forms.specs.Form.{◌>>=◌, pure}
use Rattle.elan_forms.proofs.Takes.{Takes, Stands, May, none, both, so, may_pure, then_stands, then_next, then_last, may_then_stands, may_loop, takes_spanned, apart_none, none_within, within_itself, whole_gives}
use Rattle.elan_phrases.specs.declared.symbol.Symbol.{Symbol}
use Rattle.elan_phrases.specs.declared.symbol.Symbol.TheVariants.{Module, Import, Sort, End, Lpl, LeftRound, RightRound, LeftSquare, Description, Query, Of, Result, Start, With}
use Rattle.elan_phrases.specs.declared.symbol.Importer.TheVariants.{AnLplText}
use Rattle.elan_phrases.specs.Symbols.{Seen, same_symbol, one, a, names, labels, choices, imported, in_text, word_symbol, is_unreserved, the_name}
use Rattle.elan_phrases.specs.Tokens.{number_of}
use Rattle.elan_phrases.proofs.SymbolSets.{separate}
use Rattle.elan_phrases.proofs.ExactTokens.{kind, sign_takes, name_takes, narrow_takes}
use Rattle.elan_phrases.proofs.ExactTexts.{text_takes}
use Rattle.elan_phrases.proofs.ExactSorts.{sort_span_takes, references_takes, after_references}
use Rattle.elan_phrases.proofs.ExactStrategies.{some_strategy_may}
use Rattle.elan_syntax.specs.declared.parts.ModuleOutline.{ModuleOutline}
use Rattle.elan_syntax.specs.Grammar.{module_of, more_modules, sort_of, start_with, lpl_imports, lpl, program, stream, module_text}
use Rattle.elan_syntax.proofs.ExactGrammar.{module_of_takes, any_module_takes}

module _ (m : ℕ) where
  pub one_module_takes : (found : List ModuleOutline) →
      Takes kind m (one Module) none (module_of (a names) >>= (λ x. pure (found ++ x ∷ [])))
  one_module_takes found = then_last (any_module_takes m) (λ _. may_pure)

  more_modules_may : (found : List ModuleOutline) → May kind m (one Module) (one Module) (more_modules found)
  unfolding more_modules
  more_modules_may found = may_loop one_module_takes apart_none within_itself none_within found

  sort_of_takes : (word : Symbol) → Takes kind m (one word) (one LeftSquare) (sort_of word)
  unfolding sort_of
  sort_of_takes word =
      then_next (sign_takes m word) (λ _.
      so (then_next (sign_takes m Of) (λ _.
      so (then_next (sign_takes m Sort) (λ _. so (sort_span_takes m))))))

  start_with_takes : Takes kind m (one Start) none start_with
  unfolding start_with same_symbol labels names choices
  start_with_takes =
      then_next (sign_takes m Start) (λ _.
      so (then_next (sign_takes m With) (λ _.
      so (then_next (sign_takes m LeftRound) (λ _.
      may_then_stands (some_strategy_may m) (λ start. so (then_last (sign_takes m RightRound) (λ _. may_pure)))
      (separate refl))))))

  lpl_imports_takes : Takes kind m (one Import) (after_references AnLplText) lpl_imports
  unfolding lpl_imports
  lpl_imports_takes = then_next (sign_takes m Import) (λ _. so (references_takes m AnLplText []))

  lpl_takes : Takes kind m (one Lpl) none lpl
  unfolding lpl same_symbol imported names
  lpl_takes =
      then_next (sign_takes m Lpl) (λ _.
      so (then_next (name_takes m) (λ _.
      so (then_next (sign_takes m Description) (λ _.
      so (then_stands (sort_of_takes Query) (λ query_sort.
      so (then_stands (sort_of_takes Result) (λ result_sort.
      so (then_stands lpl_imports_takes (λ imports.
      so (then_next start_with_takes (λ start.
      so (then_next (sign_takes m Query) (λ _.
      so (then_last (sign_takes m End) (λ _. may_pure)))))))
      (separate refl)))
      (separate refl)))
      (separate refl)))))))

  program_stands : Stands kind m (both (one Module) (one Lpl)) none program
  unfolding program same_symbol in_text names
  program_stands =
      may_then_stands (more_modules_may []) (λ modules.
      so (then_next lpl_takes (λ lpl.
      so (then_stands (text_takes m) (λ query.
      so (then_last (sign_takes m End) (λ _. may_pure)))
      (separate refl)))))
      (separate refl)

pub stream_gives : (ts : List Seen) → Gives (stream.words 0) (stream.marks 0) ts (stream.read 0 ts)
stream_gives ts = whole_gives kind (both (one Module) (one Lpl)) none program program_stands ts

-- ---- a module of a name

and_left : (x y : Bool) → x && y ≡ true → x ≡ true
and_left true y e = refl
and_left false y e = e

and_both : (x y : Bool) → x ≡ true → y ≡ true → x && y ≡ true
and_both true y e f = f
and_both false y e f = e

-- the token of a name
abbrev token_of : TextName → Seen
token_of name = record { symbol = word_symbol name.bytes; text = name.bytes }

the_name_is : (name : TextName) → is_unreserved name.bytes ≡ true → the_name name (token_of name) ≡ true
unfolding the_name is_unreserved
the_name_is name e = and_both (names (word_symbol name.bytes)) (bytes_eq name.bytes name.bytes) e
    ((bytes_eq-Decides name.bytes name.bytes).1 refl)

the_name_takes : (m : ℕ) (name : TextName) → is_unreserved name.bytes ≡ true →
    Takes kind m names none (number_of (the_name name))
unfolding the_name
the_name_takes m name e = takes_spanned (λ first past. first)
    (narrow_takes m names (the_name name) (token_of name) (the_name_is name e)
    (λ t h. and_left (names t.symbol) _ h))

pub module_gives : (name : TextName) → is_unreserved name.bytes ≡ true → (ts : List Seen) →
    Gives ((module_text name).words 0) ((module_text name).marks 0) ts ((module_text name).read 0 ts)
module_gives name e ts = whole_gives kind (one Module) none (module_of (the_name name))
    (λ m. so (module_of_takes m (the_name name) (the_name_takes m name e))) ts
