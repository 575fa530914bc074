-- A module that was looked for has the name.
use Rattle.std.proofs.Common.{◌≡◌, ℕ, ◌+◌, ◌&&◌, arith, cond, Bool, true, false, List, [], ◌∷◌, ◌++◌, length, slice_get, Option, Some, None, Result, Ok, Err, refl, sym, ap, ◌∙◌, subst}
use Rattle.std.specs.Prelude.{IfOk}
use Rattle.std.specs.List.{All}
use Rattle.std.specs.Str.{bytes_eq}
use Rattle.std.proofs.lemmas.Slice.Eq.{bytes_eq-Decides}
use Rattle.elan_text.specs.declared.name.Name.{Name}
use Rattle.elan_lexer.specs.declared.token.Token.{Token}
use Rattle.elan_lexer.specs.Text.{Fits, IsInside}
use Rattle.elan_forms.specs.Form.{whole}
use Rattle.elan_forms.proofs.Steps.{head_is, tail_is}
use Rattle.elan_phrases.specs.Symbols.{Seen, seen, the_name, names}
use Rattle.elan_syntax.specs.declared.parts.ModuleOutline.{ModuleOutline}
use Rattle.elan_syntax.specs.Grammar.{module_of, module_behind}
use Rattle.elan_syntax.specs.Outlines.{IsModuleOutline}
use Rattle.elan_modules.specs.declared.flat.LoadedText.{LoadedText}
use Rattle.elan_modules.specs.declared.flat.FlattenRefusal.{FlattenRefusal}
use Rattle.elan_modules.specs.declared.flat.Origin.{Origin}
use Rattle.elan_modules.specs.declared.walk.Opening.{Opening}
use Rattle.elan_modules.specs.declared.walk.Spot.{Spot}
use Rattle.elan_modules.specs.Sorts.{word_of}
use Rattle.elan_modules.specs.Modules.{Found, find_in, find, found_first, name_of, loaded_text}
use Rattle.elan_modules.specs.Finds.{Finds}
use Rattle.elan_modules.specs.Fitting.{IsModuleAt, IsOriginOf}
use Rattle.elan_modules.specs.Loads.{HasOne, IsOwn, only_outline}
use Rattle.elan_modules.proofs.FlatLemmas.{get_last}

-- ---- by the grammar

-- the second token is this name
record SecondIs (name : Name) (ts : List Seen) (outline : ModuleOutline) : Type 0 where
  head : Seen
  next : Seen
  rest : List Seen
  whole_is : ts ≡ head ∷ next ∷ rest
  number : outline.name ≡ 1
  named : the_name name next ≡ true

behind : (number n : ℕ) (ts : List Seen) (outline : ModuleOutline) → (module_behind number).words n ts outline → outline.name ≡ number
unfolding module_behind
behind number n ts outline (u, v, ps, p, (u2, v2, ss, s, (u3, v3, t, e, (last, is), w3), w2), w) = ap (λ o. o.name) is

second : (name : Name) (ts : List Seen) (outline : ModuleOutline) → (whole (module_of (the_name name))).words 0 ts outline
    → SecondIs name ts outline
unfolding module_of
second name ts outline (u, v, x, (u1, v1, x1, (ua, va, xa, (is_a, p_a), (none_a, unit_a), w1), (u2, v2, number, (ub, vb, start, (none_b, at), (uc, vc, t, (is_c, p_c), (none_c, is_number), wb), w2), b, wv1), wu), (none, same), w) =
    let single : u1 ≡ xa ∷ [] = rw (w1, is_a, none_a) refl in
    let one : 0 + length u1 ≡ 1 = rw single (omega arith) in
    record {
      head = xa;
      next = t;
      rest = v2 ++ v;
      whole_is = rw (w, wu, w1, is_a, none_a, wv1, w2, none_b, wb, is_c, none_c) refl;
      number = ap (λ o. o.name) same ∙ behind number _ v2 x b ∙ is_number ∙ at ∙ one;
      named = p_c;
    }

and_right : (a b : Bool) → (a && b) ≡ true → b ≡ true
and_right true b e = e
and_right false b e = absurd cc

-- the word of the second token
second_word : (bytes : List ℕ) (tokens : List Token) (head next : Seen) (rest : List Seen)
    → seen bytes tokens ≡ head ∷ next ∷ rest → word_of bytes (slice_get tokens 1) ≡ next.text
unfolding seen
second_word bytes [] head next rest e = absurd cc
second_word bytes (x ∷ []) head next rest e = absurd cc
second_word bytes (x ∷ y ∷ tokens) head next rest e = ap (λ s. s.text) (head_is _ _ _ _ (tail_is _ _ _ _ e))

named_at : (name : Name) (bytes : List ℕ) (tokens : List Token) (outline : ModuleOutline)
    → IsModuleOutline name (seen bytes tokens) outline → word_of bytes (slice_get tokens outline.name) ≡ name.bytes
unfolding the_name
named_at name bytes tokens outline is =
    let there = second name (seen bytes tokens) outline is.derived in
    let same = (bytes_eq-Decides name.bytes there.next.text).0
    (and_right (names there.next.symbol) (bytes_eq name.bytes there.next.text) there.named) in
    rw there.number (second_word bytes tokens there.head there.next there.rest there.whole_is ∙ sym same)

-- a text that was opened for a name
pub own_found : (name : Name) (bytes : List ℕ) (tokens : List Token) (outline : ModuleOutline)
    (result : Result LoadedText FlattenRefusal) → Fits bytes tokens → All (λ t. IsInside bytes t) tokens
    → IsModuleOutline name (seen bytes tokens) outline → IfOk result (λ text. text ≡ loaded_text name bytes tokens outline)
    → IfOk result (λ text. IsOwn name text)
own_found name bytes tokens outline (Ok text) fits inside is made = subst (IsOwn name) (sym made)
    (record { fitting = record { tokens = fits; inside = inside }; named = named_at name bytes tokens outline is })
own_found name bytes tokens outline (Err why) fits inside is made = tt

-- it stands behind the others
pub own_origin : (texts : List LoadedText) (name : Name) (text : LoadedText) → HasOne text.modules → IsOwn name text
    → IsModuleAt (texts ++ text ∷ []) name.bytes (length texts) 0
own_origin texts name text one own = record {
  text = text;
  outline = only_outline text.modules;
  text_is = get_last texts text;
  outline_is = ap (λ modules. slice_get modules 0) one;
  name_is = own.named;
}

-- ---- among texts

find_in_named : (text : LoadedText) (j : ℕ) (ms : List ModuleOutline) (name : List ℕ) (at : ℕ × ModuleOutline)
    → find_in text j ms name ≡ Some at → name_of text at.1 ≡ name
unfolding find_in
find_in_named text j [] name at e = absurd cc
find_in_named text j (m ∷ ms) name at e =
    go (bytes_eq (name_of text m) name) refl e (find_in_named text (j + 1) ms name at)
  where
    go : (d : Bool) → bytes_eq (name_of text m) name ≡ d
        → cond d (Some (j, m)) (find_in text (j + 1) ms name) ≡ Some at
        → (find_in text (j + 1) ms name ≡ Some at → name_of text at.1 ≡ name) → name_of text at.1 ≡ name
    go true is e rest = let same : (j, m) ≡ at = cc in
        ap (λ a. name_of text a.1) (sym same) ∙ (bytes_eq-Decides (name_of text m) name).0 is
    go false is e rest = rest e

found_named : (texts : List LoadedText) (i : ℕ) (name : List ℕ) (found : Found) → find i texts name ≡ Some found
    → name_of found.text found.outline ≡ name
unfolding find
found_named [] i name found e = absurd cc
found_named (text ∷ texts) i name found e =
    go (find_in text 0 text.modules name) refl e (found_named texts (i + 1) name found)
  where
    go : (x : Option (ℕ × ModuleOutline)) → find_in text 0 text.modules name ≡ x
        → found_first i text x (find (i + 1) texts name) ≡ Some found
        → (find (i + 1) texts name ≡ Some found → name_of found.text found.outline ≡ name)
        → name_of found.text found.outline ≡ name
    go None is e rest = rest e
    go (Some at) is e rest =
        let same : record { text_number = i; module_number = at.0; text = text; outline = at.1 } ≡ found = cc in
        ap (λ f. name_of f.text f.outline) (sym same) ∙ find_in_named text 0 text.modules name at is

-- a spot that was found is that of a module with the name
pub found_origin : (texts : List LoadedText) (name : List ℕ) (spot : Spot) → Finds texts (Some spot) (find 0 texts name)
    → IsModuleAt texts name spot.text spot.«module»
found_origin texts name spot is = go (find 0 texts name) refl is
  where
    go : (x : Option Found) → find 0 texts name ≡ x → Finds texts (Some spot) x
        → IsModuleAt texts name spot.text spot.«module»
    go None e is = absurd is
    go (Some found) e is = record {
      text = found.text;
      outline = found.outline;
      text_is = is.text;
      outline_is = is.outline;
      name_is = found_named texts 0 name found e;
    }

-- the origin of an instance that is begun is that of its module
pub origin_is : (texts : List LoadedText) (name : List ℕ) (result : Result Opening FlattenRefusal) (origin : Origin)
    → IfOk result (λ o. o.origin ≡ origin) → IsOriginOf texts name origin
    → IfOk result (λ o. IsOriginOf texts name o.origin)
origin_is texts name (Ok o) origin is known = rw is known
origin_is texts name (Err why) origin is known = tt
