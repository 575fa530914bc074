-- What stands in a walk, and in the flat program of its end.
use Rattle.std.proofs.Common.{◌≡◌, ℕ, zero, suc, List, [], ◌∷◌, ◌++◌, drop, length, slice_get, Some, refl, sym, subst}
use Rattle.std.specs.List.{All}
use Rattle.std.proofs.lemmas.List.Elements.{All-nil, All-cons, All-push, All-weaker}
use Rattle.elan_text.specs.declared.name.Name.{Name}
use Rattle.elan_lexer.specs.declared.token.Token.{Token}
use Rattle.elan_lexer.specs.Text.{Fits}
use Rattle.elan_lexer.proofs.Inside.{inside}
use Rattle.elan_phrases.specs.declared.span.Span.{Span}
use Rattle.elan_syntax.specs.declared.parts.LplOutline.{LplOutline}
use Rattle.elan_syntax.specs.declared.parts.Outline.{Outline}
use Rattle.elan_modules.specs.declared.flat.LoadedText.{LoadedText}
use Rattle.elan_modules.specs.declared.flat.Origin.{Origin}
use Rattle.elan_modules.specs.declared.flat.Origin.TheVariants.{Builtin, Text}
use Rattle.elan_modules.specs.declared.flat.Instance.{Instance}
use Rattle.elan_modules.specs.Fitting.{IsFitting, IsOriginOf, HasOrigin, IsFlat}
use Rattle.elan_modules.specs.Walking.{Walk, Keeps, IsIndexed, IsWalk}
use Rattle.elan_modules.specs.Visits.{flat_of, stream_of}

-- ---- texts that stand where they stood

get_further : {A : Type 0} (xs ys : List A) (n : ℕ) (x : A) → slice_get xs n ≡ Some x → slice_get (xs ++ ys) n ≡ Some x
get_further [] ys n x e = absurd cc
get_further (y ∷ xs) ys zero x e = e
get_further (y ∷ xs) ys (suc n) x e = get_further xs ys n x e

pub keeps_more : (texts : List LoadedText) (text : LoadedText) → Keeps texts (texts ++ text ∷ [])
keeps_more texts text n found e = get_further texts (text ∷ []) n found e

pub keeps_same : (before after : List LoadedText) → after ≡ before → Keeps before after
keeps_same before after same n found e = rw same e

pub get_last : {A : Type 0} (xs : List A) (x : A) → slice_get (xs ++ x ∷ []) (length xs) ≡ Some x
get_last [] x = refl
get_last (y ∷ xs) x = get_last xs x

pub origin_kept : (before after : List LoadedText) (name : List ℕ) → Keeps before after → (origin : Origin)
    → IsOriginOf before name origin → IsOriginOf after name origin
origin_kept before after name keeps (Builtin built_in) is = is
origin_kept before after name keeps (Text t m) is = record {
  text = is.text;
  outline = is.outline;
  text_is = keeps t is.text is.text_is;
  outline_is = is.outline_is;
  name_is = is.name_is;
}

-- ---- one text or one instance more

loaded_more : (texts : List LoadedText) (text : LoadedText) → All IsFitting (drop 1 texts) → IsFitting text
    → All IsFitting (drop 1 (texts ++ text ∷ []))
loaded_more [] text all is = All-nil IsFitting
loaded_more (first ∷ texts) text all is = All-push IsFitting texts text all is

pub walk_loaded : (keys : List Name) (texts : List LoadedText) (done : List Instance) (text : LoadedText)
    → IsWalk keys texts done → IsFitting text → IsWalk keys (texts ++ text ∷ []) done
walk_loaded keys texts done text is fits = record {
  indexed = is.indexed;
  loaded = loaded_more texts text is.loaded fits;
  origins = All-weaker (HasOrigin texts) (HasOrigin (texts ++ text ∷ []))
      (λ i. origin_kept texts (texts ++ text ∷ []) i.name.bytes (keeps_more texts text) i.origin) done is.origins;
}

pub walk_finished : (keys more : List Name) (texts : List LoadedText) (done : List Instance) (i : Instance)
    → IsWalk keys texts done → IsIndexed more (done ++ i ∷ []) → HasOrigin texts i → IsWalk more texts (done ++ i ∷ [])
walk_finished keys more texts done i is indexed origin = record {
  indexed = indexed;
  loaded = is.loaded;
  origins = All-push (HasOrigin texts) done i is.origins origin;
}

pub walk_begun : (stream : LoadedText) → IsWalk [] (stream ∷ []) []
walk_begun stream = record {
  indexed = λ key. refl;
  loaded = All-nil IsFitting;
  origins = All-nil (HasOrigin (stream ∷ []));
}

-- ---- the end of a walk

all_fit : (texts : List LoadedText) (stream : LoadedText) → slice_get texts 0 ≡ Some stream → IsFitting stream
    → All IsFitting (drop 1 texts) → All IsFitting texts
all_fit [] stream e is all = absurd cc
all_fit (text ∷ texts) stream e is all =
    let same : text ≡ stream = cc in All-cons IsFitting text texts (subst IsFitting (sym same) is) all

pub is_flat : (lpl : LplOutline) (query : Span) (walk : Walk) → All IsFitting (drop 1 walk.texts)
    → All (HasOrigin walk.texts) walk.done → (stream : LoadedText) → slice_get walk.texts 0 ≡ Some stream
    → IsFitting stream → IsFlat (flat_of lpl query walk)
is_flat lpl query walk loaded origins stream first is =
    record { texts = all_fit walk.texts stream first is loaded; origins = origins }

-- a stream with its own tokens
pub stream_fits : (bytes : List ℕ) (tokens : List Token) (outline : Outline) → Fits bytes tokens
    → IsFitting (stream_of bytes tokens outline)
stream_fits bytes tokens outline is = record { tokens = is; inside = inside bytes tokens is }
