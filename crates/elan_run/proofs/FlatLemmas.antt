-- The texts of a flat program may be read, and are read well.
use Rattle.std.proofs.Common.{◌≡◌, subst, ℕ, zero, suc, true, List, [], ◌∷◌, None, Some, slice_get}
use Rattle.std.specs.List.{All}
use Rattle.elan_terms.proofs.Lists.{AllOf, all_of, all_from, all_map}
use Rattle.elan_program.specs.declared.signature.Signature.{Signature}
use Rattle.elan_program.specs.Soundness.{is_sound}
use Rattle.elan_reading.specs.Lexemes.{IsInRange}
use Rattle.elan_chart.proofs.LawLemmas.{numbers}
use Rattle.elan_modules.specs.declared.flat.Flat.{Flat}
use Rattle.elan_modules.specs.declared.flat.LoadedText.{LoadedText}
use Rattle.elan_modules.specs.Fitting.{IsFitting, IsFlat}
use Rattle.elan_clauses.specs.Offered.{ReadsWell}
use Rattle.elan_clauses.specs.Readable.{IsReadable}
use Rattle.elan_check.specs.Validity.{ReadsAll}
use Rattle.elan_check.specs.Walk.{stream_of}
use Rattle.elan_reader.specs.Asked.{chart_reader}
use Rattle.elan_reader.proofs.ReaderLemmas.{reads_well}

readable_text : (text : LoadedText) → IsFitting text → IsReadable text
readable_text text f = record { inside = f.inside; in_range = numbers text.bytes text.tokens f.tokens }

pub readable : (flat : Flat) → IsFlat flat → All IsReadable flat.texts
readable flat f =
    all_from IsReadable flat.texts (all_map IsFitting IsReadable readable_text flat.texts (all_of IsFitting flat.texts f.texts))

-- what holds of all holds of the one at a place
at_place : {X : Type 0} (P : X → Type 0) (xs : List X) (n : ℕ) (x : X) → AllOf P xs → slice_get xs n ≡ Some x → P x
at_place P [] n x h e = absurd (no e)
  where
    no : None ≡ Some x → ⊥
    no f = cc
at_place P (y ∷ ys) zero x h e = let f : y ≡ x = cc in subst P f h.0
at_place P (y ∷ ys) (suc n) x h e = at_place P ys n x h.1 e

module _ (g : Signature) (sound : is_sound g ≡ true) where
  well : (text : LoadedText) → IsFitting text → ReadsWell chart_reader g text
  well text f = reads_well g text sound (readable_text text f).in_range

  stream_well : (texts : List LoadedText) → AllOf IsFitting texts → ReadsWell chart_reader g (stream_of texts)
  stream_well [] h = reads_well g (stream_of []) sound (all_from IsInRange [] tt)
  stream_well (text ∷ texts) h = well text h.0

  pub reads_all : (flat : Flat) → IsFlat flat → ReadsAll chart_reader g flat
  reads_all flat f = record {
    texts = λ n text is. well text (at_place IsFitting flat.texts n text (all_of IsFitting flat.texts f.texts) is);
    stream = stream_well flat.texts (all_of IsFitting flat.texts f.texts);
  }
