-- The variables at the places of a word are all variables of the word.
use Rattle.std.proofs.Common.{◌≡◌, refl, ap, subst, ◌∙◌, ℕ, ◌+◌, Bool, true, false, List, [], ◌∷◌, ◌++◌, slice_get, length, Some}
use Rattle.std.specs.List.{flat_map}
use Rattle.std.proofs.lemmas.Grind.{flat_map-append}
use Rattle.std.proofs.lemmas.List.{append_assoc, length_push, append-nil}
use Rattle.elan_reading.specs.declared.lexeme.Variable.{Variable}
use Rattle.elan_variables.specs.Places.{place_if}
use Rattle.elan_variables.specs.Named.{is_called, places_of}
use Rattle.elan_entries.specs.declared.found.Entry.{Entry}
use Rattle.elan_entries.specs.Found.{put_all}
use Rattle.elan_chart.specs.Offers.{variable_offer, variable_found, variable_at}

-- what stands behind others
behind : (passed left : List Variable) (v : Variable) → slice_get (passed ++ v ∷ left) (length passed) ≡ Some v
behind [] left v = refl
behind (p ∷ passed) left v = behind passed left v

module _ (word : List ℕ) where
  -- the variable behind those that were passed, where it has the name
  first_called : (passed left : List Variable) (v : Variable)
      → flat_map (variable_at (passed ++ v ∷ left)) (place_if (is_called word v) (length passed)) ≡ variable_offer word v
  first_called passed left v = by (is_called word v) refl
    where
      by : (b : Bool) → is_called word v ≡ b
          → flat_map (variable_at (passed ++ v ∷ left)) (place_if b (length passed)) ≡ variable_offer word v
      by true e = append-nil (variable_at (passed ++ v ∷ left) (length passed)) ∙ ap variable_found (behind passed left v) ∙ rw e refl
      by false e = rw e refl

  called_behind : (passed left : List Variable)
      → flat_map (variable_at (passed ++ left)) (places_of word (length passed) left) ≡ flat_map (variable_offer word) left
  called_behind passed [] = refl
  called_behind passed (v ∷ left) =
      flat_map-append (variable_at (passed ++ v ∷ left)) (place_if (is_called word v) (length passed)) (places_of word (length passed + 1) left)
      ∙ ap (λ es. es ++ flat_map (variable_at (passed ++ v ∷ left)) (places_of word (length passed + 1) left)) (first_called passed left v)
      ∙ ap (λ es. variable_offer word v ++ es)
      (subst (λ all. flat_map (variable_at all) (places_of word (length passed + 1) left) ≡ flat_map (variable_offer word) left)
      (append_assoc passed (v ∷ []) left)
      (subst (λ n. flat_map (variable_at ((passed ++ v ∷ []) ++ left)) (places_of word n left) ≡ flat_map (variable_offer word) left)
      (length_push passed v) (called_behind (passed ++ v ∷ []) left)))

  -- to put the variables at the places of a word is to put all variables of the word
  pub all_called : (variables : List Variable) (places : List ℕ) (old new : List Entry) → places ≡ places_of word 0 variables
      → new ≡ put_all old (flat_map (variable_at variables) places) → new ≡ put_all old (flat_map (variable_offer word) variables)
  all_called variables places old new are is =
      is ∙ ap (λ ns. put_all old (flat_map (variable_at variables) ns)) are ∙ ap (put_all old) (called_behind [] variables)
