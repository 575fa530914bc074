-- A name that is none of those taken, looked up in an index of them.
use Rattle.std.proofs.Common.{◌≡◌, ℕ, Bool, true, false, ◌&&◌, ◌||◌, not, List, [], ◌∷◌, ◌++◌, Option, is_some, refl, sym, ap, ap₂, ◌∙◌}
use Rattle.std.specs.List.{list_any}
use Rattle.std.specs.Str.{bytes_eq}
use Rattle.std.proofs.lemmas.Slice.Eq.{bytes_eq-Decides}
use Rattle.elan_text.specs.declared.name.Name.{Name}
use Rattle.elan_numbers.specs.Numbering.{is_called, number_of, with_name}
use Rattle.elan_numbers.proofs.NumberLemmas.{numbered_any, new_behind}
use Rattle.elan_phrases.specs.Input.{Input, sees, next_text}
use Rattle.elan_phrases.specs.Symbols.{Seen, a, names, is_named, fresh}

-- two texts are equal in either order
same_texts : (x y : List ℕ) → bytes_eq x y ≡ bytes_eq y x
same_texts x y = go (bytes_eq x y) (bytes_eq y x) refl refl
  where
    go : (c d : Bool) → bytes_eq x y ≡ c → bytes_eq y x ≡ d → bytes_eq x y ≡ bytes_eq y x
    go true d e f = e ∙ sym ((bytes_eq-Decides y x).1 (sym ((bytes_eq-Decides x y).0 e)))
    go false true e f = (bytes_eq-Decides x y).1 (sym ((bytes_eq-Decides y x).0 f)) ∙ sym f
    go false false e f = e ∙ sym f

-- a word is a name's in either order
called_named : (word : List ℕ) (taken : List Name) → list_any (is_called word) taken ≡ list_any (is_named word) taken
called_named word [] = refl
called_named word (x ∷ xs) = ap₂ (λ c d. c || d) (same_texts word x.bytes) (called_named word xs)

-- what the next token is, where it has these bytes and the index has no number for them
pub seen_fresh : (i : Input) (word : List ℕ) (taken : List Name) (found : Option ℕ) → word ≡ next_text i.rest
    → found ≡ number_of word taken → sees (a names) i && not (is_some found) ≡ sees (fresh taken) i
unfolding fresh
seen_fresh i word taken found same is = go i.rest same
  where
    absent : (t : List ℕ) → word ≡ t → not (is_some found) ≡ not (list_any (is_named t) taken)
    absent t e = ap (λ o. not (is_some o)) is
        ∙ ap not (numbered_any word taken ∙ called_named word taken ∙ ap (λ w. list_any (is_named w) taken) e)

    go : (rest : List Seen) → word ≡ next_text rest
        → sees (a names) (record { at = i.at; rest = rest }) && not (is_some found) ≡ sees (fresh taken) (record { at = i.at; rest = rest })
    go [] e = refl
    go (t ∷ ts) e = ap (λ b. names t.symbol && b) (absent t.text e)

-- the same of a name
pub fresh_then : (i : Input) (word : List ℕ) (taken : List Name) (found : Option ℕ) (seen new : Bool) → word ≡ next_text i.rest
    → found ≡ number_of word taken → seen ≡ sees (a names) i → seen ≡ true → is_some found ≡ not new → new ≡ sees (fresh taken) i
fresh_then i word taken found seen new same is s on n =
    go new n ∙ ap (λ b. b && not (is_some found)) (sym on ∙ s) ∙ seen_fresh i word taken found same is
  where
    go : (b : Bool) → is_some found ≡ not b → b ≡ true && not (is_some found)
    go true e = rw e refl
    go false e = rw e refl

-- what is no name is no new one
pub fresh_else : (i : Input) (word : List ℕ) (taken : List Name) (seen : Bool) → word ≡ next_text i.rest
    → seen ≡ sees (a names) i → seen ≡ false → seen ≡ sees (fresh taken) i
fresh_else i word taken seen same s off = off ∙ ap (λ b. b && not (is_some (number_of word taken))) (sym off ∙ s)
    ∙ seen_fresh i word taken (number_of word taken) same refl

-- a name that is none of those taken comes behind them
pub fresh_added : (t : Seen) (taken : List Name) → fresh taken t ≡ true
    → with_name taken t.text ≡ taken ++ record { bytes = t.text } ∷ []
unfolding fresh
fresh_added t taken e = new_behind taken t.text (called_named t.text taken ∙ go (names t.symbol) (list_any (is_named t.text) taken) e)
  where
    go : (c d : Bool) → c && not d ≡ true → d ≡ false
    go true false e = refl
    go true true e = absurd cc
    go false d e = absurd cc
