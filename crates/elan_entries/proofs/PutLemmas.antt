-- What is put into a list of entries, by the place of its key.
use Rattle.std.proofs.Common.{◌≡◌, refl, sym, ap, ◌∙◌, ℕ, suc, Bool, true, false, if◌then◌else◌, Option, None, Some, List, [], ◌∷◌, ◌++◌, slice_get, slice_set, ◌+◌, ◌<◌, drop, length, get_or}
use Rattle.std.specs.List.{flat_map}
use Rattle.std.proofs.lemmas.List.{drop_more}
use Rattle.elan_entries.specs.declared.found.Found.{Found}
use Rattle.elan_entries.specs.declared.found.Found.TheVariants.{One, Several}
use Rattle.elan_entries.specs.declared.found.Entry.{Entry}
use Rattle.elan_entries.specs.Found.{same_key, stays, merged, place, put, put_all, is_several, is_settled, joined}

abbrev changed : List Entry → ℕ → Option Entry → Entry → List Entry
changed es n None e = es ++ e ∷ []
changed es n (Some d) e = if stays d.found e.found then es else slice_set es n (record { key = d.key; found = Several })

later : (d : Entry) (ds : List Entry) (n : ℕ) (x : Option Entry) (e : Entry) → d ∷ changed ds n x e ≡ changed (d ∷ ds) (suc n) x e
later d ds n None e = refl
later d ds n (Some c) e = by (stays c.found e.found)
  where
    by : (b : Bool) → d ∷ (if b then ds else slice_set ds n (record { key = c.key; found = Several }))
        ≡ (if b then d ∷ ds else slice_set (d ∷ ds) (suc n) (record { key = c.key; found = Several }))
    by true = refl
    by false = refl

put-place : (es : List Entry) (e : Entry) → put es e ≡ changed es (place es e.key) (slice_get es (place es e.key)) e
put-place [] e = refl
put-place (d ∷ ds) e = by (put-place ds e) (same_key d.key e.key)
  where
    here : (b : Bool) → record { key = d.key; found = if b then d.found else Several } ∷ ds
        ≡ (if b then d ∷ ds else slice_set (d ∷ ds) 0 (record { key = d.key; found = Several }))
    here true = refl
    here false = refl

    by : put ds e ≡ changed ds (place ds e.key) (slice_get ds (place ds e.key)) e → (b : Bool)
        → (if b then record { key = d.key; found = merged d.found e.found } ∷ ds else d ∷ put ds e)
        ≡ changed (d ∷ ds) (if b then 0 else suc (place ds e.key)) (slice_get (d ∷ ds) (if b then 0 else suc (place ds e.key))) e
    by rest true = here (stays d.found e.found)
    by rest false = ap (λ r. d ∷ r) rest ∙ later d ds (place ds e.key) (slice_get ds (place ds e.key)) e

module _ (es : List Entry) (e : Entry) where
  pub put_absent : (n : ℕ) → n ≡ place es e.key → slice_get es n ≡ None → put es e ≡ es ++ e ∷ []
  put_absent n is absent = put-place es e ∙ ap (λ x. changed es (place es e.key) x e) (ap (slice_get es) (sym is) ∙ absent)

  at_place : (n : ℕ) (d : Entry) → n ≡ place es e.key → slice_get es n ≡ Some d → put es e ≡ changed es n (Some d) e
  at_place n d is there =
      put-place es e ∙ ap (λ x. changed es (place es e.key) x e) (ap (slice_get es) (sym is) ∙ there) ∙ ap (λ m. changed es m (Some d) e) (sym is)

  pub put_stays : (n : ℕ) (d : Entry) → n ≡ place es e.key → slice_get es n ≡ Some d → stays d.found e.found ≡ true → put es e ≡ es
  put_stays n d is there same =
      at_place n d is there ∙ ap (λ b. if b then es else slice_set es n (record { key = d.key; found = Several })) same

  pub put_sets : (n : ℕ) (d : Entry) → n ≡ place es e.key → slice_get es n ≡ Some d → stays d.found e.found ≡ false
      → put es e ≡ slice_set es n (record { key = d.key; found = Several })
  put_sets n d is there other =
      at_place n d is there ∙ ap (λ b. if b then es else slice_set es n (record { key = d.key; found = Several })) other

pub ruleset puts = (put_absent, put_stays, put_sets)

-- several stay several
pub settled_put : (es : List Entry) (e : Entry) → is_settled es e.key ≡ true → es ≡ put es e
settled_put [] e h = absurd (no h)
  where
    no : false ≡ true → ⊥
    no f = cc
settled_put (d ∷ ds) e h = by (same_key d.key e.key) h (settled_put ds e)
  where
    stay : (f : Found) → is_several f ≡ true → f ≡ merged f e.found
    stay (One ts) q = absurd (no q)
      where
        no : false ≡ true → ⊥
        no f = cc
    stay Several q = refl

    by : (b : Bool) → (if b then is_several d.found else is_settled ds e.key) ≡ true → (is_settled ds e.key ≡ true → ds ≡ put ds e)
        → d ∷ ds ≡ (if b then record { key = d.key; found = merged d.found e.found } ∷ ds else d ∷ put ds e)
    by true q rest = ap (λ f. record { key = d.key; found = f } ∷ ds) (stay d.found q)
    by false q rest = ap (λ r. d ∷ r) (rest q)

-- one list after the other
pub put_all_append : (ds xs ys : List Entry) → put_all ds (xs ++ ys) ≡ put_all (put_all ds xs) ys
put_all_append ds [] ys = refl
put_all_append ds (x ∷ xs) ys = put_all_append (put ds x) xs ys

-- one item more
pub put_place : {X : Type 0} (f : X → List Entry) (xs : List X) (i : ℕ) (d : X) (run next all : List Entry) → i < length xs
    → next ≡ put_all run (f (get_or xs i d)) → put_all run (flat_map f (drop i xs)) ≡ all → put_all next (flat_map f (drop (i + 1) xs)) ≡ all
put_place f xs i d run next all less e h =
    ap (λ r. put_all r (flat_map f (drop (i + 1) xs))) e ∙ sym (put_all_append run (f (get_or xs i d)) (flat_map f (drop (i + 1) xs)))
    ∙ ap (λ l. put_all run (flat_map f l)) (sym (drop_more xs i d less)) ∙ h

pub put_item : {X : Type 0} (f : X → List Entry) (xs : List X) (i : ℕ) (x : X) (run next all : List Entry) → i < length xs → x ≡ get_or xs i x
    → next ≡ put_all run (f x) → put_all run (flat_map f (drop i xs)) ≡ all → put_all next (flat_map f (drop (i + 1) xs)) ≡ all
put_item f xs i x run next all less is e h = put_place f xs i x run next all less (e ∙ ap (λ y. put_all run (f y)) is) h

-- no trees before what is found
pub joined_none : (f : Found) → joined (One []) f ≡ f
joined_none (One ts) = refl
joined_none Several = refl
