-- Each step of a reading makes readings of readings.
use Rattle.std.proofs.Common.{◌≡◌, refl, sym, ap, subst, ◌∙◌, ℕ, suc, ◌-◌, ◌<◌, Bool, true, false, not, ◌&&◌, ◌==◌, nat_lt, if◌then◌else◌, Option, None, Some, List, [], ◌∷◌, ◌++◌, slice_get, length, arith}
use Rattle.std.specs.List.{flat_map}
use Rattle.std.specs.Str.{bytes_eq}
use Rattle.elan_terms.specs.declared.tree.OpId.{OpId}
use Rattle.elan_terms.specs.declared.tree.SortId.{SortId}
use Rattle.elan_terms.specs.declared.tree.Pattern.{Pattern}
use Rattle.elan_terms.specs.declared.tree.PatternNode.{PatternNode, Var, Int, App', items-the_row-Pattern, items_hidden-the_row-Pattern-0}
use Rattle.elan_program.specs.declared.signature.Operator.{Operator}
use Rattle.elan_program.specs.declared.signature.Signature.{Signature}
use Rattle.elan_reading.specs.declared.lexeme.Lexeme.{Lexeme}
use Rattle.elan_reading.specs.declared.lexeme.Variable.{Variable}
use Rattle.elan_entries.specs.declared.found.Key.{Key}
use Rattle.elan_entries.specs.declared.found.Key.TheVariants.{Whole, Rest}
use Rattle.elan_entries.specs.declared.found.Found.{Found}
use Rattle.elan_entries.specs.declared.found.Found.TheVariants.{One, Several}
use Rattle.elan_entries.specs.declared.found.Entry.{Entry}
use Rattle.elan_program.specs.Extension.{app_pattern, var_pattern, int_pattern}
use Rattle.elan_reading.specs.Edge.{is_injection, own_tie}
use Rattle.elan_entries.specs.Lexemes.{is_word_kind, is_number_kind, is_sign, integer}
use Rattle.elan_entries.specs.Pieces.{takes_hole, fits_arg, fits_hole, is_hole_at, is_word_at, fits_before, is_injection_from}
use Rattle.elan_entries.specs.Found.{joined, applied}
use Rattle.elan_chart.specs.Offers.{entry, advanced, word_of, word_at, word_offer, word_offers, tree_at, tree_offer, rest_of, rest_at, rest_offer, cut_offers, injection_of, injection_offer, at_sort, risen_at, risen_offer, risen, last_by, last_offer, lasts_at, lasts_offer, last_offers, group_at, group_offer, group_offers, variable_offer, variable_offers, integer_offers, token_offers}
use Rattle.elan_entries.specs.Sets.{IsGood, AreGood}
use Rattle.elan_chart.specs.Spans.{Reads, Fills, Set, variable, number, minus, operator, injection, group, done, word, hole}
use Rattle.elan_entries.proofs.SameLemmas.{both_true, nat_same}
use Rattle.elan_entries.proofs.FoundLemmas.{append-good, flat-good, good-map}

-- ---- trees

abbrev below : PatternNode → List Pattern
below (Var x s) = []
below (Int z) = []
below (App' op shape row) = items-the_row-Pattern _ row

pub app_one : (op : OpId) (ts us : List Pattern) → app_pattern op ts ≡ app_pattern op us → ts ≡ us
app_one op ts us e = sym (items_hidden-the_row-Pattern-0 ts) ∙ ap (λ p. below p.node) e ∙ items_hidden-the_row-Pattern-0 us

abbrev first_or : {A : Type 0} → A → List A → A
first_or d [] = d
first_or d (x ∷ xs) = x

abbrev others : {A : Type 0} → List A → List A
others [] = []
others (x ∷ xs) = xs

pub first_one : {A : Type 0} (x y : A) (xs ys : List A) → x ∷ xs ≡ y ∷ ys → x ≡ y
first_one x y xs ys e = ap (first_or x) e

pub rest_one : {A : Type 0} (x y : A) (xs ys : List A) → x ∷ xs ≡ y ∷ ys → xs ≡ ys
rest_one x y xs ys e = ap others e

abbrev some_or : {A : Type 0} → A → Option A → A
some_or d None = d
some_or d (Some x) = x

pub some_one : {A : Type 0} (x y : A) → Some x ≡ Some y → x ≡ y
some_one x y e = ap (some_or x) e

pub not_true : (b : Bool) → not b ≡ true → b ≡ false
not_true true e = absurd (no e)
  where
    no : false ≡ true → ⊥
    no f = cc
not_true false e = refl

pub one_more : (k : ℕ) → nat_lt 0 k ≡ true → k ≡ suc (k - 1)
one_more k e = grind arith

-- ---- what is found, step by step

applied-good : (op : OpId) (S T : List Pattern → Type 0) (f : Found) → ((ts : List Pattern) → S ts → T (app_pattern op ts ∷ [])) → IsGood S f → IsGood T (applied op f)
applied-good op S T (One ts) to p = to ts p
applied-good op S T Several to p =
    (app_pattern op p.0 ∷ [], app_pattern op p.1 ∷ [], to p.0 p.2, to p.1 p.3, λ e. p.4 (app_one op p.0 p.1 (first_one _ _ [] [] e)))

joined-good : (S : Pattern → Type 0) (T U : List Pattern → Type 0) → ((t : Pattern) (us : List Pattern) → S t → T us → U (t ∷ us)) → (f f' : Found)
    → IsGood (λ ts. (t : Pattern) × (ts ≡ t ∷ []) × S t) f → IsGood T f' → IsGood U (joined f f')
joined-good S T U to (One ts) (One us) p q = subst U (sym (ap (λ l. l ++ us) p.1)) (to p.0 us p.2 q)
joined-good S T U to (One ts) Several p q = (p.0 ∷ q.0, p.0 ∷ q.1, to p.0 q.0 p.2 q.2, to p.0 q.1 p.2 q.3, λ e. q.4 (rest_one p.0 p.0 q.0 q.1 e))
joined-good S T U to Several (One us) p q = (
  p.2.0 ∷ us,
  p.3.0 ∷ us,
  to p.2.0 us p.2.2 q,
  to p.3.0 us p.3.2 q,
  λ e. p.4 (p.2.1 ∙ ap (λ x. x ∷ []) (first_one p.2.0 p.3.0 us us e) ∙ sym p.3.1),
)
joined-good S T U to Several Several p q = (
  p.2.0 ∷ q.0,
  p.3.0 ∷ q.0,
  to p.2.0 q.0 p.2.2 q.2,
  to p.3.0 q.0 p.3.2 q.2,
  λ e. p.4 (p.2.1 ∙ ap (λ x. x ∷ []) (first_one p.2.0 p.3.0 q.0 q.0 e) ∙ sym p.3.1),
)

module _ (g : Signature) (vs : List Variable) (tokens : List Lexeme) where
  module _ (i j : ℕ) (before : Option Lexeme) (op : OpId) (o : Operator) (at : slice_get g.operators op.0 ≡ Some o) where
    pub advanced-good : (k h : ℕ) (f : Found) → IsGood (λ ts. Fills g vs tokens o i j k h ts) f → AreGood (Set g vs tokens i j) (advanced before op o k h f)
    advanced-good k h f p = by (k == 0) refl
      where
        whole : (b : Bool) → ((h == 0) && not (is_injection o)) ≡ b → k ≡ 0
            → AreGood (Set g vs tokens i j) (if b then entry (Whole o.sort (own_tie o) false) (applied op f) ∷ [] else [])
        whole true e z =
            let two : _ = both_true (h == 0) (not (is_injection o)) e in (
              applied-good op (λ ts. Fills g vs tokens o i j k h ts) (Set g vs tokens i j (Whole o.sort (own_tie o) false)) f
                  (λ ts r. (
                    app_pattern op ts,
                    refl,
                    operator i j op o ts at (not_true (is_injection o) two.1)
                        (subst (λ n. Fills g vs tokens o i j n 0 ts) z (subst (λ n. Fills g vs tokens o i j k n ts) (nat_same h 0 two.0) r)),
                  )) p,
              tt,
            )
        whole false e z = tt

        rest : (b : Bool) → AreGood (Set g vs tokens i j) (if b then entry (Rest op k h) f ∷ [] else [])
        rest true = (good-map (λ ts. Fills g vs tokens o i j k h ts) (Set g vs tokens i j (Rest op k h)) (λ ts r. (o, at, r)) f p, tt)
        rest false = tt

        by : (b : Bool) → (k == 0) ≡ b → AreGood (Set g vs tokens i j)
            (if b then (if (h == 0) && not (is_injection o) then entry (Whole o.sort (own_tie o) false) (applied op f) ∷ [] else [])
            else if fits_before o (k - 1) before then entry (Rest op k h) f ∷ [] else [])
        by true e = whole ((h == 0) && not (is_injection o)) refl (nat_same k 0 e)
        by false e = rest (fits_before o (k - 1) before)

  -- ---- a word

  module _ (i j : ℕ) (before : Option Lexeme) (first : Lexeme) (here : slice_get tokens i ≡ Some first) where
    word_at-good : (key : Key) (f : Found) → IsGood (Set g vs tokens (suc i) j key) f → AreGood (Set g vs tokens i j) (word_at g before first key f)
    word_at-good (Whole s tie injected) f p = tt
    word_at-good (Rest op k h) f p = by (slice_get g.operators op.0) refl
      where
        at : (o : Operator) → slice_get g.operators op.0 ≡ Some o → (b : Bool) → (nat_lt 0 k && is_word_at o (k - 1) first) ≡ b
            → AreGood (Set g vs tokens i j) (if b then advanced before op o (k - 1) h f else [])
        at o e true q =
            let two : _ = both_true (nat_lt 0 k) (is_word_at o (k - 1) first) q in
            advanced-good i j before op o e (k - 1) h f
            (good-map (Set g vs tokens (suc i) j (Rest op k h)) (λ ts. Fills g vs tokens o i j (k - 1) h ts)
            (λ ts r. word o i j (k - 1) h first ts here two.1
            (subst (λ n. Fills g vs tokens o (suc i) j n h ts) (one_more k two.0)
            (subst (λ u. Fills g vs tokens u (suc i) j k h ts) (some_one r.0 o (sym r.1 ∙ e)) r.2))) f p)
        at o e false q = tt

        by : (m : Option Operator) → slice_get g.operators op.0 ≡ m → AreGood (Set g vs tokens i j) (word_of before first op m k h f)
        by None e = tt
        by (Some o) e = at o e (nat_lt 0 k && is_word_at o (k - 1) first) refl

    pub words-good : (es : List Entry) → AreGood (Set g vs tokens (suc i) j) es → AreGood (Set g vs tokens i j) (word_offers g before first es)
    words-good es p = flat-good (Set g vs tokens (suc i) j) (Set g vs tokens i j) (word_offer g before first) (λ e q. word_at-good e.key e.found q) es p

  -- ---- a hole

  module _ (i m j : ℕ) (before : Option Lexeme) (some : i < m) where
    tree_at-good : (op : OpId) (o : Operator) → slice_get g.operators op.0 ≡ Some o → (k h : ℕ) (f : Found) → takes_hole o k h ≡ true
        → IsGood (λ ts. Fills g vs tokens o m j k h ts) f → (whole : Key) (tree : Found) → IsGood (Set g vs tokens i m whole) tree
        → AreGood (Set g vs tokens i j) (tree_at before op o k h f whole tree)
    tree_at-good op o at k h f takes p (Rest op' k' h') tree q = tt
    tree_at-good op o at k h f takes p (Whole s tie injected) tree q = by (fits_arg o k h s tie) refl
      where
        by : (b : Bool) → fits_arg o k h s tie ≡ b → AreGood (Set g vs tokens i j) (if b then advanced before op o (k - 1) (h - 1) (joined tree f) else [])
        by true fits =
            let two : _ = both_true (nat_lt 0 k && nat_lt 0 h) (is_hole_at o (k - 1)) takes in let some_k : _ = both_true (nat_lt 0 k) (nat_lt 0 h) two.0 in
            let kk : k ≡ suc (k - 1) = one_more k some_k.0 in let hh : h ≡ suc (h - 1) = one_more h some_k.1 in
            let whole : fits_hole o k h s tie ≡ true = ap (λ x. x && fits_arg o k h s tie) takes ∙ fits in
            let fits' : fits_hole o (suc (k - 1)) (suc (h - 1)) s tie ≡ true =
            subst (λ n. fits_hole o n (suc (h - 1)) s tie ≡ true) kk (subst (λ n. fits_hole o k n s tie ≡ true) hh whole) in
            advanced-good i j before op o at (k - 1) (h - 1) (joined tree f)
            (joined-good (λ t. Reads g vs tokens i m s tie injected t) (λ ts. Fills g vs tokens o m j k h ts) (λ ts. Fills g vs tokens o i j (k - 1) (h - 1) ts)
            (λ t us r u. hole o i m j (k - 1) (h - 1) s tie injected t us some fits' r
            (subst (λ n. Fills g vs tokens o m j n (suc (h - 1)) us) kk (subst (λ n. Fills g vs tokens o m j k n us) hh u)))
            tree f q p)
        by false fits = tt

    rest_at-good : (wholes : List Entry) → AreGood (Set g vs tokens i m) wholes → (key : Key) (f : Found) → IsGood (Set g vs tokens m j key) f
        → AreGood (Set g vs tokens i j) (rest_at g before wholes key f)
    rest_at-good wholes p (Whole s tie injected) f q = tt
    rest_at-good wholes p (Rest op k h) f q = by (slice_get g.operators op.0) refl
      where
        at : (o : Operator) → slice_get g.operators op.0 ≡ Some o → (b : Bool) → takes_hole o k h ≡ b
            → AreGood (Set g vs tokens i j) (if b then flat_map (tree_offer before op o k h f) wholes else [])
        at o e true takes =
            let filled : IsGood (λ ts. Fills g vs tokens o m j k h ts) f =
            good-map (Set g vs tokens m j (Rest op k h)) (λ ts. Fills g vs tokens o m j k h ts)
            (λ ts u. subst (λ v. Fills g vs tokens v m j k h ts) (some_one u.0 o (sym u.1 ∙ e)) u.2) f q in
            flat-good (Set g vs tokens i m) (Set g vs tokens i j) (tree_offer before op o k h f)
            (λ whole r. tree_at-good op o e k h f takes filled whole.key whole.found r) wholes p
        at o e false takes = tt

        by : (x : Option Operator) → slice_get g.operators op.0 ≡ x → AreGood (Set g vs tokens i j) (rest_of before wholes op x k h f)
        by None e = tt
        by (Some o) e = at o e (takes_hole o k h) refl

    pub cut-good : (wholes rests : List Entry) → AreGood (Set g vs tokens i m) wholes → AreGood (Set g vs tokens m j) rests
        → AreGood (Set g vs tokens i j) (cut_offers g before wholes rests)
    cut-good wholes rests p q =
        flat-good (Set g vs tokens m j) (Set g vs tokens i j) (rest_offer g before wholes)
        (λ rest r. rest_at-good wholes p rest.key rest.found r) rests q

  -- ---- injections

  module _ (i j : ℕ) where
    injection_of-good : (s : SortId) (tie : Option ℕ) (injected : Bool) (f : Found) → IsGood (Set g vs tokens i j (Whole s tie injected)) f → (op : OpId)
        → AreGood (Set g vs tokens i j) (injection_offer g s tie f op)
    injection_of-good s tie injected f p op = by (slice_get g.operators op.0) refl
      where
        at : (o : Operator) → slice_get g.operators op.0 ≡ Some o → (b : Bool) → is_injection_from o s ≡ b
            → AreGood (Set g vs tokens i j) (if b then entry (Whole o.sort tie true) (applied op f) ∷ [] else [])
        at o e true q = (
          applied-good op (Set g vs tokens i j (Whole s tie injected)) (Set g vs tokens i j (Whole o.sort tie true)) f
              (λ ts r. (app_pattern op (r.0 ∷ []), ap (λ l. app_pattern op l ∷ []) r.1, injection i j op o s tie injected r.0 e q r.2)) p,
          tt,
        )
        at o e false q = tt

        by : (x : Option Operator) → slice_get g.operators op.0 ≡ x → AreGood (Set g vs tokens i j) (injection_of op x s tie f)
        by None e = tt
        by (Some o) e = at o e (is_injection_from o s) refl

    ops-good : (s : SortId) (tie : Option ℕ) (injected : Bool) (f : Found) → IsGood (Set g vs tokens i j (Whole s tie injected)) f → (ops : List OpId)
        → AreGood (Set g vs tokens i j) (flat_map (injection_offer g s tie f) ops)
    ops-good s tie injected f p [] = tt
    ops-good s tie injected f p (op ∷ ops) =
        append-good (Set g vs tokens i j) (injection_offer g s tie f op) (flat_map (injection_offer g s tie f) ops)
        (injection_of-good s tie injected f p op) (ops-good s tie injected f p ops)

    risen_at-good : (table : List (List OpId)) (key : Key) (f : Found) → IsGood (Set g vs tokens i j key) f
        → AreGood (Set g vs tokens i j) (risen_at g table key f)
    risen_at-good table (Rest op k h) f p = tt
    risen_at-good table (Whole s tie injected) f p = ops-good s tie injected f p (at_sort table s)

    pub risen-good : (table : List (List OpId)) (level : List Entry) → AreGood (Set g vs tokens i j) level
        → AreGood (Set g vs tokens i j) (risen g table level)
    risen-good table level p =
        flat-good (Set g vs tokens i j) (Set g vs tokens i j) (risen_offer g table) (λ e q. risen_at-good table e.key e.found q) level p

  -- ---- last holes

  module _ (i j : ℕ) (before : Option Lexeme) (some : i < j) where
    last_offer-good : (whole : Entry) → IsGood (Set g vs tokens i j whole.key) whole.found → (op : OpId) → AreGood (Set g vs tokens i j) (last_offer g before whole op)
    last_offer-good whole p op = by (slice_get g.operators op.0) refl
      where
        at : (o : Operator) → slice_get g.operators op.0 ≡ Some o → (b : Bool) → takes_hole o (length o.pieces) (length o.args) ≡ b
            → AreGood (Set g vs tokens i j) (if b then tree_offer before op o (length o.pieces) (length o.args) (One []) whole else [])
        at o e true takes =
            tree_at-good i j j before some op o e (length o.pieces) (length o.args) (One []) takes (done o j (length o.pieces) (length o.args) refl refl)
            whole.key whole.found p
        at o e false takes = tt

        by : (x : Option Operator) → slice_get g.operators op.0 ≡ x → AreGood (Set g vs tokens i j) (last_by before op x whole)
        by None e = tt
        by (Some o) e = at o e (takes_hole o (length o.pieces) (length o.args)) refl

    each_last-good : (whole : Entry) → IsGood (Set g vs tokens i j whole.key) whole.found → (ops : List OpId)
        → AreGood (Set g vs tokens i j) (flat_map (last_offer g before whole) ops)
    each_last-good whole p [] = tt
    each_last-good whole p (op ∷ ops) =
        append-good (Set g vs tokens i j) (last_offer g before whole op) (flat_map (last_offer g before whole) ops)
        (last_offer-good whole p op) (each_last-good whole p ops)

    lasts_at-good : (table : List (List OpId)) (whole : Entry) → IsGood (Set g vs tokens i j whole.key) whole.found → (key : Key)
        → AreGood (Set g vs tokens i j) (lasts_at g before table whole key)
    lasts_at-good table whole p (Rest op k h) = tt
    lasts_at-good table whole p (Whole s tie injected) = each_last-good whole p (at_sort table s)

    pub lasts-good : (table : List (List OpId)) (wholes : List Entry) → AreGood (Set g vs tokens i j) wholes
        → AreGood (Set g vs tokens i j) (last_offers g before table wholes)
    lasts-good table wholes p =
        flat-good (Set g vs tokens i j) (Set g vs tokens i j) (lasts_offer g before table) (λ whole q. lasts_at-good table whole q whole.key) wholes p

  -- ---- parentheses

  module _ (i j : ℕ) (first last : Lexeme) (here : slice_get tokens i ≡ Some first) (there : slice_get tokens j ≡ Some last) where
    group_at-good : is_sign 40 first ≡ true → is_sign 41 last ≡ true → (key : Key) (f : Found) → IsGood (Set g vs tokens (suc i) j key) f
        → AreGood (Set g vs tokens i (suc j)) (group_at key f)
    group_at-good a b (Rest op k h) f p = tt
    group_at-good a b (Whole s tie injected) f p = (
      good-map (Set g vs tokens (suc i) j (Whole s tie injected)) (Set g vs tokens i (suc j) (Whole s None injected))
          (λ ts r. (r.0, r.1, group i j first last s tie injected r.0 here a there b r.2)) f p,
      tt,
    )

    pub groups-good : (es : List Entry) → AreGood (Set g vs tokens (suc i) j) es → AreGood (Set g vs tokens i (suc j)) (group_offers first last es)
    groups-good es p = by (is_sign 40 first && is_sign 41 last) refl
      where
        by : (b : Bool) → (is_sign 40 first && is_sign 41 last) ≡ b → AreGood (Set g vs tokens i (suc j)) (if b then flat_map group_offer es else [])
        by true e = let two : _ = both_true (is_sign 40 first) (is_sign 41 last) e in
            flat-good (Set g vs tokens (suc i) j) (Set g vs tokens i (suc j)) group_offer (λ d q. group_at-good two.0 two.1 d.key d.found q) es p
        by false e = tt

  -- ---- tokens

  module _ (i : ℕ) (first : Lexeme) (here : slice_get tokens i ≡ Some first) where
    variables_from-good : is_word_kind first.kind ≡ true → (ws : List Variable)
        → ((n : ℕ) (v : Variable) → slice_get ws n ≡ Some v → (m : ℕ) × (slice_get vs m ≡ Some v))
        → AreGood (Set g vs tokens i (suc i)) (flat_map (variable_offer first.text) ws)
    variables_from-good a [] all = tt
    variables_from-good a (v ∷ ws) all =
        append-good (Set g vs tokens i (suc i)) (variable_offer first.text v) (flat_map (variable_offer first.text) ws)
        (by (bytes_eq v.name.bytes first.text) refl) (variables_from-good a ws (λ n w e. all (suc n) w e))
      where
        by : (b : Bool) → bytes_eq v.name.bytes first.text ≡ b
            → AreGood (Set g vs tokens i (suc i)) (if b then entry (Whole v.sort None false) (One (var_pattern v.number v.sort ∷ [])) ∷ [] else [])
        by true e = let w : _ = all 0 v refl in ((var_pattern v.number v.sort, refl, variable i w.0 first v here a e w.1), tt)
        by false e = tt

    integer-good : (int : Option SortId) → g.int ≡ int → AreGood (Set g vs tokens i (suc i)) (integer_offers int false first)
    integer-good None e = tt
    integer-good (Some s) e = by (is_number_kind first.kind) refl
      where
        by : (b : Bool) → is_number_kind first.kind ≡ b
            → AreGood (Set g vs tokens i (suc i)) (if b then entry (Whole s None false) (One (int_pattern (integer false first.text) ∷ [])) ∷ [] else [])
        by true q = ((int_pattern (integer false first.text), refl, number i first s here q e), tt)
        by false q = tt

    pub tokens-good : AreGood (Set g vs tokens i (suc i)) (token_offers g vs first)
    tokens-good =
        append-good (Set g vs tokens i (suc i)) (variable_offers vs first) (integer_offers g.int false first)
        (by (is_word_kind first.kind) refl) (integer-good g.int refl)
      where
        by : (b : Bool) → is_word_kind first.kind ≡ b → AreGood (Set g vs tokens i (suc i)) (if b then flat_map (variable_offer first.text) vs else [])
        by true e = variables_from-good e vs (λ n v q. (n, q))
        by false e = tt

    pub minus-good : (last : Lexeme) → slice_get tokens (suc i) ≡ Some last → is_sign 45 first ≡ true → (int : Option SortId) → g.int ≡ int
        → AreGood (Set g vs tokens i (suc (suc i))) (integer_offers int true last)
    minus-good last there a None e = tt
    minus-good last there a (Some s) e = by (is_number_kind last.kind) refl
      where
        by : (b : Bool) → is_number_kind last.kind ≡ b
            → AreGood (Set g vs tokens i (suc (suc i))) (if b then entry (Whole s None false) (One (int_pattern (integer true last.text) ∷ [])) ∷ [] else [])
        by true q = ((int_pattern (integer true last.text), refl, minus i first last s here a there q e), tt)
        by false q = tt
