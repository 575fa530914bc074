-- Each step of a reading is offered.
use Rattle.std.proofs.Common.{◌≡◌, refl, sym, ap, subst, ◌∙◌, ℕ, zero, suc, ◌-◌, Bool, true, false, not, ◌&&◌, ◌==◌, nat_lt, if◌then◌else◌, Option, None, Some, List, [], ◌∷◌, ◌++◌, slice_get, length, inl, inr, arith}
use Rattle.std.specs.List.{flat_map}
use Rattle.std.specs.Str.{bytes_eq}
use Rattle.elan_terms.specs.declared.tree.OpId.{OpId}
use Rattle.elan_terms.specs.declared.tree.SortId.{SortId}
use Rattle.elan_terms.specs.declared.tree.Pattern.{Pattern}
use Rattle.elan_program.specs.declared.signature.Operator.{Operator}
use Rattle.elan_program.specs.declared.signature.Signature.{Signature}
use Rattle.elan_reading.specs.declared.lexeme.Lexeme.{Lexeme}
use Rattle.elan_reading.specs.declared.lexeme.Variable.{Variable}
use Rattle.elan_entries.specs.declared.found.Key.{Key}
use Rattle.elan_entries.specs.declared.found.Key.TheVariants.{Whole, Rest}
use Rattle.elan_entries.specs.declared.found.Found.{Found}
use Rattle.elan_entries.specs.declared.found.Found.TheVariants.{One, Several}
use Rattle.elan_entries.specs.declared.found.Entry.{Entry}
use Rattle.elan_program.specs.Extension.{app_pattern, var_pattern, int_pattern}
use Rattle.elan_reading.specs.Edge.{is_injection, own_tie}
use Rattle.elan_entries.specs.Lexemes.{is_word_kind, is_number_kind, is_sign, integer}
use Rattle.elan_entries.specs.Pieces.{takes_hole, fits_arg, fits_hole, is_word_at, fits_before, is_injection_from}
use Rattle.elan_entries.specs.Found.{joined, applied}
use Rattle.elan_chart.specs.Offers.{advanced, word_of, word_at, word_offer, word_offers, tree_at, tree_offer, rest_of, rest_at, rest_offer, cut_offers, injection_of, injection_offer, at_sort, risen_at, risen_offer, risen, last_by, last_offer, lasts_at, lasts_offer, last_offers, group_at, group_offer, group_offers, variable_offer, variable_offers, integer_offers, token_offers}
use Rattle.elan_entries.specs.Sets.{Has, HasAt}
use Rattle.elan_terms.proofs.Lists.{In}
use Rattle.elan_entries.proofs.SameLemmas.{both_true}
use Rattle.elan_entries.proofs.FoundLemmas.{append-left, append-right, flat-has}

pub and_true : (a b : Bool) → a ≡ true → b ≡ true → (a && b) ≡ true
and_true a b e f = ap (λ x. x && b) e ∙ f

pub under : (K : Key) (us : List Pattern) (b : Bool) (x y : List Entry) → b ≡ true → HasAt x K us → HasAt (if b then x else y) K us
under K us b x y e h = subst (λ c. HasAt (if c then x else y) K us) (sym e) h

pub under_not : (K : Key) (us : List Pattern) (b : Bool) (x y : List Entry) → b ≡ false → HasAt y K us → HasAt (if b then x else y) K us
under_not K us b x y e h = subst (λ c. HasAt (if c then x else y) K us) (sym e) h

pub less_one : (k : ℕ) → suc k - 1 ≡ k
less_one k = omega arith

pub is_more : (k : ℕ) → nat_lt 0 (suc k) ≡ true
is_more k = grind arith

pub is_not_zero : (k : ℕ) → (suc k == 0) ≡ false
is_not_zero k = grind arith

pub joined-has : (f f' : Found) (t : Pattern) (ts : List Pattern) → Has f (t ∷ []) → Has f' ts → Has (joined f f') (t ∷ ts)
joined-has (One us) (One vs) t ts p q = ap (λ l. t ∷ l) q ∙ ap (λ l. l ++ vs) p
joined-has (One us) Several t ts p q = tt
joined-has Several (One vs) t ts p q = tt
joined-has Several Several t ts p q = tt

pub applied-has : (op : OpId) (f : Found) (ts : List Pattern) → Has f ts → Has (applied op f) (app_pattern op ts ∷ [])
applied-has op (One us) ts p = ap (λ l. app_pattern op l ∷ []) p
applied-has op Several ts p = tt

module _ (before : Option Lexeme) (op : OpId) (o : Operator) where
  -- what is found of the pieces from one on is offered as this
  abbrev pub Gives : ℕ → ℕ → List Pattern → Key → List Pattern → Type 0
  Gives k h ts K us = (f : Found) → Has f ts → HasAt (advanced before op o k h f) K us

  pub gives-whole : (ts : List Pattern) → is_injection o ≡ false → Gives 0 0 ts (Whole o.sort (own_tie o) false) (app_pattern op ts ∷ [])
  gives-whole ts e f p =
      under (Whole o.sort (own_tie o) false) (app_pattern op ts ∷ []) ((0 == 0) && not (is_injection o)) _ _ (ap not e)
      (inl (refl, applied-has op f ts p))

  pub gives-rest : (k h : ℕ) (ts : List Pattern) → fits_before o k before ≡ true → Gives (suc k) h ts (Rest op (suc k) h) ts
  gives-rest k h ts e f p =
      under_not (Rest op (suc k) h) ts (suc k == 0) _ _ (is_not_zero k)
      (under (Rest op (suc k) h) ts (fits_before o (suc k - 1) before) _ _ (ap (λ n. fits_before o n before) (less_one k) ∙ e) (inl (refl, p)))

module _ (g : Signature) (before : Option Lexeme) (op : OpId) (o : Operator) (at : slice_get g.operators op.0 ≡ Some o) (K : Key) (us : List Pattern) where
  -- ---- a word

  pub words-have : (first : Lexeme) (k h : ℕ) (ts : List Pattern) → is_word_at o k first ≡ true → Gives before op o k h ts K us → (es : List Entry)
      → HasAt es (Rest op (suc k) h) ts → HasAt (word_offers g before first es) K us
  words-have first k h ts is gives es p = flat-has K us (word_offer g before first) (Rest op (suc k) h) ts step es p
    where
      step : (e : Entry) → e.key ≡ Rest op (suc k) h → Has e.found ts → HasAt (word_offer g before first e) K us
      step e q r =
          subst (λ key. HasAt (word_at g before first key e.found) K us) (sym q)
          (subst (λ x. HasAt (word_of before first op x (suc k) h e.found) K us) (sym at)
          (under K us (nat_lt 0 (suc k) && is_word_at o (suc k - 1) first) _ _
          (and_true _ _ (is_more k) (ap (λ n. is_word_at o n first) (less_one k) ∙ is))
          (subst (λ n. HasAt (advanced before op o n h e.found) K us) (sym (less_one k)) (gives e.found r))))

  -- ---- a hole

  tree-has : (k h : ℕ) (s : SortId) (tie : Option ℕ) (injected : Bool) (t : Pattern) (ts : List Pattern) → fits_hole o (suc k) (suc h) s tie ≡ true
      → Gives before op o k h (t ∷ ts) K us → (f : Found) → Has f ts → (whole : Entry) → whole.key ≡ Whole s tie injected → Has whole.found (t ∷ [])
      → HasAt (tree_offer before op o (suc k) (suc h) f whole) K us
  tree-has k h s tie injected t ts fits gives f d whole a b =
      subst (λ key. HasAt (tree_at before op o (suc k) (suc h) f key whole.found) K us) (sym a)
      (under K us (fits_arg o (suc k) (suc h) s tie) _ _ (both_true (takes_hole o (suc k) (suc h)) (fits_arg o (suc k) (suc h) s tie) fits).1
      (subst (λ n. HasAt (advanced before op o n (suc h - 1) (joined whole.found f)) K us) (sym (less_one k))
      (subst (λ n. HasAt (advanced before op o k n (joined whole.found f)) K us) (sym (less_one h))
      (gives (joined whole.found f) (joined-has whole.found f t ts b d)))))

  pub cut-has : (k h : ℕ) (s : SortId) (tie : Option ℕ) (injected : Bool) (t : Pattern) (ts : List Pattern) → fits_hole o (suc k) (suc h) s tie ≡ true
      → Gives before op o k h (t ∷ ts) K us → (wholes rests : List Entry) → HasAt wholes (Whole s tie injected) (t ∷ []) → HasAt rests (Rest op (suc k) (suc h)) ts
      → HasAt (cut_offers g before wholes rests) K us
  cut-has k h s tie injected t ts fits gives wholes rests p q =
      flat-has K us (rest_offer g before wholes) (Rest op (suc k) (suc h)) ts step rests q
    where
      step : (rest : Entry) → rest.key ≡ Rest op (suc k) (suc h) → Has rest.found ts → HasAt (rest_offer g before wholes rest) K us
      step rest c d =
          subst (λ key. HasAt (rest_at g before wholes key rest.found) K us) (sym c)
          (subst (λ x. HasAt (rest_of before wholes op x (suc k) (suc h) rest.found) K us) (sym at)
          (under K us (takes_hole o (suc k) (suc h)) _ _ (both_true (takes_hole o (suc k) (suc h)) (fits_arg o (suc k) (suc h) s tie) fits).0
          (flat-has K us (tree_offer before op o (suc k) (suc h) rest.found) (Whole s tie injected) (t ∷ [])
          (λ whole a b. tree-has k h s tie injected t ts fits gives rest.found d whole a b) wholes p)))

  -- ---- a last hole

  each_last-has : (whole : Entry) → HasAt (last_offer g before whole op) K us → (ops : List OpId) → In op ops → HasAt (flat_map (last_offer g before whole) ops) K us
  each_last-has whole p [] i = absurd i
  each_last-has whole p (d ∷ ops) (inl e) =
      append-left K us (last_offer g before whole d) (flat_map (last_offer g before whole) ops) (subst (λ x. HasAt (last_offer g before whole x) K us) e p)
  each_last-has whole p (d ∷ ops) (inr i) =
      append-right K us (last_offer g before whole d) (flat_map (last_offer g before whole) ops) (each_last-has whole p ops i)

  pub lasts-have : (k h : ℕ) (s : SortId) (tie : Option ℕ) (injected : Bool) (t : Pattern) → fits_hole o (suc k) (suc h) s tie ≡ true
      → suc k ≡ length o.pieces → suc h ≡ length o.args → Gives before op o k h (t ∷ []) K us → (table : List (List OpId)) → In op (at_sort table s)
      → (wholes : List Entry) → HasAt wholes (Whole s tie injected) (t ∷ []) → HasAt (last_offers g before table wholes) K us
  lasts-have k h s tie injected t fits ek eh gives table among wholes p =
      flat-has K us (lasts_offer g before table) (Whole s tie injected) (t ∷ []) step wholes p
    where
      takes : takes_hole o (length o.pieces) (length o.args) ≡ true
      takes =
          subst (λ n. takes_hole o n (length o.args) ≡ true) ek (subst (λ n. takes_hole o (suc k) n ≡ true) eh
          (both_true (takes_hole o (suc k) (suc h)) (fits_arg o (suc k) (suc h) s tie) fits).0)

      step : (e : Entry) → e.key ≡ Whole s tie injected → Has e.found (t ∷ []) → HasAt (lasts_offer g before table e) K us
      step e a b =
          subst (λ key. HasAt (lasts_at g before table e key) K us) (sym a)
          (each_last-has e
          (subst (λ x. HasAt (last_by before op x e) K us) (sym at)
          (under K us (takes_hole o (length o.pieces) (length o.args)) _ _ takes
          (subst (λ n. HasAt (tree_offer before op o n (length o.args) (One []) e) K us) ek
          (subst (λ n. HasAt (tree_offer before op o (suc k) n (One []) e) K us) eh
          (tree-has k h s tie injected t [] fits gives (One []) refl e a b)))))
          (at_sort table s) among)

-- ---- injections

ops-have : (g : Signature) (s : SortId) (tie : Option ℕ) (f : Found) (K : Key) (us : List Pattern) (op : OpId) → HasAt (injection_offer g s tie f op) K us
    → (ops : List OpId) → In op ops → HasAt (flat_map (injection_offer g s tie f) ops) K us
ops-have g s tie f K us op p [] i = absurd i
ops-have g s tie f K us op p (d ∷ ops) (inl e) =
    append-left K us (injection_offer g s tie f d) (flat_map (injection_offer g s tie f) ops)
    (subst (λ x. HasAt (injection_offer g s tie f x) K us) e p)
ops-have g s tie f K us op p (d ∷ ops) (inr i) =
    append-right K us (injection_offer g s tie f d) (flat_map (injection_offer g s tie f) ops) (ops-have g s tie f K us op p ops i)

pub risen-has : (g : Signature) (table : List (List OpId)) (op : OpId) (o : Operator) (s : SortId) (tie : Option ℕ) (injected : Bool) (t : Pattern)
    → In op (at_sort table s) → slice_get g.operators op.0 ≡ Some o → is_injection_from o s ≡ true → (level : List Entry)
    → HasAt level (Whole s tie injected) (t ∷ []) → HasAt (risen g table level) (Whole o.sort tie true) (app_pattern op (t ∷ []) ∷ [])
risen-has g table op o s tie injected t among at from level p =
    flat-has (Whole o.sort tie true) (app_pattern op (t ∷ []) ∷ []) (risen_offer g table) (Whole s tie injected) (t ∷ []) step level p
  where
    step : (e : Entry) → e.key ≡ Whole s tie injected → Has e.found (t ∷ [])
        → HasAt (risen_offer g table e) (Whole o.sort tie true) (app_pattern op (t ∷ []) ∷ [])
    step e a b =
        subst (λ key. HasAt (risen_at g table key e.found) (Whole o.sort tie true) (app_pattern op (t ∷ []) ∷ [])) (sym a)
        (ops-have g s tie e.found (Whole o.sort tie true) (app_pattern op (t ∷ []) ∷ []) op
        (subst (λ x. HasAt (injection_of op x s tie e.found) (Whole o.sort tie true) (app_pattern op (t ∷ []) ∷ [])) (sym at)
        (under (Whole o.sort tie true) (app_pattern op (t ∷ []) ∷ []) (is_injection_from o s) _ _ from (inl (refl, applied-has op e.found (t ∷ []) b))))
        (at_sort table s) among)

-- ---- parentheses and tokens

pub groups-have : (first last : Lexeme) (s : SortId) (tie : Option ℕ) (injected : Bool) (t : Pattern) → is_sign 40 first ≡ true → is_sign 41 last ≡ true
    → (es : List Entry) → HasAt es (Whole s tie injected) (t ∷ []) → HasAt (group_offers first last es) (Whole s None injected) (t ∷ [])
groups-have first last s tie injected t a b es p =
    under (Whole s None injected) (t ∷ []) (is_sign 40 first && is_sign 41 last) _ _ (and_true _ _ a b)
    (flat-has (Whole s None injected) (t ∷ []) group_offer (Whole s tie injected) (t ∷ []) step es p)
  where
    step : (e : Entry) → e.key ≡ Whole s tie injected → Has e.found (t ∷ []) → HasAt (group_offer e) (Whole s None injected) (t ∷ [])
    step e c d = subst (λ key. HasAt (group_at key e.found) (Whole s None injected) (t ∷ [])) (sym c) (inl (refl, d))

variables_from-have : (text : List ℕ) (v : Variable) → bytes_eq v.name.bytes text ≡ true → (n : ℕ) (ws : List Variable) → slice_get ws n ≡ Some v
    → HasAt (flat_map (variable_offer text) ws) (Whole v.sort None false) (var_pattern v.number v.sort ∷ [])
variables_from-have text v is n [] q = absurd (no q)
  where
    no : None ≡ Some v → ⊥
    no f = cc
variables_from-have text v is zero (d ∷ ws) q =
    append-left (Whole v.sort None false) (var_pattern v.number v.sort ∷ []) (variable_offer text d) (flat_map (variable_offer text) ws)
    (let f : d ≡ v = cc in subst (λ x. HasAt (variable_offer text x) (Whole v.sort None false) (var_pattern v.number v.sort ∷ [])) (sym f)
    (under (Whole v.sort None false) (var_pattern v.number v.sort ∷ []) (bytes_eq v.name.bytes text) _ _ is (inl (refl, refl))))
variables_from-have text v is (suc n) (d ∷ ws) q =
    append-right (Whole v.sort None false) (var_pattern v.number v.sort ∷ []) (variable_offer text d) (flat_map (variable_offer text) ws) (variables_from-have text v is n ws q)

pub tokens-have-variable : (g : Signature) (vs : List Variable) (n : ℕ) (token : Lexeme) (v : Variable) → is_word_kind token.kind ≡ true
    → bytes_eq v.name.bytes token.text ≡ true → slice_get vs n ≡ Some v
    → HasAt (token_offers g vs token) (Whole v.sort None false) (var_pattern v.number v.sort ∷ [])
tokens-have-variable g vs n token v a b c =
    append-left (Whole v.sort None false) (var_pattern v.number v.sort ∷ []) (variable_offers vs token) (integer_offers g.int false token)
    (under (Whole v.sort None false) (var_pattern v.number v.sort ∷ []) (is_word_kind token.kind) _ _ a (variables_from-have token.text v b n vs c))

pub integers-have : (negative : Bool) (int : Option SortId) (s : SortId) (token : Lexeme) → int ≡ Some s → is_number_kind token.kind ≡ true
    → HasAt (integer_offers int negative token) (Whole s None false) (int_pattern (integer negative token.text) ∷ [])
integers-have negative int s token e a =
    subst (λ x. HasAt (integer_offers x negative token) (Whole s None false) (int_pattern (integer negative token.text) ∷ [])) (sym e)
    (under (Whole s None false) (int_pattern (integer negative token.text) ∷ []) (is_number_kind token.kind) _ _ a (inl (refl, refl)))

pub tokens-have-number : (g : Signature) (vs : List Variable) (s : SortId) (token : Lexeme) → is_number_kind token.kind ≡ true → g.int ≡ Some s
    → HasAt (token_offers g vs token) (Whole s None false) (int_pattern (integer false token.text) ∷ [])
tokens-have-number g vs s token a e =
    append-right (Whole s None false) (int_pattern (integer false token.text) ∷ []) (variable_offers vs token) (integer_offers g.int false token)
    (integers-have false g.int s token e a)
