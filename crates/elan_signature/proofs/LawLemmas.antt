-- Refusals in plain words.
use Rattle.std.proofs.Common.{◌≡◌, ◌≢◌, refl, sym, ap, ◌∙◌, ⊎_elim, ◌↔◌, ℕ, zero, suc, ◌<◌, ◌≤◌, Bool, true, false, ◌==◌, cond, nat_lt, Option, Some, None, Result, Ok, Err, List, [], ◌∷◌, map, length, slice_get, get_or}
use Rattle.std.specs.List.{All}
use Rattle.std.specs.Cmp.Lexicographic.{bytes_decides}
use Rattle.std.proofs.lemmas.Bool.{eqb-true, eq-eqb, ltb-true, ltb-false, lt-ltb, le-ltb, cases_order}
use Rattle.std.proofs.lemmas.Iterator.Adapters.{position_from-zero}
use Rattle.std.proofs.lemmas.List.Quantifiers.{position-Some}
use Rattle.std.proofs.lemmas.List.Elements.{Contains-get_or}
use Rattle.elan_text.specs.declared.name.Name.{Name}
use Rattle.elan_text.specs.declared.refusal.Code.{Code}
use Rattle.elan_text.specs.declared.refusal.Code.TheVariants.{E10, E11, E12, E14}
use Rattle.elan_text.specs.declared.refusal.Refusal.{Refusal}
use Rattle.elan_phrases.specs.declared.span.Span.{Span}
use Rattle.elan_program.specs.declared.signature.Operator.{Operator}
use Rattle.elan_program.specs.Soundness.{ac_fits, holes}
use Rattle.elan_numbers.specs.Numbering.{is_called, number_of}
use Rattle.elan_cycles.specs.Edges.{HasNoCycle, IsFirstOnCycle}
use Rattle.elan_cycles.specs.Search.{first_on_cycle as number_on_cycle}
use Rattle.elan_cycles.proofs.Elements.{has_contains, true-is_no-false}
use Rattle.elan_cycles.proofs.FirstLemmas.{first-law, none_passes}
use Rattle.elan_signature.specs.declared.done.Injection.{Injection}
use Rattle.elan_signature.specs.Cycles.{edge_of, element_at, first_on_cycle, cycle_at, refused_cycle, look_cycles}
use Rattle.elan_signature.specs.Declarations.{Scope, sort_at, sort_text, known_at, admitted, is_spelling, refused}
use Rattle.elan_signature.specs.Outcomes.{refusal_at}
use Rattle.elan_signature.proofs.CycleLemmas.{first-element}
use Rattle.elan_signature.proofs.OutcomeLemmas.{err_ok, IsSame}

some_is_none : {A : Type 0} {a : A} → Some a ≡ None → ⊥
some_is_none e = cc

-- ---- sorts

-- no name has these bytes
abbrev NoneHas : List ℕ → List Name → Type 0
NoneHas bytes names = All (λ n. n.bytes ≡ bytes → ⊥) names

no_number : (bytes : List ℕ) (names : List Name) → number_of bytes names ≡ None → NoneHas bytes names
unfolding number_of
no_number bytes names e k d within same =
    let n = get_or names k d in
    let fails = none_passes (is_called bytes) 0 names (sym (position_from-zero (is_called bytes) names) ∙ e) n
    (has_contains names n (Contains-get_or names k d within)) in
    true-is_no-false (sym ((bytes_decides bytes n.bytes).1 (sym same)) ∙ fails)

any_name : Name
any_name = record { bytes = [] }

number_none : (bytes : List ℕ) (names : List Name) → NoneHas bytes names → (r : Option ℕ) → number_of bytes names ≡ r → r ≡ None
unfolding number_of
number_none bytes names none None e = refl
number_none bytes names none (Some n) e =
    let p = position-Some (is_called bytes) names n any_name e in
    absurd (none n any_name p.0 (sym ((bytes_decides bytes (get_or names n any_name).bytes).0 p.1)))

unknown_is : (c : Scope) (first : ℕ) (r : Option ℕ) → known_at c.text first r ≡ Err (refusal_at c.text E10 first) → r ≡ None
unknown_is c first None e = refl
unknown_is c first (Some n) e = absurd (err_ok (sym e))

pub unknown_exactly : (c : Scope) (s : Span) → (sort_at c s ≡ Err (refusal_at c.text E10 s.first))
    ↔ All (λ n. n.bytes ≡ sort_text c s → ⊥) c.sorts
unfolding sort_at
unknown_exactly c s = (
  λ e. no_number (sort_text c s) c.sorts (unknown_is c s.first (number_of (sort_text c s) c.sorts) e),
  λ none. ap (known_at c.text s.first) (number_none (sort_text c s) c.sorts none (number_of (sort_text c s) c.sorts) refl),
)

-- ---- operators

abbrev code_of : {A : Type 0} → Result A Refusal → Option Code
code_of (Ok a) = None
code_of (Err r) = Some r.code

-- what is checked of an operator of a spelling, one after the other
module _ (c : Scope) (n : ℕ) (s : Span) (o : Operator) where
  abbrev checked : Bool → Bool → Bool → Result Operator Refusal
  checked fit ac few =
      cond fit (cond ac (cond few (Ok o) (refused c E14 s.first)) (refused c E12 s.first)) (refused c E11 s.first)

  is_checked : is_spelling o.pieces ≡ true → (fit ac few : Bool) → (holes o.pieces == length o.args) ≡ fit → ac_fits o ≡ ac
      → nat_lt n 4096 ≡ few → admitted c n s o ≡ checked fit ac few
  unfolding admitted
  is_checked spelling fit ac few is is' is'' = rw (spelling, is, is', is'') refl

  fits_no : (fit ac few : Bool) → checked fit ac few ≡ Err (refusal_at c.text E11 s.first) → fit ≡ false
  fits_no false ac few e = refl
  fits_no true true true e = absurd (err_ok (sym e))
  fits_no true true false e = absurd (apart (ap code_of e))
    where
      apart : Some E14 ≡ Some E11 → ⊥
      apart e = cc
  fits_no true false few e = absurd (apart (ap code_of e))
    where
      apart : Some E12 ≡ Some E11 → ⊥
      apart e = cc

  ac_no : (ac few : Bool) → checked true ac few ≡ Err (refusal_at c.text E12 s.first) → ac ≡ false
  ac_no false few e = refl
  ac_no true true e = absurd (err_ok (sym e))
  ac_no true false e = absurd (apart (ap code_of e))
    where
      apart : Some E14 ≡ Some E12 → ⊥
      apart e = cc

  few_no : (few : Bool) → checked true true few ≡ Err (refusal_at c.text E14 s.first) → few ≡ false
  few_no false e = refl
  few_no true e = absurd (err_ok (sym e))

  few_yes : (few : Bool) → checked true true few ≡ Ok o → few ≡ true
  few_yes true e = refl
  few_yes false e = absurd (err_ok e)

  not_equal : (a b : ℕ) → (a == b) ≡ false → a ≢ b
  not_equal a b e f = true-is_no-false (sym (eq-eqb a b f) ∙ e)

  equal_not : (a b : ℕ) (t : Bool) → (a == b) ≡ t → a ≢ b → t ≡ false
  equal_not a b false e f = refl
  equal_not a b true e f = absurd (f (eqb-true a b e))

pub holes_exactly : (c : Scope) (n : ℕ) (s : Span) (o : Operator) → is_spelling o.pieces ≡ true
    → (admitted c n s o ≡ Err (refusal_at c.text E11 s.first)) ↔ (holes o.pieces ≢ length o.args)
holes_exactly c n s o spelling =
    let is = is_checked c n s o spelling (holes o.pieces == length o.args) (ac_fits o) (nat_lt n 4096) refl refl refl in (
      λ e. not_equal c n s o (holes o.pieces) (length o.args) (fits_no c n s o _ (ac_fits o) (nat_lt n 4096) (sym is ∙ e)),
      λ differ. is_checked c n s o spelling false (ac_fits o) (nat_lt n 4096)
          (equal_not c n s o (holes o.pieces) (length o.args) _ refl differ) refl refl,
    )

pub ac_exactly : (c : Scope) (n : ℕ) (s : Span) (o : Operator) → is_spelling o.pieces ≡ true → holes o.pieces ≡ length o.args
    → (admitted c n s o ≡ Err (refusal_at c.text E12 s.first)) ↔ (ac_fits o ≡ false)
ac_exactly c n s o spelling fit =
    let fits = eq-eqb (holes o.pieces) (length o.args) fit in
    let is = is_checked c n s o spelling true (ac_fits o) (nat_lt n 4096) fits refl refl in (
      λ e. ac_no c n s o (ac_fits o) (nat_lt n 4096) (sym is ∙ e),
      λ none. is_checked c n s o spelling true false (nat_lt n 4096) fits none refl,
    )

pub many_exactly : (c : Scope) (n : ℕ) (s : Span) (o : Operator) → is_spelling o.pieces ≡ true → holes o.pieces ≡ length o.args
    → ac_fits o ≡ true → (admitted c n s o ≡ Err (refusal_at c.text E14 s.first)) ↔ (4096 ≤ n)
many_exactly c n s o spelling fit ac =
    let fits = eq-eqb (holes o.pieces) (length o.args) fit in
    let is = is_checked c n s o spelling true true (nat_lt n 4096) fits ac refl in (
      λ e. ltb-false n 4096 (few_no c n s o (nat_lt n 4096) (sym is ∙ e)),
      λ many. is_checked c n s o spelling true true false fits ac (le-ltb n 4096 many),
    )

pub admitted_exactly : (c : Scope) (n : ℕ) (s : Span) (o : Operator) → is_spelling o.pieces ≡ true → holes o.pieces ≡ length o.args
    → ac_fits o ≡ true → (admitted c n s o ≡ Ok o) ↔ (n < 4096)
admitted_exactly c n s o spelling fit ac =
    let fits = eq-eqb (holes o.pieces) (length o.args) fit in
    let is = is_checked c n s o spelling true true (nat_lt n 4096) fits ac refl in (
      λ e. ltb-true n 4096 (few_yes c n s o (nat_lt n 4096) (sym is ∙ e)),
      λ few. is_checked c n s o spelling true true true fits ac (lt-ltb n 4096 few),
    )

-- ---- cycles

-- an element of which a value is there is there
was_there : {A B : Type 0} (f : A → B) (xs : List A) (n : ℕ) (y : B) → slice_get (map f xs) n ≡ Some y
    → (x : A) × (slice_get xs n ≡ Some x)
was_there f [] n y e = absurd (some_is_none (sym e))
was_there f (x ∷ xs) zero y e = (x, refl)
was_there f (x ∷ xs) (suc n) y e = was_there f xs n y e

err_same : {A : Type 0} {q r : Refusal} → IsSame {A = A} (Err q) (Err r) → r ≡ q
err_same e = cc

module _ (all : List Injection) where
  -- the number of the first injection on a cycle, and that injection
  abbrev Numbered : Option ℕ → Type 0
  Numbered None = (first_on_cycle all ≡ None) × HasNoCycle (map edge_of all)
  Numbered (Some n) = (first_on_cycle all ≡ slice_get all n) × IsFirstOnCycle (map edge_of all) n

  numbered : (r : Option ℕ) → r ≡ number_on_cycle (map edge_of all) → Numbered r
  numbered None e = (sym (first-element all) ∙ ap (element_at all) (sym e), first-law (map edge_of all) None e)
  numbered (Some n) e = (sym (first-element all) ∙ ap (element_at all) (sym e), first-law (map edge_of all) (Some n) e)

  no_cycle_by : (r : Option ℕ) → Numbered r → refused_cycle (first_on_cycle all) ≡ Ok tt → HasNoCycle (map edge_of all)
  no_cycle_by None p e = p.1
  no_cycle_by (Some n) p e =
      let on = p.1.on_cycle in
      let i = was_there edge_of all n on.0 on.1 in
      absurd (err_ok (sym (ap refused_cycle (p.0 ∙ i.1)) ∙ e))

  by_no_cycle : (r : Option ℕ) → Numbered r → HasNoCycle (map edge_of all) → refused_cycle (first_on_cycle all) ≡ Ok tt
  by_no_cycle None p none = ap refused_cycle p.0
  by_no_cycle (Some n) p none = absurd (none p.1.on_cycle.0 p.1.on_cycle.2)

  -- the first injection on a cycle, and its refusal
  abbrev FirstRefused : Refusal → Type 0
  FirstRefused r =
      (n : ℕ) × (i : Injection) × (slice_get all n ≡ Some i) × IsFirstOnCycle (map edge_of all) n × (r ≡ cycle_at i)

  refused_is : (found : Option Injection) (r : Refusal) → refused_cycle found ≡ Err r
      → (i : Injection) × (found ≡ Some i) × (r ≡ cycle_at i)
  refused_is None r e = absurd (err_ok (sym e))
  refused_is (Some i) r e = (i, refl, err_same e)

  first_by : (s : Option ℕ) → Numbered s → (r : Refusal) → refused_cycle (first_on_cycle all) ≡ Err r → FirstRefused r
  first_by None p r e = absurd (err_ok (sym (sym (ap refused_cycle p.0) ∙ e)))
  first_by (Some n) p r e =
      let f = refused_is (first_on_cycle all) r e in (n, f.0, sym p.0 ∙ f.1, p.1, f.2)

  -- there is no other first one
  one_first : (m n : ℕ) → IsFirstOnCycle (map edge_of all) m → IsFirstOnCycle (map edge_of all) n → m ≡ n
  one_first m n f g =
      ⊎_elim (λ same. same)
      (λ differ. ⊎_elim (λ less. absurd (g.none_before m less f.on_cycle)) (λ more. absurd (f.none_before n more g.on_cycle)) differ)
      (cases_order m n)

  by_first : (s : Option ℕ) → Numbered s → (r : Refusal) → FirstRefused r → refused_cycle (first_on_cycle all) ≡ Err r
  by_first None p r f = absurd (p.1 f.3.on_cycle.0 f.3.on_cycle.2)
  by_first (Some m) p r f =
      ap refused_cycle (p.0 ∙ ap (slice_get all) (one_first m f.0 p.1 f.3) ∙ f.2) ∙ ap Err (sym f.4)

pub no_cycle_exactly : (all : List Injection) → (look_cycles all ≡ Ok tt) ↔ HasNoCycle (map edge_of all)
unfolding look_cycles
no_cycle_exactly all =
    let p = numbered all (number_on_cycle (map edge_of all)) refl in
    (no_cycle_by all (number_on_cycle (map edge_of all)) p, by_no_cycle all (number_on_cycle (map edge_of all)) p)

pub first_cycle_exactly : (all : List Injection) (r : Refusal) → (look_cycles all ≡ Err r)
    ↔ ((n : ℕ) × (i : Injection) × (slice_get all n ≡ Some i) × IsFirstOnCycle (map edge_of all) n × (r ≡ cycle_at i))
unfolding look_cycles
first_cycle_exactly all r =
    let p = numbered all (number_on_cycle (map edge_of all)) refl in
    (first_by all (number_on_cycle (map edge_of all)) p r, by_first all (number_on_cycle (map edge_of all)) p r)
