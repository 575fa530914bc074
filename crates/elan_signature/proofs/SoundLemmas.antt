-- A signature with which nothing is wrong is sound.
use Rattle.std.proofs.Common.{◌≡◌, refl, sym, ap, subst, ◌∙◌, ◌⊎◌, inl, inr, ⊎_elim, ◌<◌, ◌^◌, ℕ, Bool, true, false, ◌&&◌, cond, nat_lt, Option, Some, None, List, [], ◌∷◌, ◌++◌, map, length, lt-ltb}
use Rattle.std.specs.List.{Contains, find, list_all, flat_map}
use Rattle.std.proofs.lemmas.Bool.{and_parts, and_from, ltb-true}
use Rattle.std.proofs.lemmas.List.Elements.{Contains-get_or}
use Rattle.elan_terms.specs.declared.tree.SortId.{SortId}
use Rattle.elan_program.specs.declared.signature.Operator.{Operator}
use Rattle.elan_program.specs.declared.signature.Piece.{Piece}
use Rattle.elan_program.specs.declared.signature.Piece.TheVariants.{Hole, Word}
use Rattle.elan_program.specs.declared.signature.Signature.{Signature}
use Rattle.elan_program.specs.Soundness.{is_sound, is_sound_operator, is_spelling_of, has_sort_id, int_fits, truth_fits, has_no_cycle, injections, leads, most, ac_fits, builtin_fits}
use Rattle.elan_laws.specs.Injections.{Leads, at_once, further, HasNoCycle, BeginAmong}
use Rattle.elan_laws.proofs.InjectionLaws.{injections_exactly}
use Rattle.elan_cycles.specs.Edges.{Path, here as stays, along, edge}
use Rattle.elan_cycles.specs.Search.{leads as leads_to}
use Rattle.elan_cycles.proofs.Elements.{Has, here, there, has_contains, contains_has, all-has, true-is_no-false}
use Rattle.elan_cycles.proofs.SearchLemmas.{way-leads}
use Rattle.elan_signature.specs.declared.done.Injection.{Injection}
use Rattle.elan_signature.specs.Cycles.{look_cycles, refused_cycle, first_on_cycle, is_on_cycle, edge_of}
use Rattle.elan_signature.specs.Whole.{look_operators, IsNoted, lead_of}
use Rattle.elan_signature.proofs.OutcomeLemmas.{err_ok, cond_ok, IsOk}

-- ---- injections

-- what is not found among these does not pass
none_found : {A : Type 0} (test : A → Bool) (xs : List A) → find test xs ≡ None → (x : A) → Has x xs → test x ≡ false
none_found test [] e x h = elim h [ ]
none_found test (y ∷ xs) e x h = by_case (test y) refl (λ f g. none_found test xs f x g) e h
  where
    some_is_none : {A : Type 0} {a : A} → Some a ≡ None → ⊥
    some_is_none e = cc

    by_case : (b : Bool) → test y ≡ b → (find test xs ≡ None → Has x xs → test x ≡ false)
        → cond b (Some y) (find test xs) ≡ None → Has x (y ∷ xs) → test x ≡ false
    by_case true is rest e h = absurd (some_is_none e)
    by_case false is rest e (here same) = sym (ap test same) ∙ is
    by_case false is rest e (there h) = rest e h

-- an element of a list of values is the value of an element
from_map : {A B : Type 0} (f : A → B) (xs : List A) (y : B) → Has y (map f xs) → (x : A) × Has x xs × (f x ≡ y)
from_map f [] y h = elim h [ ]
from_map f (x ∷ xs) y (here e) = (x, here refl, e)
from_map f (x ∷ xs) y (there h) = let r = from_map f xs y h in (r.0, there r.1, r.2)

to_map : {A B : Type 0} (f : A → B) (x : A) (xs : List A) → Has x xs → Has (f x) (map f xs)
to_map f x [] h = elim h [ ]
to_map f x (y ∷ xs) (here e) = here (ap f e)
to_map f x (y ∷ xs) (there h) = there (to_map f x xs h)

module _ (noted : List Injection) where
  -- a noted injection from one sort to another is an edge between them
  as_edge : (s t : ℕ) → Contains (map lead_of noted) (s, t) → Contains (map edge_of noted) (edge s t)
  as_edge s t h =
      let i = from_map lead_of noted (s, t) (has_contains (map lead_of noted) (s, t) h) in
      subst (Contains (map edge_of noted)) (ap (λ (l : ℕ × ℕ). edge l.0 l.1) i.2)
      (contains_has (edge_of i.0) (map edge_of noted) (to_map edge_of i.0 noted i.1))

  -- where injections lead, there is a way
  as_path : {s t : ℕ} → Leads (map lead_of noted) s t → Path (map edge_of noted) s t
  as_path (at_once {s = s} {t = t} h) = along (as_edge s t h) stays
  as_path (further {s = s} {t = t} h l) = along (as_edge s t h) (as_path l)

  -- an injection with which a way begins
  begins : {s u : ℕ} → Leads (map lead_of noted) s u → (t : ℕ) × Contains (map lead_of noted) (s, t) × Path (map edge_of noted) t u
  begins (at_once {t = t} h) = (t, h, stays)
  begins (further {t = t} h l) = (t, h, as_path l)

  ok_none : (found : Option Injection) → IsOk (refused_cycle found) → found ≡ None
  ok_none None e = refl
  ok_none (Some i) e = absurd (err_ok e)

  -- where no cycle is refused, no sort leads back to itself
  no_cycle : IsOk (look_cycles noted) → HasNoCycle (map lead_of noted)
  unfolding look_cycles
  no_cycle ok s l =
      let b = begins l in
      let i = from_map lead_of noted (s, b.0) (has_contains (map lead_of noted) (s, b.0) b.1) in
      let back = way-leads (map edge_of noted) b.0 s b.2 in
      let none = none_found (is_on_cycle noted) noted (ok_none (first_on_cycle noted) ok) i.0 i.1 in
      true-is_no-false (sym (subst (λ (l : ℕ × ℕ). leads_to (map edge_of noted) l.1 l.0 ≡ true) (sym i.2) back) ∙ none)

-- ---- sorts are in range

-- each injection of a sound operator leads from a sort that is there
leads_begin : (g : Signature) (pieces : List Piece) (args : List SortId) (sort : SortId) → list_all (has_sort_id g) args ≡ true
    → (i : ℕ × ℕ) → Has i (leads pieces args sort) → i.0 < length g.sorts
leads_begin g (Hole ∷ []) (s ∷ []) sort e i (here is) =
    let within = ltb-true s.0 (length g.sorts) (and_parts (nat_lt s.0 (length g.sorts)) true e).0 in
    subst (λ (j : ℕ × ℕ). j.0 < length g.sorts) is within
leads_begin g (Hole ∷ []) (s ∷ []) sort e i (there h) = elim h [ ]
leads_begin g [] args sort e i h = elim h [ ]
leads_begin g (Word w ∷ ps) args sort e i h = elim h [ ]
leads_begin g (Hole ∷ []) [] sort e i h = elim h [ ]
leads_begin g (Hole ∷ []) (s ∷ t ∷ ss) sort e i h = elim h [ ]
leads_begin g (Hole ∷ p ∷ ps) args sort e i h = elim h [ ]

has_append : {A : Type 0} (x : A) (xs ys : List A) → Has x (xs ++ ys) → Has x xs ⊎ Has x ys
has_append x [] ys h = inr h
has_append x (y ∷ xs) ys (here e) = inl (here e)
has_append x (y ∷ xs) ys (there h) = ⊎_elim (λ l. inl (there l)) inr (has_append x xs ys h)

from_flat_map : {A B : Type 0} (f : A → List B) (xs : List A) (y : B) → Has y (flat_map f xs) → (x : A) × Has x xs × Has y (f x)
from_flat_map f [] y h = elim h [ ]
from_flat_map f (x ∷ xs) y h =
    ⊎_elim (λ first. (x, here refl, first)) (λ later. let r = from_flat_map f xs y later in (r.0, there r.1, r.2))
    (has_append y (f x) (flat_map f xs) h)

args_in_range : (g : Signature) (o : Operator) → is_sound_operator g o ≡ true → list_all (has_sort_id g) o.args ≡ true
unfolding is_sound_operator
args_in_range g o e =
    let whole = and_parts (is_spelling_of o && (list_all (has_sort_id g) o.args && has_sort_id g o.sort))
    (ac_fits o && builtin_fits g o o.builtin) e in
    let sorts = and_parts (is_spelling_of o) (list_all (has_sort_id g) o.args && has_sort_id g o.sort) whole.0 in
    (and_parts (list_all (has_sort_id g) o.args) (has_sort_id g o.sort) sorts.1).0

in_range : (g : Signature) → list_all (is_sound_operator g) g.operators ≡ true → BeginAmong (length g.sorts) (injections g)
unfolding injections
in_range g e k d h =
    let all = flat_map (λ o. leads o.pieces o.args o.sort) g.operators in
    let o = from_flat_map (λ o. leads o.pieces o.args o.sort) g.operators _ (has_contains all _ (Contains-get_or all k d h)) in
    leads_begin g o.0.pieces o.0.args o.0.sort
    (args_in_range g o.0 (all-has (is_sound_operator g) g.operators o.0 e o.1)) _ o.2

leads_are : (g : Signature) (noted : List Injection) → IsNoted g.operators noted → injections g ≡ map lead_of noted
unfolding injections
leads_are g noted is = is

acyclic : (g : Signature) (noted : List Injection) → IsNoted g.operators noted → list_all (is_sound_operator g) g.operators ≡ true
    → IsOk (look_cycles noted) → has_no_cycle g ≡ true
acyclic g noted is sound ok =
    (injections_exactly g (in_range g sound)).1 (subst HasNoCycle (sym (leads_are g noted is)) (no_cycle noted ok))

-- ---- signatures

fits : (g : Signature) → IsOk (look_operators g)
    → (list_all (is_sound_operator g) g.operators && (int_fits g g.int && truth_fits g g.truth)) ≡ true
unfolding look_operators
fits g e = cond_ok (list_all (is_sound_operator g) g.operators && (int_fits g g.int && truth_fits g g.truth)) _ e

pub sound_when : (g : Signature) (noted : List Injection) → length g.sorts < 2 ^ 32 → length g.operators < 2 ^ 32
    → IsNoted g.operators noted → IsOk (look_operators g) → IsOk (look_cycles noted) → is_sound g ≡ true
unfolding is_sound
sound_when g noted sorts operators is fit ok =
    let sound = and_parts (list_all (is_sound_operator g) g.operators) (int_fits g g.int && truth_fits g g.truth) (fits g fit) in
    let values = and_parts (int_fits g g.int) (truth_fits g g.truth) sound.1 in
    and_from (nat_lt (length g.sorts) most && nat_lt (length g.operators) most)
    (list_all (is_sound_operator g) g.operators && (int_fits g g.int && (truth_fits g g.truth && has_no_cycle g)))
    (and_from (nat_lt (length g.sorts) most) (nat_lt (length g.operators) most) (lt-ltb _ _ sorts) (lt-ltb _ _ operators))
    (and_from (list_all (is_sound_operator g) g.operators) (int_fits g g.int && (truth_fits g g.truth && has_no_cycle g)) sound.0
    (and_from (int_fits g g.int) (truth_fits g g.truth && has_no_cycle g) values.0
    (and_from (truth_fits g g.truth) (has_no_cycle g) values.1 (acyclic g noted is sound.0 ok))))
