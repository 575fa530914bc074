-- The stages of a walk.
use Rattle.std.proofs.Common.{◌≡◌, refl, sym, ap, ◌∙◌, subst, ⊎_elim, ℕ, suc, ◌<◌, ◌≤◌, Bool, true, false, cond, Option, Some, None, List, [], ◌∷◌, ◌++◌, map, length, drop, get_or, filter, flat_map, arith}
use Rattle.elan_terms.specs.declared.tree.SortId.{SortId}
use Rattle.elan_terms.specs.declared.tree.Term.{Term}
use Rattle.elan_terms.specs.declared.tree.Pattern.{Pattern}
use Rattle.elan_terms.specs.Match.{parts, variables, has_sort, prefixed, choices, assignments, bound, instance, fits, matches}
use Rattle.elan_terms.specs.Valid.{IsValid}
use Rattle.elan_terms.specs.Canonical.{IsCanonical}
use Rattle.elan_terms.proofs.OrderLemmas.{same-equal}
use Rattle.elan_terms.proofs.Sorting.{not_true}
use Rattle.elan_terms.proofs.Lists.{In, in_filter, in_map, in_flat}
use Rattle.std.proofs.Common.{inl, inr}
use Rattle.elan_laws.specs.Parts.{IsPart}
use Rattle.elan_laws.proofs.PartLaws.{parts-pieces, piece-part}
use Rattle.elan_laws.proofs.MatchLaws.{part-canonical}
use Rattle.elan_laws.proofs.SortLaws.{part-valid}
use Rattle.elan_laws.proofs.CanonicalLaws.{true_or_false}
use Rattle.elan_fits.specs.declared.look.Look.{Look}
use Rattle.elan_fits.specs.declared.look.Look.TheVariants as look
use Rattle.elan_fits.specs.declared.look.Prefix.{Prefix}
use Rattle.elan_fits.specs.declared.task.Task.{Task}
use Rattle.elan_fits.specs.declared.task.Stage.{Stage}
use Rattle.elan_fits.specs.declared.task.Stage.TheVariants as stage
use Rattle.elan_fits.specs.Looks.{known, Tells, Makes}
use Rattle.elan_fits.specs.Walks.{IsTask, picked, fresh, after, AreThere, Finds, Stands, left}
use Rattle.elan_fits.proofs.WalkLemmas.{bound-kept, bound-next, fresh-whole}

-- ---- no match

none_kept : (test : List Term → Bool) (lists : List (List Term)) → ((b : List Term) → In b lists → test b ≡ false) → filter test lists ≡ []
none_kept test [] h = refl
none_kept test (b ∷ lists) h = ap (λ r. cond r (b ∷ filter test lists) (filter test lists)) (h b (inl refl)) ∙ none_kept test lists (λ a i. h a (inr i))

module _ (a : Prefix) (p : Pattern) (t : Term) (v : ℕ × SortId) (rest : List (ℕ × SortId)) (is_all : variables p ≡ v ∷ rest) (valid : IsValid a.shapes.now t) (canonical : IsCanonical a.shapes.now t) where
  no-fit : a.variables.now ≡ variables p → a.values.now ≡ [] → a.next ≡ v.0 → Tells a look.Never (Makes a p t) → (u : Term) (ts : List Term) → In u (parts a.shapes.now t)
      → fits a.shapes.now (variables p) p t (u ∷ ts) ≡ false
  unfolding Tells Makes fits
  no-fit named none_yet next h u ts i = ⊎_elim
      (λ yes. let part : IsPart a.shapes.now u t = piece-part a.shapes.now t u ((parts-pieces a.shapes.now t u).0 i) in
      not_true (sym (h (bound (variables p) (u ∷ ts)) u (
        (λ x w k. bound-kept (variables p) [] (u ∷ ts) x w (sym (ap (λ vs. known vs [] x) named) ∙ sym (ap (λ us. known a.variables.now us x) none_yet) ∙ k)),
        (λ k. ap (bound (variables p) (u ∷ ts)) next ∙ bound-next (variables p) [] v rest u ts is_all (sym (ap (λ vs. known vs [] v.0) named) ∙ sym (ap (λ us. known a.variables.now us v.0) none_yet) ∙ ap (known a.variables.now a.values.now) (sym next) ∙ k)),
      )
      (part-valid a.shapes.now u t valid part) (part-canonical a.shapes.now u t canonical part) (same-equal _ _ yes))))
      (λ other. other)
      (true_or_false (fits a.shapes.now (variables p) p t (u ∷ ts)))

  first_part : (b : List Term) → In b (choices a.shapes.now (parts a.shapes.now t) (v ∷ rest)) → (u : Term) × (ts : List Term) × (b ≡ u ∷ ts) × In u (parts a.shapes.now t)
  unfolding prefixed
  first_part b i =
      let h : (u : Term) × In u (filter (has_sort a.shapes.now v.1) (parts a.shapes.now t)) × In b (prefixed (choices a.shapes.now (parts a.shapes.now t) rest) u)
      = in_flat (prefixed (choices a.shapes.now (parts a.shapes.now t) rest)) (filter (has_sort a.shapes.now v.1) (parts a.shapes.now t)) b i in
      let k : (ts : List Term) × In ts (choices a.shapes.now (parts a.shapes.now t) rest) × (b ≡ h.0 ∷ ts) = in_map (λ ts. h.0 ∷ ts) (choices a.shapes.now (parts a.shapes.now t) rest) b h.2 in
      (h.0, k.0, k.2, (in_filter (has_sort a.shapes.now v.1) (parts a.shapes.now t) h.0 h.1).0)

  no-match : a.variables.now ≡ variables p → a.values.now ≡ [] → a.next ≡ v.0 → Tells a look.Never (Makes a p t) → matches a.shapes.now p t ≡ []
  unfolding matches assignments
  no-match named none_yet next h = none_kept (fits a.shapes.now (variables p) p t) (choices a.shapes.now (parts a.shapes.now t) (variables p)) (λ b i.
      let k : (u : Term) × (ts : List Term) × (b ≡ u ∷ ts) × In u (parts a.shapes.now t) = first_part b (subst (λ vs. In b (choices a.shapes.now (parts a.shapes.now t) vs)) is_all i) in
      ap (fits a.shapes.now (variables p) p t) k.2 ∙ no-fit named none_yet next h k.0 k.1 k.3)

pub never-matches : (a : Prefix) (p : Pattern) (t : Term) (vs rest : List (ℕ × SortId)) (v : ℕ × SortId) → vs ≡ variables p → vs ≡ v ∷ rest
    → a.variables.now ≡ vs → a.values.now ≡ [] → a.next ≡ v.0 → IsValid a.shapes.now t → IsCanonical a.shapes.now t → Tells a look.Never (Makes a p t) → matches a.shapes.now p t ≡ []
never-matches a p t vs rest v named start own none_yet next valid canonical h
    = no-match a p t v rest (sym named ∙ start) valid canonical (own ∙ named) none_yet next h

pub never-look : (a : Prefix) (l : Look) (p : Pattern) (t : Term) (vs rest : List (ℕ × SortId)) (v : ℕ × SortId) → Tells a l (Makes a p t) → l ≡ look.Never → vs ≡ variables p → vs ≡ v ∷ rest
    → a.variables.now ≡ vs → a.values.now ≡ [] → a.next ≡ v.0 → IsValid a.shapes.now t → IsCanonical a.shapes.now t → matches a.shapes.now p t ≡ []
never-look a l p t vs rest v h is named start own none_yet next valid canonical
    = never-matches a p t vs rest v named start own none_yet next valid canonical (subst (λ m. Tells a m (Makes a p t)) is h)

pub begins-drop : (vs : List (ℕ × SortId)) (v : ℕ × SortId) → 1 ≤ length vs → v ≡ get_or vs 0 v → vs ≡ v ∷ drop 1 vs
begins-drop [] v some is = absurd (omega arith)
begins-drop (w ∷ vs) v some is = ap (λ x. x ∷ vs) (sym is)

pub ruleset never = (never-look, begins-drop)

-- ---- the stages

pub task-made : (w : Task) → w.variables ≡ variables w.pattern.now → w.parts ≡ parts w.shapes.now w.term.now → IsValid w.shapes.now w.term.now → IsCanonical w.shapes.now w.term.now → IsTask w
task-made w named parted valid canonical = record { named = named; parted = λ _. parted; valid = valid; canonical = canonical }

pub ruleset begin_all = (task-made)

pub finds-begin : (w : Task) (before : List Term) (vs : List (ℕ × SortId)) (answer : Option (List ℕ)) → IsTask w → before ≡ [] → vs ≡ w.variables → Finds w before vs answer (fresh w before vs)
    → Finds w [] w.variables answer (left w stage.Begin)
finds-begin w before vs answer task e is h =
    subst (Finds w [] w.variables answer) (fresh-whole w task) (subst (λ ws. Finds w [] ws answer (fresh w [] ws)) is (subst (λ ts. Finds w ts vs answer (fresh w ts vs)) e h))

pub finds-after : (w : Task) (before : List Term) (vs : List (ℕ × SortId)) (places own : List ℕ) (answer : Option (List ℕ)) → before ≡ [] → vs ≡ w.variables → places ≡ own → Finds w before vs answer (after w before places vs)
    → Finds w [] w.variables answer (left w (stage.After own))
finds-after w before vs places own answer e is same h =
    subst (λ ps. Finds w [] w.variables answer (after w [] ps w.variables)) same (subst (λ ws. Finds w [] ws answer (after w [] places ws)) is (subst (λ ts. Finds w ts vs answer (after w ts places vs)) e h))

pub finds-end : (w : Task) → Finds w [] w.variables None (left w stage.End)
unfolding Finds
finds-end w = refl

pub ruleset advances = (finds-begin, finds-after, finds-end)

no_more : {A : Type 0} (b : List Term) (lists : List (List Term)) → [] ≡ b ∷ lists → A
no_more b lists e = absurd (let l : 0 ≡ suc (length lists) = ap length e in omega arith)

pub turn-stands : (w : Task) (s : Stage) (places : List ℕ) → Stands w s → Finds w [] w.variables (Some places) (left w s) → Stands w (stage.After places)
unfolding Finds
turn-stands w stage.Begin places h f = (h, f.0)
turn-stands w (stage.After before) places h f = (h.0, f.0)
turn-stands w stage.End places h f = no_more _ _ f.1

pub turn-there : (w : Task) (s : Stage) (places : List ℕ) → Finds w [] w.variables (Some places) (left w s) → AreThere (length w.parts) places
unfolding Finds
turn-there w s places f = f.0

pub turn-found : (w : Task) (s : Stage) (places : List ℕ) (values : List Term) → Finds w [] w.variables (Some places) (left w s) → values ≡ picked w.parts places → left w s ≡ values ∷ left w (stage.After places)
unfolding Finds
turn-found w s places values f e = f.1 ∙ ap (λ ts. ts ∷ after w [] places w.variables) (sym e)

pub turn-none : (w : Task) (s : Stage) → Finds w [] w.variables None (left w s) → left w s ≡ []
unfolding Finds
turn-none w s f = f

pub ruleset turns = (turn-stands, turn-there, turn-found, turn-none)
