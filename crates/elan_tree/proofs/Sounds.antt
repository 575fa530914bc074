-- Steps other than growing keep what holds of every tree.
use Rattle.std.specs.Prelude.{◌≡◌, ℕ, List, refl}
use Rattle.std.proofs.Common.{sym, ◌∙◌, subst}
use Rattle.boxcar.specs.Table.{Where}
use Rattle.elan_tree.specs.Sense.{Sense}
use Rattle.elan_tree.specs.Tree.{Tree, Item, Open, Cat, First, Then}
use Rattle.elan_tree.specs.Listing.{list}
use Rattle.elan_tree.specs.Moves.{Step, Star, done, next}
use Rattle.elan_tree.specs.Normal.{NoGrow}
use Rattle.elan_tree.specs.Resuming.{Resumes, OfKin}
use Rattle.elan_tree.specs.Settling.{Makes, Fit, Settles}
use Rattle.elan_tree.specs.Standing.{Standing, state, branch_of, Sound, Advances}
use Rattle.elan_tree.specs.Marks.{Place, plain, branch_at}
use Rattle.elan_tree.proofs.Core.{run_within, run_keeps}
use Rattle.elan_tree.proofs.Kinship.{run_kin, move_kin, kin_under}
use Rattle.elan_tree.proofs.Over.{steps_over}

module _ {B I K M : Type 0} (w : Sense B I K M) where
  abbrev at : Where B → List M
  at s = w.items s.value

  none_grows : (o : Where B) (t : Tree I (Where B) K) → NoGrow o t → list w.means at w.after t ≡ at o
  none_grows o t h = absurd h

  no_growth : (o : Where B) (t : Tree I (Where B) K) → NoGrow o t → ⊥
  no_growth o t h = h

  resumes_list : (kin : ℕ) (k : K) (i : I) (t : Tree I (Where B) K) → Resumes w branch_of kin k i t → list w.means at w.after t ≡ w.after k (w.means i)
  resumes_list kin k i (Item j) h = h.0
  resumes_list kin k i (Open o) h = h.0
  resumes_list kin k i (Cat ts) h = absurd h
  resumes_list kin k i (First one arms) h = absurd h
  resumes_list kin k i (Then one t l) h = absurd h

  resumes_kin : (kin : ℕ) (k : K) (i : I) (t : Tree I (Where B) K) → Resumes w branch_of kin k i t → OfKin w branch_of kin t
  resumes_kin kin k i (Item j) h = h.1
  resumes_kin kin k i (Open o) h = h.1
  resumes_kin kin k i (Cat ts) h = absurd h
  resumes_kin kin k i (First one arms) h = absurd h
  resumes_kin kin k i (Then one t l) h = absurd h

  -- what a clause sees of the fields of a tree
  abbrev pub fields : Where B → ℕ → ℕ → List I → Tree I (Place B) K → Standing B I K
  fields root limit grown released t = record { root = root; limit = limit; grown = grown; released = released; tree = plain t }

  abbrev pub with_state : Standing B I K → List I → Tree I (Where B) K → Standing B I K
  with_state s rs t = record { root = s.root; limit = s.limit; grown = s.grown; released = rs; tree = t }

  pub sound_after : (s : Standing B I K) (rs : List I) (t : Tree I (Where B) K) → Sound w s
      → Star (Step NoGrow (Resumes w branch_of (w.kin s.root.value)) s.limit) (state s) record { released = rs; tree = t } → Sound w (with_state s rs t)
  sound_after s rs t h steps =
      let kin = w.kin s.root.value in
      let kept = run_kin w branch_of kin NoGrow (Resumes w branch_of kin) no_growth (resumes_kin kin) s.limit steps (h.kin, h.released_kin) in
      record {
        within = run_within w.means at w.after NoGrow (Resumes w branch_of kin) none_grows (resumes_list kin) s.limit steps h.within;
        first = run_keeps w.means at w.after NoGrow (Resumes w branch_of kin) none_grows (resumes_list kin) s.limit steps ∙ h.first;
        kin = kept.0;
        released_kin = kept.1;
      }

  -- ---- from marked trees
  makes_resumes : (kin : ℕ) (k : K) (i : I) (t : Tree I (Place B) K) → Makes w kin k i t → Resumes w branch_of kin k i (plain t)
  makes_resumes kin k i (Item j) h = h
  makes_resumes kin k i (Open p) h = (h.0, h.2)
  makes_resumes kin k i (Cat ts) h = h
  makes_resumes kin k i (First one arms) h = h
  makes_resumes kin k i (Then one t l) h = h

  pub plain_steps : (kin limit : ℕ) (rs ss : List I) (t u : Tree I (Place B) K) → Star (Step NoGrow (Makes w kin) limit) record { released = rs; tree = t } record { released = ss; tree = u }
      → Star (Step NoGrow (Resumes w branch_of kin) limit) record { released = rs; tree = plain t } record { released = ss; tree = plain u }
  plain_steps kin limit rs ss t u run = steps_over (λ (p : Place B). p.spot) NoGrow (Makes w kin) NoGrow (Resumes w branch_of kin) (λ o t h. h) (makes_resumes kin) limit run

  makes_fit : (kin : ℕ) (k : K) (i : I) (t : Tree I (Place B) K) → Makes w kin k i t → Fit w kin t
  makes_fit kin k i (Item j) h = h.1
  makes_fit kin k i (Open p) h = h.2
  makes_fit kin k i (Cat ts) h = absurd h
  makes_fit kin k i (First one arms) h = absurd h
  makes_fit kin k i (Then one t l) h = absurd h

  none_marked : (o : Place B) (t : Tree I (Place B) K) → NoGrow o t → ⊥
  none_marked o t h = h

  pub fit_star : (kin : ℕ) {t u : Tree I (Place B) K} → Settles w kin t u → Fit w kin t → Fit w kin u
  fit_star kin done h = h
  fit_star kin (next m s) h = fit_star kin s (move_kin w branch_at kin NoGrow (Makes w kin) none_marked (makes_fit kin) m h)

  -- the kin in a tree without marks is the kin in the marked one
  pub fit_plain : (kin : ℕ) (t : Tree I (Place B) K) → OfKin w branch_of kin (plain t) → Fit w kin t
  fit_plain kin t h = kin_under w (λ (p : Place B). p.spot) branch_of kin t h

  -- ---- the fields of a tree, as the code keeps them
  pub fit_of : (s : Standing B I K) (b : B) (t : Tree I (Place B) K) → b ≡ s.root.value → plain t ≡ s.tree → Sound w s → Fit w (w.kin b) t
  fit_of s b t e f h =
      let P : B → Type 0 = λ x. Fit w (w.kin x) t in
      subst P (sym e) (fit_plain (w.kin s.root.value) t (subst (OfKin w branch_of (w.kin s.root.value)) (sym f) h.kin))

  plain_run : (s : Standing B I K) (b : B) (rs : List I) (t u : Tree I (Place B) K) → b ≡ s.root.value → plain t ≡ s.tree
      → Star (Step NoGrow (Makes w (w.kin b)) s.limit) record { released = s.released; tree = t } record { released = rs; tree = u }
      → Star (Step NoGrow (Resumes w branch_of (w.kin s.root.value)) s.limit) (state s) record { released = rs; tree = plain u }
  plain_run s b rs t u e f steps =
      let P : B → Type 0 = λ x. Star (Step NoGrow (Resumes w branch_of (w.kin x)) s.limit) record { released = s.released; tree = plain t } record { released = rs; tree = plain u } in
      let Q : Tree I (Where B) K → Type 0 = λ x.
      Star (Step NoGrow (Resumes w branch_of (w.kin s.root.value)) s.limit) record { released = s.released; tree = x } record { released = rs; tree = plain u } in
      subst Q f (subst P e (plain_steps (w.kin b) s.limit s.released rs t u steps))

  pub advanced_sound : (s : Standing B I K) (b : B) (rs : List I) (t u : Tree I (Place B) K) → b ≡ s.root.value → plain t ≡ s.tree → Sound w s
      → Star (Step NoGrow (Makes w (w.kin b)) s.limit) record { released = s.released; tree = t } record { released = rs; tree = u } → Sound w (with_state s rs (plain u))
  advanced_sound s b rs t u e f h steps = sound_after s rs (plain u) h (plain_run s b rs t u e f steps)

  pub advanced : (s old : Standing B I K) (b : B) (rs : List I) (t u : Tree I (Place B) K) → s ≡ old → b ≡ s.root.value → plain t ≡ s.tree
      → Star (Step NoGrow (Makes w (w.kin b)) s.limit) record { released = s.released; tree = t } record { released = rs; tree = u } → Advances w old (with_state s rs (plain u))
  advanced s old b rs t u same e f steps =
      let P : Standing B I K → Type 0 = λ x. Advances w x (with_state s rs (plain u)) in
      subst P same record { steps = plain_run s b rs t u e f steps; root = refl; limit = refl; grown = refl }
