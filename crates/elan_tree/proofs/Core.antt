-- Each step of the core keeps the first items, and so does each run.
use Rattle.std.specs.Prelude.{◌≡◌, ℕ, ◌<◌, ◌≤◌, List, [], ◌∷◌, ◌++◌, length, map, take, refl}
use Rattle.std.proofs.Common.{zero, suc, sym, ◌∙◌, ap, arith, append-nil, length-append}
use Rattle.std.proofs.lemmas.List.{append_assoc as append-assoc, map-append, take_at}
use Rattle.elan_tree.specs.Tree.{Tree, Item, Open, Cat, First, Then, none}
use Rattle.elan_tree.specs.Listing.{list, lists}
use Rattle.elan_tree.specs.Moves.{State, Step, move, release_root, release_first, stop, Star, done, next}
use Rattle.elan_tree.specs.Core.{GrowsTo, ResumesTo, whole, CoreRun}
use Rattle.elan_tree.proofs.Lists.{move_list}

pub length-map : {A B : Type 0} (f : A → B) (xs : List A) → length (map f xs) ≡ length xs
length-map f [] = refl
length-map f (x ∷ xs) = ap suc (length-map f xs)

pub take_whole : {A : Type 0} (n : ℕ) (xs : List A) → length xs ≤ n → take n xs ≡ xs
take_whole zero [] h = refl
take_whole zero (x ∷ xs) h = absurd (omega arith)
take_whole (suc n) [] h = refl
take_whole (suc n) (x ∷ xs) h = ap (λ l. x ∷ l) (take_whole n xs (omega arith))

module _ {I O K M : Type 0} (means : I → M) (at : O → List M) (after : K → M → List M) where
  pub resumes_list : (k : K) (i : I) (t : Tree I O K) → ResumesTo means at after k i t → list means at after t ≡ after k (means i)
  resumes_list k i (Item j) h = h
  resumes_list k i (Open o) h = h
  resumes_list k i (Cat ts) h = absurd h
  resumes_list k i (First one arms) h = absurd h
  resumes_list k i (Then one t l) h = absurd h

  module _ (Grows : O → Tree I O K → Type 0) (Resumes : K → I → Tree I O K → Type 0)
      (grows : (o : O) (t : Tree I O K) → Grows o t → list means at after t ≡ at o)
      (resumes : (k : K) (i : I) (t : Tree I O K) → Resumes k i t → list means at after t ≡ after k (means i)) (limit : ℕ) where
    pub step_within : {s t : State I O K} → Step Grows Resumes limit s t → length s.released ≤ limit → length t.released ≤ limit
    step_within (move m) h = h
    step_within (release_root {rs = rs} {i = i} room) h = omega (arith, length-append rs (i ∷ []))
    step_within (release_first {rs = rs} {i = i} room) h = omega (arith, length-append rs (i ∷ []))
    step_within (stop full _) h = h

    pub step_keeps : {s t : State I O K} → Step Grows Resumes limit s t → take limit (whole means at after t) ≡ take limit (whole means at after s)
    step_keeps (move {rs = rs} m) = ap (λ ms. take limit (map means rs ++ ms)) (sym (move_list means at after Grows Resumes grows resumes m))
    step_keeps (release_root {rs = rs} {i = i} room) = ap (take limit) (append-nil (map means (rs ++ i ∷ [])) ∙ map-append means rs (i ∷ []))
    step_keeps (release_first {rs = rs} {i = i} {ts = ts} room) =
        ap (take limit) (ap (λ ms. ms ++ lists means at after ts) (map-append means rs (i ∷ [])) ∙ append-assoc (map means rs) (means i ∷ []) (lists means at after ts))
    step_keeps (stop {rs = rs} {t = t} full is_more) =
        let long : length (map means rs) ≡ limit = length-map means rs ∙ full in
        take_at (map means rs) [] limit long ∙ sym (take_at (map means rs) (list means at after t) limit long)

    pub run_within : {s t : State I O K} → Star (Step Grows Resumes limit) s t → length s.released ≤ limit → length t.released ≤ limit
    run_within done h = h
    run_within (next step run) h = run_within run (step_within step h)

    pub run_keeps : {s t : State I O K} → Star (Step Grows Resumes limit) s t → take limit (whole means at after t) ≡ take limit (whole means at after s)
    run_keeps done = refl
    run_keeps (next step run) = run_keeps run ∙ step_keeps step

    -- while there is room, a step keeps the whole list
    pub step_whole : {s t : State I O K} → Step Grows Resumes limit s t → length s.released < limit → whole means at after t ≡ whole means at after s
    step_whole (move {rs = rs} m) room = ap (λ ms. map means rs ++ ms) (sym (move_list means at after Grows Resumes grows resumes m))
    step_whole (release_root {rs = rs} {i = i} _) room = append-nil (map means (rs ++ i ∷ [])) ∙ map-append means rs (i ∷ [])
    step_whole (release_first {rs = rs} {i = i} {ts = ts} _) room =
        ap (λ ms. ms ++ lists means at after ts) (map-append means rs (i ∷ [])) ∙ append-assoc (map means rs) (means i ∷ []) (lists means at after ts)
    step_whole (stop full _) room = absurd (omega arith)

    step_grows : {s t : State I O K} → Step Grows Resumes limit s t → length s.released ≤ length t.released
    step_grows (move m) = omega arith
    step_grows (release_root {rs = rs} {i = i} _) = omega (arith, length-append rs (i ∷ []))
    step_grows (release_first {rs = rs} {i = i} _) = omega (arith, length-append rs (i ∷ []))
    step_grows (stop full _) = omega arith

    run_grows : {s t : State I O K} → Star (Step Grows Resumes limit) s t → length s.released ≤ length t.released
    run_grows done = omega arith
    run_grows (next step run) = omega (arith, step_grows step, run_grows run)

    pub run_whole : {s t : State I O K} → Star (Step Grows Resumes limit) s t → length t.released < limit → whole means at after t ≡ whole means at after s
    run_whole done room = refl
    run_whole (next step run) room = run_whole run room ∙ step_whole step (omega (arith, step_grows step, run_grows run, room))

  -- The law: at most the limit is released, and the first items are those of the root.
  pub core_run_within : (limit : ℕ) (root : O) (s : State I O K) → CoreRun means at after limit root s → length s.released ≤ limit
  core_run_within limit root s run =
      run_within (GrowsTo means at after) (ResumesTo means at after) (λ o t h. h) resumes_list limit run (omega arith)

  pub core_run_first : (limit : ℕ) (root : O) (s : State I O K) → CoreRun means at after limit root s → take limit (whole means at after s) ≡ take limit (at root)
  core_run_first limit root s run = run_keeps (GrowsTo means at after) (ResumesTo means at after) (λ o t h. h) resumes_list limit run

  pub core_run_over : (limit : ℕ) (root : O) (s : State I O K) → CoreRun means at after limit root s → s.tree ≡ Cat none → map means s.released ≡ take limit (at root)
  core_run_over limit root s run empty =
      let first = core_run_first limit root s run in
      let few = core_run_within limit root s run in
      let gone : whole means at after s ≡ map means s.released = ap (λ t. map means s.released ++ list means at after t) empty ∙ append-nil (map means s.released) in
      sym (take_whole limit (map means s.released) (omega (arith, length-map means s.released))) ∙ ap (take limit) (sym gone) ∙ first

  pub core_run_keeps : (limit : ℕ) (s t : State I O K) → Step (GrowsTo means at after) (ResumesTo means at after) limit s t → length s.released ≤ limit
      → (length t.released ≤ limit) × (take limit (whole means at after t) ≡ take limit (whole means at after s))
  core_run_keeps limit s t step h = (
    step_within (GrowsTo means at after) (ResumesTo means at after) (λ o t h. h) resumes_list limit step h,
    step_keeps (GrowsTo means at after) (ResumesTo means at after) (λ o t h. h) resumes_list limit step,
  )

  pub whole_run : (limit : ℕ) (root : O) (s : State I O K) → CoreRun means at after limit root s → length s.released < limit → whole means at after s ≡ at root
  whole_run limit root s run room = run_whole (GrowsTo means at after) (ResumesTo means at after) (λ o t h. h) resumes_list limit run room

  pub whole_keeps : (limit : ℕ) (s t : State I O K) → Step (GrowsTo means at after) (ResumesTo means at after) limit s t → length s.released < limit
      → whole means at after t ≡ whole means at after s
  whole_keeps limit s t step room = step_whole (GrowsTo means at after) (ResumesTo means at after) (λ o t h. h) resumes_list limit step room
