-- A growth that stands keeps what holds of every tree.
use Rattle.std.specs.Prelude.{◌≡◌, ℕ, length, map, take, List, [], ◌∷◌, ◌++◌, Bool, true, false, refl, Option, Some, None, IsSomeAnd, is_some, MatchBool, ◌⊎◌, Result, Ok, Err, IfOk, OnErr, if◌then◌else◌}
use Rattle.std.specs.declared.sync.Arc.{Arc}
use Rattle.std.specs.declared.alloc.Global.{Global}
use Rattle.std.proofs.Common.{sym, ◌∙◌, ap, subst, arith, inl, inr}
use Rattle.std.proofs.lemmas.Result.{IfOk-weaker}
use Rattle.boxcar.specs.Table.{Where}
use Rattle.elan_tree.specs.Sense.{Sense}
use Rattle.elan_tree.specs.Tree.{Tree, Item, Open, Cat, First, Then, Trees, none, more, Arms, no_arm, arm, over}
use Rattle.elan_tree.specs.Listing.{cut, each, if_any, list, lists, first_list}
use Rattle.elan_tree.specs.Growths.{many_list, scope_list, growth_list, many_kin, scope_kin, GrowthKin, GrowthOf}
use Rattle.elan_tree.specs.Places.{places, numbered, or_else, first_at, any_first, arm_first, has, put, put_all, put_arms}
use Rattle.elan_tree.specs.Planting.{Posted, AllPosted, ArmsPosted, Planted}
use Rattle.elan_tree.specs.Resuming.{Resumes, OfKin, AllOfKin, ArmsOfKin}
use Rattle.elan_tree.specs.Marks.{Place, plain, seen, unmarked, at_place, IsFresh, fresh_spots}
use Rattle.elan_tree.specs.Settling.{Makes, Fit}
use Rattle.elan_tree.specs.Standing.{Standing, Sound, branch_of}
use Rattle.elan_tree.specs.Growing.{Stands, Kept, Stood, Moved, Replies}
use Rattle.elan_tree.specs.Answer.{Names, Grew, Opens, Answers, Refused}
use Rattle.elan_tree.specs.Moves.{Star, Step}
use Rattle.elan_tree.specs.Normal.{NoGrow}
use Rattle.elan_tree.proofs.Finding.{some_has}
use Rattle.elan_tree.proofs.Over.{put_over, has_over, first_over, image, planted_over, plain_seen}
use Rattle.elan_tree.proofs.Sounds.{sound_after, plain_steps, fit_plain}
use Rattle.elan_tree.proofs.Kinship.{kin_over}
use Rattle.elan_tree.proofs.Counting.{length-plain}
use Rattle.elan_tree.specs.declared.branch.Grown.{Grown}
use Rattle.elan_tree.specs.declared.branch.Grown.TheVariants.{Taken, Stale}
use Rattle.elan_tree.specs.declared.branch.Growth.{Growth}
use Rattle.elan_tree.specs.declared.branch.Growth.TheVariants as G

module _ {B I K M : Type 0} (w : Sense B I K M) where
  abbrev at : Where B → List M
  at p = w.items p.value

  abbrev L : Tree I (Where B) K → List M
  L t = list w.means at w.after t

  abbrev Ls : Trees I (Where B) K → List M
  Ls ts = lists w.means at w.after ts

  abbrev La : Bool → Arms I (Where B) K → List M
  La one arms = first_list w.means at w.after one arms

  -- what an alternative gives
  abbrev gives : Bool → K → List M → List M → List M
  gives one k ms rest = if_any ms (each (w.after k) (cut one ms)) rest

  module _ (here : Where B → Bool) (u : Tree I (Where B) K) where
    -- where a place has this number, its list is that of u
    abbrev mutual
      pub Agrees : Tree I (Where B) K → Type 0
      Agrees (Item i) = Unit {0}
      Agrees (Open p) = here p ≡ true → L u ≡ at p
      Agrees (Cat ts) = AgreesAll ts
      Agrees (First one arms) = AgreesArms arms
      Agrees (Then one t k) = Agrees t

      pub AgreesAll : Trees I (Where B) K → Type 0
      AgreesAll none = Unit {0}
      AgreesAll (more t ts) = (has here t ≡ true → Agrees t) × (has here t ≡ false → AgreesAll ts)

      pub AgreesArms : Arms I (Where B) K → Type 0
      AgreesArms no_arm = Unit {0}
      AgreesArms (arm t k arms) = (has here t ≡ true → Agrees t) × (has here t ≡ false → AgreesArms arms)

    put_here : (b : Bool) (p : Where B) → (b ≡ true → L u ≡ at p) → L (if b then u else Open p) ≡ at p
    put_here true p h = h refl
    put_here false p h = refl

    choose_list : (b : Bool) (t : Tree I (Where B) K) (ts : Trees I (Where B) K) (t' : Tree I (Where B) K) (ts' : Trees I (Where B) K) → (b ≡ true → L t' ≡ L t) → (b ≡ false → Ls ts' ≡ Ls ts)
        → Ls (if b then more t' ts else more t ts') ≡ L t ++ Ls ts
    choose_list true t ts t' ts' h k = ap (λ ms. ms ++ Ls ts) (h refl)
    choose_list false t ts t' ts' h k = ap (λ ms. L t ++ ms) (k refl)

    choose_arm : (one b : Bool) (k : K) (t : Tree I (Where B) K) (arms : Arms I (Where B) K) (t' : Tree I (Where B) K) (arms' : Arms I (Where B) K) → (b ≡ true → L t' ≡ L t)
        → (b ≡ false → La one arms' ≡ La one arms) → La one (if b then arm t' k arms else arm t k arms') ≡ gives one k (L t) (La one arms)
    choose_arm one true k t arms t' arms' h l = ap (λ ms. gives one k ms (La one arms)) (h refl)
    choose_arm one false k t arms t' arms' h l = ap (gives one k (L t)) (l refl)

    mutual
      pub put_list : (t : Tree I (Where B) K) → Agrees t → L (put here u t) ≡ L t
      put_list (Item i) h = refl
      put_list (Open p) h = put_here (here p) p h
      put_list (Cat ts) h = put_lists ts h
      put_list (First one arms) h = put_arm_list one arms h
      put_list (Then one t k) h = ap (λ ms. each (w.after k) (cut one ms)) (put_list t h)

      put_lists : (ts : Trees I (Where B) K) → AgreesAll ts → Ls (put_all here u ts) ≡ Ls ts
      put_lists none h = refl
      put_lists (more t ts) h = choose_list (has here t) t ts (put here u t) (put_all here u ts) (λ e. put_list t (h.0 e)) (λ e. put_lists ts (h.1 e))

      put_arm_list : (one : Bool) (arms : Arms I (Where B) K) → AgreesArms arms → La one (put_arms here u arms) ≡ La one arms
      put_arm_list one no_arm h = refl
      put_arm_list one (arm t k arms) h = choose_arm one (has here t) k t arms (put here u t) (put_arms here u arms) (λ e. put_list t (h.0 e)) (λ e. put_arm_list one arms (h.1 e))

module _ {B I K M : Type 0} (w : Sense B I K M) (kin : ℕ) where
  posted_list : (b : B) (t : Tree I (Where B) K) → Posted Names b t → L w t ≡ w.items b
  posted_list b (Item i) h = absurd h
  posted_list b (Open p) h = ap w.items h
  posted_list b (Cat ts) h = absurd h
  posted_list b (First one arms) h = absurd h
  posted_list b (Then one t k) h = absurd h

  all_posted_list : (bs : List B) (ts : Trees I (Where B) K) → AllPosted Names bs ts → Ls w ts ≡ many_list w bs
  all_posted_list [] none h = refl
  all_posted_list [] (more t ts) h = absurd h
  all_posted_list (b ∷ bs) none h = absurd h
  all_posted_list (b ∷ bs) (more t ts) h = λ j. posted_list b t h.0 j ++ all_posted_list bs ts h.1 j

  arms_posted_list : (one : Bool) (alts : List (B × Arc K Global)) (arms : Arms I (Where B) K) → ArmsPosted Names alts arms → La w one arms ≡ scope_list w one alts
  arms_posted_list one [] no_arm h = refl
  arms_posted_list one [] (arm t k arms) h = absurd h
  arms_posted_list one (a ∷ alts) no_arm h = absurd h
  arms_posted_list one (a ∷ alts) (arm t k arms) h = λ j. gives w one (h.1 j) (posted_list a.0 t h.0 j) (arms_posted_list one alts arms h.2 j)

  -- the tree of a growth has the list of the growth
  pub planted_list : (g : Growth B I K M) (t : Tree I (Where B) K) → Planted Names g t → L w t ≡ growth_list w g
  planted_list G.Nothing t h = ap (L w) h
  planted_list (G.Item i) t h = ap (L w) h
  planted_list (G.Next b) t h = posted_list b t h
  planted_list (G.Many bs) t h = ap (L w) h.1 ∙ all_posted_list bs.items h.0 h.2
  planted_list (G.Scope one alts) t h = ap (L w) h.1 ∙ arms_posted_list one alts.items h.0 h.2

  -- ---- kin
  module _ (here : Where B → Bool) (u : Tree I (Where B) K) (fit : OfKin w branch_of kin u) where
    if_fit : (b : Bool) (p : Where B) → OfKin w branch_of kin (Open p) → OfKin w branch_of kin (if b then u else Open p)
    if_fit true p h = fit
    if_fit false p h = h

    if_all : (b : Bool) (t t' : Tree I (Where B) K) (ts ts' : Trees I (Where B) K) → OfKin w branch_of kin t → OfKin w branch_of kin t' → AllOfKin w branch_of kin ts → AllOfKin w branch_of kin ts'
        → AllOfKin w branch_of kin (if b then more t' ts else more t ts')
    if_all true t t' ts ts' a b c d = (b, c)
    if_all false t t' ts ts' a b c d = (a, d)

    if_arms : (b : Bool) (k : K) (t t' : Tree I (Where B) K) (xs ys : Arms I (Where B) K) → w.kin_of_then k ≡ kin → OfKin w branch_of kin t → OfKin w branch_of kin t' → ArmsOfKin w branch_of kin xs
        → ArmsOfKin w branch_of kin ys → ArmsOfKin w branch_of kin (if b then arm t' k xs else arm t k ys)
    if_arms true k t t' xs ys e a b c d = (b, e, c)
    if_arms false k t t' xs ys e a b c d = (a, e, d)

    mutual
      put_fit : (t : Tree I (Where B) K) → OfKin w branch_of kin t → OfKin w branch_of kin (put here u t)
      put_fit (Item i) h = h
      put_fit (Open p) h = if_fit (here p) p h
      put_fit (Cat ts) h = put_fits ts h
      put_fit (First one arms) h = put_arm_fit arms h
      put_fit (Then one t k) h = (put_fit t h.0, h.1)

      put_fits : (ts : Trees I (Where B) K) → AllOfKin w branch_of kin ts → AllOfKin w branch_of kin (put_all here u ts)
      put_fits none h = h
      put_fits (more t ts) h = if_all (has here t) t (put here u t) ts (put_all here u ts) h.0 (put_fit t h.0) h.1 (put_fits ts h.1)

      put_arm_fit : (arms : Arms I (Where B) K) → ArmsOfKin w branch_of kin arms → ArmsOfKin w branch_of kin (put_arms here u arms)
      put_arm_fit no_arm h = h
      put_arm_fit (arm t k arms) h = if_arms (has here t) k t (put here u t) arms (put_arms here u arms) h.1 h.0 (put_fit t h.0) h.2 (put_arm_fit arms h.2)

  posted_fit : (b : B) (t : Tree I (Where B) K) → w.kin b ≡ kin → Posted Names b t → OfKin w branch_of kin t
  posted_fit b (Item i) m h = absurd h
  posted_fit b (Open p) m h = ap w.kin h ∙ m
  posted_fit b (Cat ts) m h = absurd h
  posted_fit b (First one arms) m h = absurd h
  posted_fit b (Then one t k) m h = absurd h

  all_posted_fit : (bs : List B) (ts : Trees I (Where B) K) → many_kin w kin bs → AllPosted Names bs ts → AllOfKin w branch_of kin ts
  all_posted_fit [] none m h = tt
  all_posted_fit [] (more t ts) m h = absurd h
  all_posted_fit (b ∷ bs) none m h = absurd h
  all_posted_fit (b ∷ bs) (more t ts) m h = (posted_fit b t m.0 h.0, all_posted_fit bs ts m.1 h.1)

  arms_posted_fit : (alts : List (B × Arc K Global)) (arms : Arms I (Where B) K) → scope_kin w kin alts → ArmsPosted Names alts arms → ArmsOfKin w branch_of kin arms
  arms_posted_fit [] no_arm m h = tt
  arms_posted_fit [] (arm t k arms) m h = absurd h
  arms_posted_fit (a ∷ alts) no_arm m h = absurd h
  arms_posted_fit (a ∷ alts) (arm t k arms) m h = (posted_fit a.0 t m.0 h.0, ap w.kin_of_then h.1 ∙ m.1, arms_posted_fit alts arms m.2 h.2)

  planted_fit : (g : Growth B I K M) (t : Tree I (Where B) K) → GrowthKin w kin g → Planted Names g t → OfKin w branch_of kin t
  planted_fit G.Nothing t m h = subst (OfKin w branch_of kin) (sym h) tt
  planted_fit (G.Item i) t m h = subst (OfKin w branch_of kin) (sym h) m
  planted_fit (G.Next b) t m h = posted_fit b t m h
  planted_fit (G.Many bs) t m h = subst (OfKin w branch_of kin) (sym h.1) (all_posted_fit bs.items h.0 m h.2)
  planted_fit (G.Scope one alts) t m h = subst (OfKin w branch_of kin) (sym h.1) (arms_posted_fit alts.items h.0 m h.2)

  -- ---- the place that is found has the list
  module _ (here : Where B → Bool) (u : Tree I (Where B) K) where
    abbrev AtFirst : Option (Where B) → Type 0
    AtFirst None = Unit {0}
    AtFirst (Some p) = L w u ≡ at w p

    or_left : (a b : Option (Where B)) → AtFirst (or_else a b) → is_some a ≡ true → AtFirst a
    or_left None b h e = tt
    or_left (Some p) b h e = h

    or_right : (a b : Option (Where B)) → AtFirst (or_else a b) → is_some a ≡ false → AtFirst b
    or_right None b h e = h
    or_right (Some p) b h e = absurd (cc e)

    if_first : (b : Bool) (p : Where B) → AtFirst (if b then Some p else None) → b ≡ true → L w u ≡ at w p
    if_first true p h e = h
    if_first false p h e = absurd (cc e)

    mutual
      agrees_at : (t : Tree I (Where B) K) → AtFirst (first_at here t) → Agrees w here u t
      agrees_at (Item i) h = tt
      agrees_at (Open p) h = if_first (here p) p h
      agrees_at (Cat ts) h = agrees_all ts h
      agrees_at (First one arms) h = agrees_arms arms h
      agrees_at (Then one t k) h = agrees_at t h

      agrees_all : (ts : Trees I (Where B) K) → AtFirst (any_first here ts) → AgreesAll w here u ts
      agrees_all none h = tt
      agrees_all (more t ts) h =
          (λ e. agrees_at t (or_left (first_at here t) (any_first here ts) h (some_has here t ∙ e)), λ e. agrees_all ts (or_right (first_at here t) (any_first here ts) h (some_has here t ∙ e)))

      agrees_arms : (arms : Arms I (Where B) K) → AtFirst (arm_first here arms) → AgreesArms w here u arms
      agrees_arms no_arm h = tt
      agrees_arms (arm t k arms) h =
          (λ e. agrees_at t (or_left (first_at here t) (arm_first here arms) h (some_has here t ∙ e)), λ e. agrees_arms arms (or_right (first_at here t) (arm_first here arms) h (some_has here t ∙ e)))

    at_named : (o : Option (Where B)) (b : B) → IsSomeAnd o (λ p. p.value ≡ b) → L w u ≡ w.items b → AtFirst o
    at_named None b h e = tt
    at_named (Some p) b h e = e ∙ ap w.items (sym h)

    -- what stands has the list of the tree
    pub stood_list : (t : Tree I (Where B) K) (b : B) → IsSomeAnd (first_at here t) (λ s. s.value ≡ b) → L w u ≡ w.items b → L w (put here u t) ≡ L w t
    stood_list t b h e = put_list w here u t (agrees_at t (at_named (first_at here t) b h e))

  -- the place that is found has the kin of the tree
  module _ (here : Where B → Bool) where
    abbrev KinOf : Option (Where B) → Type 0
    KinOf None = Unit {0}
    KinOf (Some p) = w.kin p.value ≡ kin

    kin_or : (a b : Option (Where B)) → KinOf a → KinOf b → KinOf (or_else a b)
    kin_or None b h k = k
    kin_or (Some p) b h k = h

    kin_if : (b : Bool) (p : Where B) → w.kin p.value ≡ kin → KinOf (if b then Some p else None)
    kin_if true p h = h
    kin_if false p h = tt

    mutual
      found_kin : (t : Tree I (Where B) K) → OfKin w branch_of kin t → KinOf (first_at here t)
      found_kin (Item i) h = tt
      found_kin (Open p) h = kin_if (here p) p h
      found_kin (Cat ts) h = any_kin ts h
      found_kin (First one arms) h = arm_kin arms h
      found_kin (Then one t k) h = found_kin t h.0

      any_kin : (ts : Trees I (Where B) K) → AllOfKin w branch_of kin ts → KinOf (any_first here ts)
      any_kin none h = tt
      any_kin (more t ts) h = kin_or (first_at here t) (any_first here ts) (found_kin t h.0) (any_kin ts h.1)

      arm_kin : (arms : Arms I (Where B) K) → ArmsOfKin w branch_of kin arms → KinOf (arm_first here arms)
      arm_kin no_arm h = tt
      arm_kin (arm t k arms) h = kin_or (first_at here t) (arm_first here arms) (found_kin t h.0) (arm_kin arms h.2)

    same_kin : (o : Option (Where B)) (b : B) → KinOf o → IsSomeAnd o (λ s. s.value ≡ b) → w.kin b ≡ kin
    same_kin None b h k = absurd k
    same_kin (Some p) b h k = ap w.kin (sym k) ∙ h

    branch_kin : (t : Tree I (Where B) K) (b : B) → OfKin w branch_of kin t → IsSomeAnd (first_at here t) (λ s. s.value ≡ b) → w.kin b ≡ kin
    branch_kin t b h k = same_kin (first_at here t) b (found_kin t h) k

module _ {B : Type 0} where
  named_plain : (o : Option (Place B)) (b : B) → IsSomeAnd o (λ p. p.spot.value ≡ b) → IsSomeAnd (image (λ (p : Place B). p.spot) o) (λ s. s.value ≡ b)
  named_plain None b h = h
  named_plain (Some p) b h = h

module _ {B I K M : Type 0} (w : Sense B I K M) where
  abbrev spot_of : Place B → Where B
  spot_of p = p.spot

  abbrev pub standing : Standing B I K → Kept B I K → Standing B I K
  standing s k = record { root = s.root; limit = s.limit; grown = k.grown; released = k.released; tree = plain k.tree }

  -- a growth that stands, seen without marks
  plain_stands : (spot : Where B) (g : Growth B I K M) (t u : Tree I (Place B) K) → (st : Stands spot g t u) → plain u ≡ put (numbered spot.index) (plain st.planted) (plain t)
  plain_stands spot g t u st =
      ap plain st.stands ∙ sym (put_over spot_of (numbered spot.index) st.planted (unmarked t)) ∙ ap (put (numbered spot.index) (plain st.planted)) (plain_seen (plain t))

  plain_branch : (spot : Where B) (g : Growth B I K M) (t u : Tree I (Place B) K) → Stands spot g t u → IsSomeAnd (first_at (numbered spot.index) (plain t)) (λ s. s.value ≡ spot.value)
  plain_branch spot g t u st =
      let P : Option (Where B) → Type 0 = λ o. IsSomeAnd o (λ s. s.value ≡ spot.value) in
      subst P (sym (first_over spot_of (numbered spot.index) t)) (named_plain (first_at (at_place spot.index) t) spot.value st.branch)

  plain_growth : (g : Growth B I K M) (t : Tree I (Place B) K) → Planted IsFresh g t → Planted Names g (plain t)
  plain_growth g t h = planted_over spot_of IsFresh Names (λ b p h. h.0) g t h

  -- what holds of every tree holds where a growth was placed
  sound_placed : (s : Standing B I K) (spot : Where B) (g : Growth B I K M) (u : Tree I (Where B) K) (grown : ℕ) → Sound w s → IsSomeAnd (first_at (numbered spot.index) s.tree) (λ p. p.value ≡ spot.value)
      → Planted Names g u → GrowthOf w spot.value g
      → Sound w record { root = s.root; limit = s.limit; grown = grown; released = s.released; tree = put (numbered spot.index) u s.tree }
  sound_placed s spot g u grown h named planted of_branch =
      let kin = w.kin s.root.value in
      let same_kin : w.kin spot.value ≡ kin = branch_kin w kin (numbered spot.index) s.tree spot.value h.kin named in
      let same : L w (put (numbered spot.index) u s.tree) ≡ L w s.tree =
      stood_list w kin (numbered spot.index) u s.tree spot.value named (planted_list w kin g u planted ∙ of_branch.0) in
      record {
        within = h.within;
        first = ap (λ ms. take s.limit (map w.means s.released ++ ms)) same ∙ h.first;
        kin = put_fit w kin (numbered spot.index) u (planted_fit w kin g u (subst (λ (k : ℕ). GrowthKin w k g) same_kin of_branch.1) planted) s.tree h.kin;
        released_kin = h.released_kin;
      }

  abbrev before : Standing B I K → ℕ → Tree I (Place B) K → Kept B I K
  before s grown t = record { grown = grown; released = s.released; tree = t }

  -- what the whole call does to the kept fields keeps what holds of every tree
  stood_sound : (s : Standing B I K) (t : Tree I (Place B) K) (spot : Where B) (g : Growth B I K M) (new : Kept B I K) → plain t ≡ s.tree → Sound w s → GrowthOf w spot.value g
      → Stood w (w.kin s.root.value) s.limit spot g (before s s.grown t) new → Sound w (standing s new)
  stood_sound s t spot g new e h of_branch st =
      let kin = w.kin s.root.value in
      let named : IsSomeAnd (first_at (numbered spot.index) s.tree) (λ p. p.value ≡ spot.value) =
      subst (λ (x : Tree I (Where B) K). IsSomeAnd (first_at (numbered spot.index) x) (λ p. p.value ≡ spot.value)) e (plain_branch spot g t st.middle st.stands) in
      let placed = sound_placed s spot g (plain st.stands.planted) new.grown h named (plain_growth g st.stands.planted st.stands.of_growth) of_branch in
      let there : plain st.middle ≡ put (numbered spot.index) (plain st.stands.planted) s.tree =
      plain_stands spot g t st.middle st.stands ∙ ap (put (numbered spot.index) (plain st.stands.planted)) e in
      let middle : Sound w record { root = s.root; limit = s.limit; grown = new.grown; released = s.released; tree = plain st.middle } =
      subst (λ (x : Tree I (Where B) K). Sound w record { root = s.root; limit = s.limit; grown = new.grown; released = s.released; tree = x }) (sym there) placed in
      sound_after w record { root = s.root; limit = s.limit; grown = new.grown; released = s.released; tree = plain st.middle } new.released (plain new.tree) middle
      (plain_steps w kin s.limit s.released new.released st.middle new.tree st.steps)

  -- the same, where the growth stands or nothing has changed
  pub moved_sound : (s : Standing B I K) (b : B) (t : Tree I (Place B) K) (spot : Where B) (g : Growth B I K M) (new : Kept B I K) → b ≡ s.root.value → plain t ≡ s.tree → Sound w s
      → GrowthOf w spot.value g → (new ≡ before s s.grown t) ⊎ Stood w (w.kin b) s.limit spot g (before s s.grown t) new → Sound w (standing s new)
  moved_sound s b t spot g new f e h of_branch (inl same) =
      let P : Kept B I K → Type 0 = λ k. Sound w (standing s k) in
      let Q : Tree I (Where B) K → Type 0 = λ x. Sound w record { root = s.root; limit = s.limit; grown = s.grown; released = s.released; tree = x } in
      subst P (sym same) (subst Q (sym e) h)
  moved_sound s b t spot g new f e h of_branch (inr st) =
      stood_sound s t spot g new e h of_branch (subst (λ (x : B). Stood w (w.kin x) s.limit spot g (before s s.grown t) new) f st)

  -- the growth stands, in the words of the public clauses
  pub stood_grew : (s : Standing B I K) (b : B) (t : Tree I (Place B) K) (spot : Where B) (g : Growth B I K M) (new : Kept B I K) → b ≡ s.root.value → plain t ≡ s.tree
      → Stood w (w.kin b) s.limit spot g (before s s.grown t) new → Grew w spot g s (standing s new)
  stood_grew s b t spot g new f e st =
      let kin = w.kin s.root.value in
      let there : plain st.middle ≡ put (numbered spot.index) (plain st.stands.planted) s.tree =
      plain_stands spot g t st.middle st.stands ∙ ap (put (numbered spot.index) (plain st.stands.planted)) e in
      let steps = plain_steps w kin s.limit s.released new.released st.middle new.tree
      (subst (λ (x : B). Star (Step NoGrow (Makes w (w.kin x)) s.limit) record { released = s.released; tree = st.middle } record { released = new.released; tree = new.tree }) f st.steps) in
      record {
        was_open = ap (has (numbered spot.index)) (sym e) ∙ has_over spot_of (numbered spot.index) t ∙ st.stands.open_before;
        planted = plain st.stands.planted;
        of_growth = plain_growth g st.stands.planted st.stands.of_growth;
        steps =
            subst (λ (x : Tree I (Where B) K). Star (Step NoGrow (Resumes w branch_of kin) s.limit) record { released = s.released; tree = x } record { released = new.released; tree = plain new.tree })
            there steps;
        grown = st.grown;
      }

  -- the places of this call that are still open, in the words of the public clauses
  pub stood_opens : (s : Standing B I K) (b : B) (t : Tree I (Place B) K) (spot : Where B) (g : Growth B I K M) (new : Kept B I K) (opened : List (Where B)) → b ≡ s.root.value
      → plain t ≡ s.tree → Stood w (w.kin b) s.limit spot g (before s s.grown t) new → opened ≡ fresh_spots (places new.tree) → Opens w spot g s (standing s new) opened
  stood_opens s b t spot g new opened f e st listed =
      let kin = w.kin s.root.value in
      let there : st.middle ≡ put (at_place spot.index) st.stands.planted (over seen s.tree) = st.stands.stands ∙ ap (λ (x : Tree I (Where B) K). put (at_place spot.index) st.stands.planted (over seen x)) e in
      record {
        planted = st.stands.planted;
        of_growth = st.stands.of_growth;
        ending = new.tree;
        steps =
            subst (λ (x : Tree I (Place B) K). Star (Step NoGrow (Makes w kin) s.limit) record { released = s.released; tree = x } record { released = new.released; tree = new.tree }) there
            (subst (λ (x : B). Star (Step NoGrow (Makes w (w.kin x)) s.limit) record { released = s.released; tree = st.middle } record { released = new.released; tree = new.tree }) f st.steps);
        same = refl;
        listed = listed;
      }

  -- the kin of the tree in which a growth was placed
  pub placed_fit : (kin : ℕ) (spot : Where B) (g : Growth B I K M) (t u : Tree I (Place B) K) → Fit w kin t → Stands spot g t u → GrowthOf w spot.value g → Fit w kin u
  placed_fit kin spot g t u h st of_branch =
      let bare : OfKin w branch_of kin (plain t) = kin_over w spot_of branch_of kin t h in
      let same_kin = branch_kin w kin (numbered spot.index) (plain t) spot.value bare (plain_branch spot g t u st) in
      let planted = planted_fit w kin g (plain st.planted) (subst (λ (k : ℕ). GrowthKin w k g) same_kin of_branch.1) (plain_growth g st.planted st.of_growth) in
      fit_plain w kin u (subst (OfKin w branch_of kin) (sym (plain_stands spot g t u st)) (put_fit w kin (numbered spot.index) (plain st.planted) planted (plain t) bare))

module _ {B I K M : Type 0} (w : Sense B I K M) (s : Standing B I K) (b : B) (t : Tree I (Place B) K) (spot : Where B) (g : Growth B I K M) (new : Kept B I K)
    (root : b ≡ s.root.value) (tree : plain t ≡ s.tree) where
  unchanged : new ≡ before w s s.grown t → standing w s new ≡ s
  unchanged e = ap (standing w s) e ∙ ap (λ (x : Tree I (Where B) K). record { root = s.root; limit = s.limit; grown = s.grown; released = s.released; tree = x }) tree

  answered : {N : Type 0} (a : Grown B N) → Replies w (w.kin b) s.limit spot g (before w s s.grown t) new a → Answers w spot g s (standing w s new) a
  answered (Taken released cut opened) h =
      let after = length-plain w new.tree in
      let had : length (places t) ≡ length (places s.tree) = sym (length-plain w t) ∙ ap (λ (x : Tree I (Where B) K). length (places x)) tree in
      record {
        grew = stood_grew w s b t spot g new root tree h.0;
        settled = h.1;
        released_in_all = h.2;
        opens = stood_opens w s b t spot g new opened.items root tree h.0 h.3;
        open_after = omega (arith, h.4, after, had);
      }
  answered Stale h =
      (ap (has (numbered spot.index)) (sym tree) ∙ has_over (λ (p : Place B). p.spot) (numbered spot.index) t ∙ h.0, unchanged h.1)

  refused : Moved w (w.kin b) s.limit spot g (before w s s.grown t) new → Refused w spot g s (standing w s new)
  refused (inl same) = inl (unchanged same)
  refused (inr st) = inr (stood_grew w s b t spot g new root tree st)

  pub answers : {N E : Type 0} (r : Result (Grown B N) E) (old : Standing B I K) → s ≡ old → IfOk r (Replies w (w.kin b) s.limit spot g (before w s s.grown t) new)
      → IfOk r (Answers w spot g old (standing w s new))
  answers r old same h = subst (λ (x : Standing B I K). IfOk r (Answers w spot g x (standing w s new))) same (IfOk-weaker r _ _ (λ a k. answered a k) h)

  pub refuses : {A E : Type 0} (r : Result A E) (old : Standing B I K) → s ≡ old → Moved w (w.kin b) s.limit spot g (before w s s.grown t) new
      → OnErr r (Refused w spot g old (standing w s new))
  refuses (Ok a) old same h = tt
  refuses (Err e) old same h = subst (λ (x : Standing B I K). Refused w spot g x (standing w s new)) same (refused h)

pub when : {P : Type 0} (Q : Type 0) (b : Bool) → b ≡ true → MatchBool b P Q → P
when Q true e h = h
when Q false e h = absurd (cc e)
