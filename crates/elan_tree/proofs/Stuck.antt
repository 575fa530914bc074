-- No step but growing applies at a normal tree.
use Rattle.std.specs.Prelude.{◌≡◌, Bool, true, false}
use Rattle.std.proofs.Common.{sym, ◌∙◌}
use Rattle.elan_tree.specs.Tree.{Tree, Trees, none, more, Arms}
use Rattle.elan_tree.specs.Listing.{sure}
use Rattle.elan_tree.specs.Moves.{Cuts, cut_here, cut_later, Move, grow, single, drop_front, no_arms, over_empty, commit, cuts, push, resume, in_cat, in_first, in_then, Moves, splice, here, later, ArmMoves, arm_here, arm_later}
use Rattle.elan_tree.specs.Normal.{SureLast, Normal, Flats, NormalArms}
use Rattle.elan_tree.proofs.Lists.{no}

clash : (b : Bool) → b ≡ true → b ≡ false → ⊥
clash b p q = no (sym q ∙ p)

cuts_stuck : {I O K : Type 0} {ts us : Trees I O K} → Cuts ts us → SureLast ts → ⊥
cuts_stuck (cut_here {t = t} {u = u} {ts = ts} s) n = clash (sure t) s n.0
cuts_stuck (cut_later {t = t} {ts = none} s c) n = elim c [ ]
cuts_stuck (cut_later {t = t} {ts = more u ts} s c) n = cuts_stuck c n.1

module _ {I O K : Type 0} (Grows : O → Tree I O K → Type 0) (Resumes : K → I → Tree I O K → Type 0) (no_growth : (o : O) (t : Tree I O K) → Grows o t → ⊥) where
  mutual
    pub stuck : {t u : Tree I O K} → Move Grows Resumes t u → Normal t → ⊥
    stuck (grow {o = o} {t = t} g) n = no_growth o t g
    stuck single n = n.0
    stuck drop_front n = n.0.0
    stuck no_arms n = n.0
    stuck over_empty n = n.1
    stuck (commit {t = t} s) n = clash (sure t) s n.0.1
    stuck (cuts c) n = cuts_stuck c n.0
    stuck push n = n.0
    stuck (resume r) n = n.0
    stuck (in_cat m) n = all_stuck m n.1
    stuck (in_first m) n = arms_stuck m n.1
    stuck (in_then m) n = stuck m n.2

    pub all_stuck : {ts us : Trees I O K} → Moves Grows Resumes ts us → Flats ts → ⊥
    all_stuck splice n = n.0
    all_stuck (here m) n = stuck m n.1
    all_stuck (later m) n = all_stuck m n.2

    pub arms_stuck : {xs ys : Arms I O K} → ArmMoves Grows Resumes xs ys → NormalArms xs → ⊥
    arms_stuck (arm_here m) n = stuck m n.0
    arms_stuck (arm_later m) n = arms_stuck m n.1
