-- In a sound signature each operator has a piece, and no more injections follow one another than there are sorts.
use Rattle.std.proofs.Common.{◌≡◌, refl, sym, ap, subst, ◌∙◌, ℕ, zero, suc, ◌^◌, ◌<◌, ◌≤◌, Bool, true, false, not, ◌&&◌, ◌==◌, nat_lt, cond, None, Some, List, [], ◌∷◌, ◌++◌, ◌⊎◌, inl, inr, slice_get, length, arith}
use Rattle.std.specs.List.{filter, flat_map, list_any, list_all}
use Rattle.elan_terms.specs.declared.tree.OpId.{OpId}
use Rattle.elan_terms.specs.declared.tree.SortId.{SortId}
use Rattle.elan_terms.specs.declared.tree.Pattern.{Pattern}
use Rattle.elan_program.specs.declared.signature.Piece.{Piece}
use Rattle.elan_program.specs.declared.signature.Piece.TheVariants.{Hole, Word}
use Rattle.elan_program.specs.declared.signature.Operator.{Operator}
use Rattle.elan_program.specs.declared.signature.Signature.{Signature}
use Rattle.elan_program.specs.Soundness.{has_sort_id, leads, injections, led_on, chains, has_no_cycle, is_some_list, is_sound, is_sound_operator, is_spelling_of, most, int_fits, truth_fits}
use Rattle.elan_reading.specs.Edge.{is_injection, is_one_hole}
use Rattle.elan_terms.specs.Match.{is_sort}
use Rattle.elan_entries.specs.Pieces.{is_injection_from}
use Rattle.elan_entries.proofs.SameLemmas.{both_true, nat_same}
use Rattle.elan_chart.proofs.ChartFull.{Path, none, more, or_left, or_right}

no_true : false ≡ true → ⊥
no_true f = cc

abbrev Among : List (ℕ × ℕ) → ℕ × ℕ → Type 0
Among [] p = ⊥
Among (q ∷ qs) p = (q ≡ p) ⊎ Among qs p

leads-is : (ps : List Piece) (ss : List SortId) (s r : SortId) → is_one_hole ps ≡ true → (length ss == 1) ≡ true
    → is_sort (slice_get ss 0) s ≡ true → leads ps ss r ≡ (s.0, r.0) ∷ []
leads-is [] ss s r a c d = absurd (no_true a)
leads-is (Word name ∷ []) ss s r a c d = absurd (no_true a)
leads-is (p ∷ q ∷ ps) ss s r a c d = absurd (no_true a)
leads-is (Hole ∷ []) [] s r a c d = absurd (no_true d)
leads-is (Hole ∷ []) (x ∷ []) s r a c d = ap (λ n. (n, r.0) ∷ []) (nat_same x.0 s.0 d)
leads-is (Hole ∷ []) (x ∷ y ∷ zs) s r a c d = absurd (let e : length (x ∷ y ∷ zs) ≡ 1 = nat_same _ 1 c in omega arith)

from-leads : (o : Operator) (s : SortId) → is_injection_from o s ≡ true → leads o.pieces o.args o.sort ≡ (s.0, o.sort.0) ∷ []
from-leads o s e =
    let two : _ = both_true (is_injection o) _ e in let arg : _ = both_true (length o.args == 1) _ two.1 in
    leads-is o.pieces o.args s o.sort two.0 arg.0 arg.1

among-left : (p : ℕ × ℕ) (xs ys : List (ℕ × ℕ)) → Among xs p → Among (xs ++ ys) p
among-left p [] ys h = absurd h
among-left p (x ∷ xs) ys (inl h) = inl h
among-left p (x ∷ xs) ys (inr h) = inr (among-left p xs ys h)

among-right : (p : ℕ × ℕ) (xs ys : List (ℕ × ℕ)) → Among ys p → Among (xs ++ ys) p
among-right p [] ys h = h
among-right p (x ∷ xs) ys h = inr (among-right p xs ys h)

among-flat : (o : Operator) (p : ℕ × ℕ) (n : ℕ) (os : List Operator) → slice_get os n ≡ Some o → leads o.pieces o.args o.sort ≡ p ∷ []
    → Among (flat_map (λ o. leads o.pieces o.args o.sort) os) p
among-flat o p n [] e l = absurd (no e)
  where
    no : None ≡ Some o → ⊥
    no f = cc
among-flat o p zero (d ∷ os) e l =
    among-left p (leads d.pieces d.args d.sort) (flat_map (λ o. leads o.pieces o.args o.sort) os)
    (let f : d ≡ o = cc in subst (λ x. Among (leads x.pieces x.args x.sort) p) (sym f) (subst (λ xs. Among xs p) (sym l) (inl refl)))
among-flat o p (suc n) (d ∷ os) e l =
    among-right p (leads d.pieces d.args d.sort) (flat_map (λ o. leads o.pieces o.args o.sort) os) (among-flat o p n os e l)

filter-among : (test : ℕ × ℕ → Bool) (p : ℕ × ℕ) → test p ≡ true → (xs : List (ℕ × ℕ)) → Among xs p → Among (filter test xs) p
filter-among test p passes [] h = absurd h
filter-among test p passes (x ∷ xs) (inl h) =
    subst (λ b. Among (cond b (x ∷ filter test xs) (filter test xs)) p) (sym (ap test h ∙ passes)) (inl h)
filter-among test p passes (x ∷ xs) (inr h) = by (filter-among test p passes xs h) (test x)
  where
    by : Among (filter test xs) p → (b : Bool) → Among (cond b (x ∷ filter test xs) (filter test xs)) p
    by later true = inr later
    by later false = later

any-among : (test : ℕ × ℕ → Bool) (q : ℕ × ℕ) → test q ≡ true → (xs : List (ℕ × ℕ)) → Among xs q → list_any test xs ≡ true
any-among test q passes [] h = absurd h
any-among test q passes (x ∷ xs) (inl h) = or_left (test x) (list_any test xs) (ap test h ∙ passes)
any-among test q passes (x ∷ xs) (inr h) = or_right (test x) (list_any test xs) (any-among test q passes xs h)

among-led : (others all : List (ℕ × ℕ)) (p q : ℕ × ℕ) → Among all p → Among others q → (q.0 == p.1) ≡ true → Among (led_on others all) p
unfolding led_on
among-led others all p q h k e = filter-among (λ i. list_any (λ j. j.0 == i.1) others) p (any-among (λ j. j.0 == p.1) q e others k) all h

some-among : (xs : List (ℕ × ℕ)) (p : ℕ × ℕ) → Among xs p → is_some_list xs ≡ true
some-among [] p h = absurd h
some-among (x ∷ xs) p h = refl

nat_self : (n : ℕ) → (n == n) ≡ true
nat_self n = grind arith

module _ (g : Signature) where
  among-all : (op : OpId) (o : Operator) (s : SortId) → slice_get g.operators op.0 ≡ Some o → is_injection_from o s ≡ true → Among (injections g) (s.0, o.sort.0)
  unfolding injections
  among-all op o s at from = among-flat o (s.0, o.sort.0) op.0 g.operators at (from-leads o s from)

  -- the first injection of a path begins a chain
  chain-in : (n : ℕ) (s r : SortId) (injected last : Bool) (t u : Pattern) → Path g n s injected t r last u → (m : ℕ) → suc m ≤ n
      → (k : ℕ) × Among (chains (injections g) m) (s.0, k)
  chain-in _ _ _ _ _ _ _ (none s injected t) m le = absurd (omega arith)
  chain-in _ _ _ _ _ _ _ (more n op o s r injected last t u at from path) zero le = (o.sort.0, among-all op o s at from)
  chain-in _ _ _ _ _ _ _ (more n op o s r injected last t u at from path) (suc m) le =
      let next : _ = chain-in n o.sort r true last _ u path m (omega arith) in
      (o.sort.0, among-led (chains (injections g) m) (injections g) (s.0, o.sort.0) (o.sort.0, next.0) (among-all op o s at from) next.1 (nat_self o.sort.0))

  pub bounded : has_no_cycle g ≡ true → (n : ℕ) (s r : SortId) (injected last : Bool) (t u : Pattern) → Path g n s injected t r last u → n ≤ length g.sorts
  unfolding has_no_cycle
  bounded none_such n s r injected last t u path = by (nat_lt (length g.sorts) n) refl
    where
      clash : (b : Bool) → b ≡ true → not b ≡ true → ⊥
      clash true e f = no_true f
      clash false e f = no_true e

      by : (b : Bool) → nat_lt (length g.sorts) n ≡ b → n ≤ length g.sorts
      by true e =
          let in_it : _ = chain-in n s r injected last t u path (length g.sorts) (grind arith) in
          absurd (clash (is_some_list (chains (injections g) (length g.sorts))) (some-among _ _ in_it.1) none_such)
      by false e = grind arith

all-get : {X : Type 0} (p : X → Bool) (xs : List X) (n : ℕ) (x : X) → list_all p xs ≡ true → slice_get xs n ≡ Some x → p x ≡ true
all-get p [] n x h e = absurd (no e)
  where
    no : None ≡ Some x → ⊥
    no f = cc
all-get p (y ∷ ys) zero x h e = let f : y ≡ x = cc in ap p (sym f) ∙ (both_true (p y) (list_all p ys) h).0
all-get p (y ∷ ys) (suc n) x h e = all-get p ys n x (both_true (p y) (list_all p ys) h).1 e

some-length : {X : Type 0} (xs : List X) → is_some_list xs ≡ true → 0 < length xs
some-length [] e = absurd (no_true e)
some-length (x ∷ xs) e = omega arith

operator-spelled : (g : Signature) (o : Operator) → is_sound_operator g o ≡ true → 0 < length o.pieces
unfolding is_sound_operator is_spelling_of
operator-spelled g o e = some-length o.pieces (both_true (is_some_list o.pieces) _ (both_true _ _ (both_true _ _ e).0).0).0

operator_at : (g : Signature) → is_sound g ≡ true → (op : OpId) (o : Operator) → slice_get g.operators op.0 ≡ Some o → is_sound_operator g o ≡ true
unfolding is_sound
operator_at g e op o at =
    all-get (is_sound_operator g) g.operators op.0 o (both_true (list_all (is_sound_operator g) g.operators) _ (both_true _ _ e).1).0 at

args_there : (g : Signature) (o : Operator) → is_sound_operator g o ≡ true → list_all (has_sort_id g) o.args ≡ true
unfolding is_sound_operator
args_there g o e = (both_true (list_all (has_sort_id g) o.args) (has_sort_id g o.sort) (both_true _ _ (both_true _ _ e).0).1).0

-- the sort of an argument is one of the signature's
pub arg_there : (g : Signature) → is_sound g ≡ true → (op : OpId) (o : Operator) → slice_get g.operators op.0 ≡ Some o → (n : ℕ) (s : SortId)
    → slice_get o.args n ≡ Some s → s.0 < length g.sorts
arg_there g sound op o at n s is = below s.0 (length g.sorts) (all-get (has_sort_id g) o.args n s (args_there g o (operator_at g sound op o at)) is)
  where
    below : (m n : ℕ) → nat_lt m n ≡ true → m < n
    below m n e = grind arith

pub spelled : (g : Signature) → is_sound g ≡ true → (op : OpId) (o : Operator) → slice_get g.operators op.0 ≡ Some o → 0 < length o.pieces
spelled g e op o at = operator-spelled g o (operator_at g e op o at)

pub no_cycle : (g : Signature) → is_sound g ≡ true → has_no_cycle g ≡ true
unfolding is_sound
no_cycle g e =
    (both_true (truth_fits g g.truth) (has_no_cycle g)
    (both_true (int_fits g g.int) (truth_fits g g.truth && has_no_cycle g)
    (both_true (list_all (is_sound_operator g) g.operators) (int_fits g g.int && (truth_fits g g.truth && has_no_cycle g))
    (both_true (nat_lt (length g.sorts) most && nat_lt (length g.operators) most)
    (list_all (is_sound_operator g) g.operators && (int_fits g g.int && (truth_fits g g.truth && has_no_cycle g))) e).1).1).1).1

pub few : (g : Signature) → is_sound g ≡ true → length g.operators < 2 ^ 32
unfolding is_sound
few g e =
    let t : nat_lt (length g.operators) most ≡ true =
    (both_true (nat_lt (length g.sorts) most) (nat_lt (length g.operators) most)
    (both_true (nat_lt (length g.sorts) most && nat_lt (length g.operators) most)
    (list_all (is_sound_operator g) g.operators && (int_fits g g.int && (truth_fits g g.truth && has_no_cycle g))) e).0).1 in
    below_most (length g.operators) t
  where
    below_most : (n : ℕ) → nat_lt n most ≡ true → n < 2 ^ 32
    below_most n e = grind arith
