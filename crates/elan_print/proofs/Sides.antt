-- Nested nodes are written from left to right as the nested term is.
use Rattle.std.proofs.Common.{◌≡◌, refl, sym, ap, ◌∙◌, ⊎_elim, ℕ, zero, suc, Bool, true, false, cond, ◌||◌, ℤ, Option, Some, None, List, [], ◌∷◌, ◌++◌, append_assoc, append-nil, length, slice_get, map, flat_map, arith}
use Rattle.elan_terms.specs.declared.tree.OpId.{OpId}
use Rattle.elan_terms.specs.declared.tree.Term.{Term}
use Rattle.elan_terms.specs.Trees.{int_term, app_term}
use Rattle.elan_program.specs.declared.signature.Piece.{Piece}
use Rattle.elan_program.specs.declared.signature.Piece.TheVariants.{Hole, Word}
use Rattle.elan_program.specs.declared.signature.Assoc.{Assoc}
use Rattle.elan_program.specs.declared.signature.Assoc.TheVariants as assoc
use Rattle.elan_program.specs.declared.signature.Operator.{Operator}
use Rattle.elan_program.specs.declared.signature.Signature.{Signature}
use Rattle.elan_program.specs.Soundness.{is_sound, holes}
use Rattle.elan_laws.proofs.CanonicalLaws.{true_or_false}
use Rattle.elan_reading.specs.declared.edge.Position.TheVariants.{First, Later}
use Rattle.elan_reading.specs.declared.edge.Side.{Side}
use Rattle.elan_reading.specs.declared.edge.Side.TheVariants.{Left, Inner}
use Rattle.elan_reading.specs.Edge.{is_one_hole, counted, counted_as, side_of, own_tie, tie_of, fits}
use Rattle.elan_reading.specs.Readings.{passed}
use Rattle.elan_reading.proofs.EdgeLemmas.{own_left, own_right, own_inner}
use Rattle.elan_reading.proofs.Sound.{SoundOperator, sound_at, ac_sorts}
use Rattle.elan_print.specs.Tokens.{Printed, spelled, opening, closing, integer, written, space_unless, is_tight_before, is_tight_after, bytes_of}
use Rattle.elan_print.specs.Terms.{to_left, to_right, to_side, nested_by, nested, Shown, argument, filled, inside, applied, shown, shown_of}
use Rattle.elan_print.specs.Sides.{Sheet, put, put_all, before, behind, first_side, second_side, between, after, first_of, second_of, closed, repeated, left_tokens, opened, right_opened, right_tokens, side_tokens, applied_tokens}
use Rattle.elan_print.proofs.Nesting.{nested-app, nested-int}
use Rattle.elan_print.proofs.Reading.{shown-app, shown-int}

-- ---- sheets

pub put_all-append : (s : Sheet) (xs ys : List Printed) → put_all s (xs ++ ys) ≡ put_all (put_all s xs) ys
put_all-append s [] ys = refl
put_all-append s (x ∷ xs) ys = put_all-append (put s x) xs ys

abbrev text_in : Sheet → List ℕ
text_in s = s.text

-- what is put behind a text is the text of the tokens
pub put_all-text : (s : Sheet) (ps : List Printed) → text_in (put_all s ps) ≡ s.text ++ written s.tight ps
put_all-text s [] = sym (append-nil s.text)
put_all-text s (p ∷ ps) =
    put_all-text (put s p) ps
    ∙ append_assoc s.text (space_unless (s.tight || is_tight_before p) ++ bytes_of p) (written (is_tight_after p) ps)
    ∙ ap (λ l. s.text ++ l) (append_assoc (space_unless (s.tight || is_tight_before p)) (bytes_of p) (written (is_tight_after p) ps))

-- ---- a spelling of two holes

-- a hole that is not the first piece is an inner one where another hole comes after it
inner_hole : (ps : List Piece) (n : ℕ) → holes ps ≡ suc n → side_of Later ps ≡ Inner
inner_hole [] n e = absurd (omega (arith, e))
inner_hole (p ∷ ps) n e = refl

words_only : (o : Operator) (ps : List Piece) (below : List Shown) → holes ps ≡ 0 → filled o Later ps below ≡ before ps
words_only o [] below e = refl
words_only o (Hole ∷ ps) below e = absurd (omega (arith, e))
words_only o (Word name ∷ ps) below e = ap (λ l. spelled name.bytes ∷ l) (words_only o ps below e)

one_hole : (o : Operator) (ps : List Piece) (b : Shown) → holes ps ≡ 1 → filled o Later ps (b ∷ []) ≡ before ps ++ (argument o (side_of Later (behind ps)) b ++ before (behind ps))
one_hole o [] b e = absurd (omega (arith, e))
one_hole o (Hole ∷ ps) b e = ap (λ l. argument o (side_of Later ps) b ++ l) (words_only o ps [] (omega (arith, e)))
one_hole o (Word name ∷ ps) b e = ap (λ l. spelled name.bytes ∷ l) (one_hole o ps b e)

-- after a word, no hole is the first piece
two_later : (o : Operator) (ps : List Piece) (a b : Shown) → holes ps ≡ 2
    → filled o Later ps (a ∷ b ∷ []) ≡ before ps ++ (argument o Inner a ++ (before (behind ps) ++ (argument o (second_side ps) b ++ before (behind (behind ps)))))
two_later o [] a b e = absurd (omega (arith, e))
two_later o (Hole ∷ ps) a b e =
    ap (λ l. argument o l a ++ filled o Later ps (b ∷ [])) (inner_hole ps 0 (omega (arith, e))) ∙ ap (λ l. argument o Inner a ++ l) (one_hole o ps b (omega (arith, e)))
two_later o (Word name ∷ ps) a b e = ap (λ l. spelled name.bytes ∷ l) (two_later o ps a b e)

two_holes : (o : Operator) (ps : List Piece) (a b : Shown) → holes ps ≡ 2
    → filled o First ps (a ∷ b ∷ []) ≡ before ps ++ (argument o (first_side ps) a ++ (before (behind ps) ++ (argument o (second_side ps) b ++ before (behind (behind ps)))))
two_holes o [] a b e = absurd (omega (arith, e))
two_holes o (Hole ∷ ps) a b e = ap (λ l. argument o Left a ++ l) (one_hole o ps b (omega (arith, e)))
two_holes o (Word name ∷ ps) a b e = ap (λ l. spelled name.bytes ∷ l) (two_later o ps a b e)

many_holes : (ps : List Piece) → holes ps ≡ 2 → is_one_hole ps ≡ false
many_holes [] e = refl
many_holes (Hole ∷ []) e = absurd (omega (arith, e))
many_holes (Word name ∷ []) e = refl
many_holes (p ∷ q ∷ ps) e = refl

-- ---- an operator stands in itself

first_fits : (o : Operator) (ps : List Piece) → counted o ≡ assoc.Left → fits o (first_side ps) (own_tie o) ≡ true
first_fits o [] e = own_inner o
first_fits o (Hole ∷ ps) e = own_left o e
first_fits o (Word name ∷ ps) e = own_inner o

last_fits : (o : Operator) (ps : List Piece) → counted o ≡ assoc.Right → fits o (side_of Later ps) (own_tie o) ≡ true
last_fits o [] e = own_right o e
last_fits o (p ∷ ps) e = own_inner o

-- ---- nested nodes

-- a node of two
abbrev two : Operator → Shown → Shown → Shown
two o a b = record { tokens = filled o First o.pieces (a ∷ b ∷ []); first = Some o }

abbrev tokens_in : Shown → List Printed
tokens_in a = a.tokens

abbrev left_shown : Operator → Shown → List Shown → Shown
left_shown o a [] = a
left_shown o a (b ∷ below) = left_shown o (two o a b) below

abbrev right_shown : Operator → Shown → List Shown → Shown
right_shown o a [] = a
right_shown o a (b ∷ below) = two o a (right_shown o b below)

abbrev side_shown : Assoc → Operator → Shown → List Shown → Shown
side_shown assoc.Right o a below = right_shown o a below
side_shown assoc.Left o a below = left_shown o a below
side_shown assoc.No o a below = left_shown o a below

-- an argument that the rule lets stand
fit_argument : (o : Operator) (side : Side) (a : Shown) → fits o side (tie_of a.first) ≡ true → argument o side a ≡ a.tokens
fit_argument o side a e = ap (λ b. cond b a.tokens (opening ∷ a.tokens ++ closing ∷ [])) e

module _ (o : Operator) (holes_two : holes o.pieces ≡ 2) where
  two_tokens : (a b : Shown) → tokens_in (two o a b) ≡ before o.pieces ++ (first_of o a ++ closed o b)
  two_tokens a b = two_holes o o.pieces a b holes_two

  turn : (ps : List Printed) (n : ℕ) (l : List Printed) → repeated ps n ++ (ps ++ l) ≡ ps ++ (repeated ps n ++ l)
  turn ps zero l = refl
  turn ps (suc n) l = append_assoc ps (repeated ps n) (ps ++ l) ∙ ap (λ m. ps ++ m) (turn ps n l) ∙ ap (λ m. ps ++ m) (sym (append_assoc ps (repeated ps n) l))

  turn_end : (ps : List Printed) (n : ℕ) → repeated ps n ++ ps ≡ ps ++ repeated ps n
  turn_end ps n = ap (λ l. repeated ps n ++ l) (sym (append-nil ps)) ∙ turn ps n [] ∙ ap (λ l. ps ++ l) (append-nil (repeated ps n))

  module _ (left : counted o ≡ assoc.Left) where
    first_two : (a b : Shown) → first_of o (two o a b) ≡ before o.pieces ++ (first_of o a ++ closed o b)
    first_two a b = fit_argument o (first_side o.pieces) (two o a b) (first_fits o o.pieces left) ∙ two_tokens a b

    left_is : (a b : Shown) (below : List Shown) → tokens_in (left_shown o a (b ∷ below)) ≡ left_tokens o a (b ∷ below)
    left_is a b [] = two_tokens a b ∙ ap (λ l. l ++ (first_of o a ++ closed o b)) (sym (append-nil (before o.pieces))) ∙ ap (λ l. (before o.pieces ++ []) ++ (first_of o a ++ l)) (sym (append-nil (closed o b)))
    left_is a b (c ∷ below) =
        let rest : List Printed = flat_map (closed o) (c ∷ below) in
        left_is (two o a b) c below
        ∙ ap (λ l. repeated (before o.pieces) (length (c ∷ below)) ++ (l ++ rest)) (first_two a b)
        ∙ ap (λ l. repeated (before o.pieces) (length (c ∷ below)) ++ l) (append_assoc (before o.pieces) (first_of o a ++ closed o b) rest)
        ∙ turn (before o.pieces) (length (c ∷ below)) ((first_of o a ++ closed o b) ++ rest)
        ∙ ap (λ l. before o.pieces ++ (repeated (before o.pieces) (length (c ∷ below)) ++ l)) (append_assoc (first_of o a) (closed o b) rest)
        ∙ sym (append_assoc (before o.pieces) (repeated (before o.pieces) (length (c ∷ below))) (first_of o a ++ (closed o b ++ rest)))

  module _ (right : counted o ≡ assoc.Right) where
    second_two : (a b : Shown) → second_of o (two o a b) ≡ tokens_in (two o a b)
    second_two a b = fit_argument o (second_side o.pieces) (two o a b) (last_fits o (behind (behind o.pieces)) right)

    right_by : (a b : Shown) (below : List Shown) → second_of o (right_shown o b below) ≡ right_opened o b below ++ repeated (after o) (length below) → tokens_in (right_shown o a (b ∷ below)) ≡ right_tokens o a (b ∷ below)
    right_by a b below e =
        let inner : List Printed = right_opened o b below in
        two_tokens a (right_shown o b below)
        ∙ ap (λ l. before o.pieces ++ (first_of o a ++ (between o ++ (l ++ after o)))) e
        ∙ ap (λ l. before o.pieces ++ (first_of o a ++ (between o ++ l))) (append_assoc inner (repeated (after o) (length below)) (after o) ∙ ap (λ l. inner ++ l) (turn_end (after o) (length below)))
        ∙ ap (λ l. before o.pieces ++ l) (sym (append_assoc (first_of o a) (between o) (inner ++ (after o ++ repeated (after o) (length below)))))
        ∙ sym (append_assoc (before o.pieces) (first_of o a ++ between o) (inner ++ (after o ++ repeated (after o) (length below))))
        ∙ sym (append_assoc (opened o a) inner (after o ++ repeated (after o) (length below)))

    second_is : (b : Shown) (below : List Shown) → second_of o (right_shown o b below) ≡ right_opened o b below ++ repeated (after o) (length below)
    second_is b [] = sym (append-nil (second_of o b))
    second_is b (c ∷ below) = second_two b (right_shown o c below) ∙ right_by b c below (second_is c below)

    right_is : (a b : Shown) (below : List Shown) → tokens_in (right_shown o a (b ∷ below)) ≡ right_tokens o a (b ∷ below)
    right_is a b below = right_by a b below (second_is b below)

  side_is : (x : Assoc) → counted o ≡ x → (x ≡ assoc.No → ⊥) → (a b : Shown) (below : List Shown) → tokens_in (side_shown x o a (b ∷ below)) ≡ side_tokens x o a (b ∷ below)
  side_is assoc.No e n a b below = absurd (n refl)
  side_is assoc.Left e n a b below = left_is e a b below
  side_is assoc.Right e n a b below = right_is e a b below

-- ---- terms

counted_some : (o : Operator) → o.ac ≡ true → counted o ≡ assoc.No → ⊥
counted_some o ac e = by o.ac o.assoc ac e
  where
    by : (c : Bool) (x : Assoc) → c ≡ true → counted_as c x ≡ assoc.No → ⊥
    by true assoc.No e f = cc
    by false assoc.No e f = cc
    by c assoc.Left e f = cc
    by c assoc.Right e f = cc

module _ (g : Signature) (op : OpId) (o : Operator) (at : slice_get g.operators op.0 ≡ Some o) (several : is_one_hole o.pieces ≡ false) where
  shown-two : (t u : Term) → shown g (app_term op (t ∷ u ∷ [])) ≡ two o (shown g t) (shown g u)
  shown-two t u =
      let below : List Shown = shown g t ∷ shown g u ∷ [] in
      shown-app g op (t ∷ u ∷ []) ∙ ap (λ x. record { tokens = applied x below; first = passed g x (map (λ a. a.first) below) }) at
      ∙ ap (λ i. let a = shown g t in record { tokens = cond i (inside below) (filled o First o.pieces below); first = cond i a.first (Some o) }) several

  shown-left : (t : Term) (us : List Term) → shown g (to_left op t us) ≡ left_shown o (shown g t) (map (shown g) us)
  shown-left t [] = refl
  shown-left t (u ∷ us) = shown-left (app_term op (t ∷ u ∷ [])) us ∙ ap (λ a. left_shown o a (map (shown g) us)) (shown-two t u)

  shown-right : (t : Term) (us : List Term) → shown g (to_right op t us) ≡ right_shown o (shown g t) (map (shown g) us)
  shown-right t [] = refl
  shown-right t (u ∷ us) = shown-two t (to_right op u us) ∙ ap (two o (shown g t)) (shown-right u us)

  shown-side : (x : Assoc) (t : Term) (us : List Term) → shown g (to_side x op t us) ≡ side_shown x o (shown g t) (map (shown g) us)
  shown-side assoc.No t us = shown-left t us
  shown-side assoc.Left t us = shown-left t us
  shown-side assoc.Right t us = shown-right t us

-- ---- whole terms

abbrev first_in : Shown → Option Operator
first_in a = a.first

shown_of-is : (g : Signature) (t : Term) → shown_of g t ≡ shown g (nested g t)
unfolding shown_of
shown_of-is g t = refl

each_shown : (g : Signature) (ts : List Term) → map (shown g) (map (nested g) ts) ≡ map (shown_of g) ts
each_shown g [] = refl
each_shown g (t ∷ ts) = ap (λ a. a ∷ map (shown g) (map (nested g) ts)) (sym (shown_of-is g t)) ∙ ap (λ l. shown_of g t ∷ l) (each_shown g ts)

-- what the code writes, and the first node
abbrev pub app_shown : Signature → Operator → List Shown → Shown
app_shown g o below = record { tokens = applied_tokens o below; first = passed g (Some o) (map (λ a. a.first) below) }

module _ (g : Signature) (sound : is_sound g ≡ true) (op : OpId) (o : Operator) (at : slice_get g.operators op.0 ≡ Some o) where
  plain_shown : (ts : List Term) → shown g (app_term op ts) ≡ record { tokens = applied (Some o) (map (shown g) ts); first = passed g (Some o) (map (λ a. a.first) (map (shown g) ts)) }
  plain_shown ts = shown-app g op ts ∙ ap (λ x. record { tokens = applied x (map (shown g) ts); first = passed g x (map (λ a. a.first) (map (shown g) ts)) }) at

  two_pieces : o.ac ≡ true → holes o.pieces ≡ 2
  two_pieces ac = let h : SoundOperator o = sound_at g sound op.0 o at in h.as_many ∙ ap (λ l. length l) (ac_sorts o h ac)

  head_left : (t : Term) (us : List Term) → is_one_hole o.pieces ≡ false → first_in (shown g t) ≡ Some o → first_in (shown g (to_left op t us)) ≡ Some o
  head_left t [] several e = e
  head_left t (u ∷ us) several e = head_left (app_term op (t ∷ u ∷ [])) us several (ap first_in (shown-two g op o at several t u))

  head_side : (x : Assoc) (t u : Term) (us : List Term) → is_one_hole o.pieces ≡ false → first_in (shown g (to_side x op t (u ∷ us))) ≡ Some o
  head_side assoc.No t u us several = head_left (app_term op (t ∷ u ∷ [])) us several (ap first_in (shown-two g op o at several t u))
  head_side assoc.Left t u us several = head_left (app_term op (t ∷ u ∷ [])) us several (ap first_in (shown-two g op o at several t u))
  head_side assoc.Right t u us several = ap first_in (shown-two g op o at several t (to_right op u us))

  ac_shown : (t u : Term) (us : List Term) → o.ac ≡ true → shown g (nested_by (Some o) op (t ∷ u ∷ us)) ≡ app_shown g o (map (shown g) (t ∷ u ∷ us))
  ac_shown t u us ac =
      let holes_two : holes o.pieces ≡ 2 = two_pieces ac in
      let several : is_one_hole o.pieces ≡ false = many_holes o.pieces holes_two in
      let x : Assoc = counted o in
      let below : List Shown = map (shown g) (t ∷ u ∷ us) in
      let side : Term = to_side x op t (u ∷ us) in
      let tokens : tokens_in (shown g side) ≡ side_tokens x o (shown g t) (map (shown g) (u ∷ us))
      = ap tokens_in (shown-side g op o at several x t (u ∷ us)) ∙ side_is o holes_two x refl (counted_some o ac) (shown g t) (shown g u) (map (shown g) us) in
      let all : tokens_in (shown g side) ≡ applied_tokens o below = tokens ∙ sym (ap (λ b. cond b (side_tokens x o (shown g t) (map (shown g) (u ∷ us))) (applied (Some o) below)) ac) in
      let first : first_in (shown g side) ≡ passed g (Some o) (map (λ a. a.first) below)
      = head_side x t u us several ∙ sym (ap (λ i. cond i (first_in (shown g t)) (Some o)) several) in
      ap (λ b. shown g (cond b side (app_term op (t ∷ u ∷ us)))) ac
      ∙ ap (λ l. record { tokens = l; first = first_in (shown g side) }) all ∙ ap (λ f. record { tokens = applied_tokens o below; first = f }) first

  by_shown : (ts : List Term) → shown g (nested_by (Some o) op ts) ≡ app_shown g o (map (shown g) ts)
  by_shown [] = plain_shown []
  by_shown (t ∷ []) = plain_shown (t ∷ [])
  by_shown (t ∷ u ∷ us) = ⊎_elim
      (λ ac. ac_shown t u us ac)
      (λ plain. ap (λ b. shown g (cond b (to_side (counted o) op t (u ∷ us)) (app_term op (t ∷ u ∷ us)))) plain ∙ plain_shown (t ∷ u ∷ us)
      ∙ sym (ap (λ b. let below = map (shown g) (t ∷ u ∷ us) in record { tokens = cond b (side_tokens (counted o) o (shown g t) (map (shown g) (u ∷ us))) (applied (Some o) below); first = passed g (Some o) (map (λ a. a.first) below) }) plain))
      (true_or_false o.ac)

  -- an application is written as the code writes it
  pub shown_of-app : (ts : List Term) → shown_of g (app_term op ts) ≡ app_shown g o (map (shown_of g) ts)
  shown_of-app ts =
      shown_of-is g (app_term op ts) ∙ ap (shown g) (nested-app g op ts ∙ ap (λ x. nested_by x op (map (nested g) ts)) at)
      ∙ by_shown (map (nested g) ts) ∙ ap (app_shown g o) (each_shown g ts)

pub shown_of-none : (g : Signature) (op : OpId) (ts : List Term) → slice_get g.operators op.0 ≡ None → shown_of g (app_term op ts) ≡ record { tokens = []; first = None }
shown_of-none g op ts e =
    shown_of-is g (app_term op ts) ∙ ap (shown g) (nested-app g op ts ∙ ap (λ x. nested_by x op (map (nested g) ts)) e)
    ∙ shown-app g op (map (nested g) ts) ∙ ap (λ x. record { tokens = applied x (map (shown g) (map (nested g) ts)); first = passed g x (map (λ a. a.first) (map (shown g) (map (nested g) ts))) }) e

pub shown_of-int : (g : Signature) (z : ℤ) → shown_of g (int_term z) ≡ record { tokens = integer z; first = None }
shown_of-int g z = shown_of-is g (int_term z) ∙ ap (shown g) (nested-int g z) ∙ shown-int g z
