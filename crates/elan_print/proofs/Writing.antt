-- What the code that writes terms rests on.
use Rattle.std.proofs.Common.{◌≡◌, refl, sym, ap, ◌∙◌, Bool, true, false, cond, ℤ, Option, Some, None, List, [], ◌∷◌, ◌++◌, append_assoc, slice_get, map, ℕ, zero, suc, ◌+◌, ◌<◌, length, drop, get_or, add-one, drop-cons, flat_map, take, ◌≤◌, ◌-◌, arith}
use Rattle.std.proofs.lemmas.List.{at_drop_all, length-map, take_all}
use Rattle.elan_program.specs.declared.signature.Piece.{Piece}
use Rattle.elan_program.specs.declared.signature.Piece.TheVariants.{Hole}
use Rattle.elan_terms.specs.declared.tree.OpId.{OpId}
use Rattle.elan_terms.specs.declared.tree.Term.{Term}
use Rattle.elan_terms.specs.declared.tree.TermNode as term
use Rattle.elan_program.specs.declared.signature.Operator.{Operator}
use Rattle.elan_program.specs.declared.signature.Signature.{Signature}
use Rattle.elan_program.specs.Soundness.{is_sound}
use Rattle.elan_reading.specs.Edge.{is_injection, side_of, own_tie, tie_of, fits}
use Rattle.elan_reading.specs.declared.edge.Position.{Position}
use Rattle.elan_reading.specs.declared.edge.Position.TheVariants.{Later}
use Rattle.elan_reading.specs.declared.edge.Side.{Side}
use Rattle.elan_print.specs.Tokens.{Printed, opening, closing, integer}
use Rattle.elan_print.specs.Terms.{Shown, argument, filled, shown_of, term_tokens}
use Rattle.elan_print.specs.Sides.{Sheet, put, put_all, before, behind, first_side, after, repeated, first_of, closed, left_tokens, opened, right_opened, right_tokens, applied_tokens, tie_in, tie_inside}
use Rattle.elan_print.proofs.Sides.{put_all-append, shown_of-app, shown_of-none, shown_of-int}

-- ---- lists

drop_at : (xs : List Term) (i : ℕ) (x : Term) → i < length xs → x ≡ get_or xs i x → drop i xs ≡ x ∷ drop (i + 1) xs
drop_at xs i x below is = rw (add-one, drop-cons xs i x) (ap (λ z. z ∷ drop (suc i) xs) (sym is))

-- ---- terms by their nodes

module _ (g : Signature) (t : Term) where
  pub tokens-int : (z : ℤ) → t.node ≡ term.Int z → term_tokens g t ≡ integer z
  unfolding term_tokens
  tokens-int z e = ap (λ n. term_tokens g (record { node = n })) e ∙ ap (λ a. a.tokens) (shown_of-int g z)

  pub tokens-none : (op : OpId) (ts : List Term) → t.node ≡ term.App op ts → slice_get g.operators op.0 ≡ None → term_tokens g t ≡ []
  unfolding term_tokens
  tokens-none op ts e n = ap (λ n. term_tokens g (record { node = n })) e ∙ ap (λ a. a.tokens) (shown_of-none g op ts n)

  pub tokens-app : (op : OpId) (ts : List Term) (o : Operator) → is_sound g ≡ true → t.node ≡ term.App op ts → slice_get g.operators op.0 ≡ Some o → term_tokens g t ≡ applied_tokens o (map (shown_of g) ts)
  unfolding term_tokens
  tokens-app op ts o sound e n = ap (λ n. term_tokens g (record { node = n })) e ∙ ap (λ a. a.tokens) (shown_of-app g sound op o n ts)

  pub tie-int : (z : ℤ) → t.node ≡ term.Int z → tie_in g t ≡ None
  unfolding tie_in
  tie-int z e = ap (λ n. tie_in g (record { node = n })) e ∙ ap (λ a. tie_of a.first) (shown_of-int g z)

  pub tie-none : (op : OpId) (ts : List Term) → t.node ≡ term.App op ts → slice_get g.operators op.0 ≡ None → tie_in g t ≡ None
  unfolding tie_in
  tie-none op ts e n = ap (λ n. tie_in g (record { node = n })) e ∙ ap (λ a. tie_of a.first) (shown_of-none g op ts n)

  pub tie-inside : (op : OpId) (ts : List Term) (o : Operator) → is_sound g ≡ true → t.node ≡ term.App op ts → slice_get g.operators op.0 ≡ Some o → is_injection o ≡ true → tie_in g t ≡ tie_inside g o ts
  unfolding tie_in
  tie-inside op [] o sound e n i = ap (λ n. tie_in g (record { node = n })) e ∙ ap (λ a. tie_of a.first) (shown_of-app g sound op o n [])
  tie-inside op (u ∷ us) o sound e n i = ap (λ n. tie_in g (record { node = n })) e ∙ ap (λ a. tie_of a.first) (shown_of-app g sound op o n (u ∷ us)) ∙ ap (λ b. let a = shown_of g u in tie_of (cond b a.first (Some o))) i

  pub tie-own : (op : OpId) (ts : List Term) (o : Operator) → is_sound g ≡ true → t.node ≡ term.App op ts → slice_get g.operators op.0 ≡ Some o → is_injection o ≡ false → tie_in g t ≡ own_tie o
  unfolding tie_in
  tie-own op [] o sound e n i = ap (λ n. tie_in g (record { node = n })) e ∙ ap (λ a. tie_of a.first) (shown_of-app g sound op o n [])
  tie-own op (u ∷ us) o sound e n i = ap (λ n. tie_in g (record { node = n })) e ∙ ap (λ a. tie_of a.first) (shown_of-app g sound op o n (u ∷ us)) ∙ ap (λ b. let a = shown_of g u in tie_of (cond b a.first (Some o))) i

pub ruleset ties = (tie-int, tie-none, tie-inside, tie-own)

pub ruleset terms = (tokens-int, tokens-none, tokens-app)

-- ---- arguments

module _ (g : Signature) (o : Operator) (side : Side) (t : Term) (s : Sheet) where
  pub ungrouped : fits o side (tie_in g t) ≡ true → put_all s (argument o side (shown_of g t)) ≡ put_all s (term_tokens g t)
  unfolding tie_in term_tokens
  ungrouped e = let a = shown_of g t in ap (λ b. put_all s (cond b a.tokens (opening ∷ a.tokens ++ closing ∷ []))) e

  pub in_group : fits o side (tie_in g t) ≡ false → put_all s (argument o side (shown_of g t)) ≡ put (put_all (put s opening) (term_tokens g t)) closing
  unfolding tie_in term_tokens
  in_group e = let a = shown_of g t in ap (λ b. put_all s (cond b a.tokens (opening ∷ a.tokens ++ closing ∷ []))) e ∙ put_all-append (put s opening) a.tokens (closing ∷ [])

pub ruleset grouped = (ungrouped, in_group)

pub ruleset puts = (put_all-append, append_assoc)

pub ruleset texts = (put_all-append)

-- ---- loops

module _ (h : Term → Shown) (s t r : Sheet) where
  -- what is left at a place begins with what is written there
  pub each_step : (F : List Shown → List Printed) (f : Shown → List Printed) → ((a : Shown) (below : List Shown) → F (a ∷ below) ≡ f a ++ F below) → (xs : List Term) (i : ℕ) (x : Term) → i < length xs → x ≡ get_or xs i x
      → put_all s (F (map h (drop i xs))) ≡ r → t ≡ put_all s (f (h x)) → put_all t (F (map h (drop (i + 1) xs))) ≡ r
  each_step F f split xs i x below is inv now =
      let cut : drop i xs ≡ x ∷ drop (i + 1) xs = drop_at xs i x below is in
      ap (λ u. put_all u (F (map h (drop (i + 1) xs)))) now ∙ sym (put_all-append s (f (h x)) (F (map h (drop (i + 1) xs)))) ∙ ap (put_all s) (sym (split (h x) (map h (drop (i + 1) xs))))
      ∙ ap (λ l. put_all s (F (map h l))) (sym cut) ∙ inv

  -- the same where the first stands apart
  pub next_step : (o : Operator) (y : Term) (xs : List Term) (i : ℕ) (x : Term) → i < length xs → x ≡ get_or xs i x
      → put_all s (right_opened o (h y) (map h (drop i xs))) ≡ r → t ≡ put_all s (opened o (h y)) → put_all t (right_opened o (h x) (map h (drop (i + 1) xs))) ≡ r
  next_step o y xs i x below is inv now =
      let cut : drop i xs ≡ x ∷ drop (i + 1) xs = drop_at xs i x below is in
      ap (λ u. put_all u (right_opened o (h x) (map h (drop (i + 1) xs)))) now ∙ sym (put_all-append s (opened o (h y)) (right_opened o (h x) (map h (drop (i + 1) xs))))
      ∙ ap (λ l. put_all s (right_opened o (h y) (map h l))) (sym cut) ∙ inv

-- ---- ends of loops

left_end : (h : Term → Shown) (o : Operator) (x : Term) (xs : List Term) (i : ℕ) (s t u v : Sheet) → length xs ≤ i → t ≡ put_all s (repeated (before o.pieces) (length xs)) → u ≡ put_all t (first_of o (h x))
    → put_all v (flat_map (closed o) (map h (drop i xs))) ≡ put_all u (flat_map (closed o) (map h xs)) → v ≡ put_all s (left_tokens o (h x) (map h xs))
left_end h o x xs i s t u v past first second inv =
    let rest : List Printed = flat_map (closed o) (map h xs) in
    sym (at_drop_all (λ l. put_all v (flat_map (closed o) (map h l))) xs i past) ∙ inv ∙ ap (λ w. put_all w rest) (second ∙ ap (λ w. put_all w (first_of o (h x))) first)
    ∙ sym (put_all-append (put_all s (repeated (before o.pieces) (length xs))) (first_of o (h x)) rest)
    ∙ sym (put_all-append s (repeated (before o.pieces) (length xs)) (first_of o (h x) ++ rest))
    ∙ ap (λ n. put_all s (repeated (before o.pieces) n ++ (first_of o (h x) ++ rest))) (sym (length-map xs h))

-- the same with what the calls before it say
pub left_whole : (h : Term → Shown) (o : Operator) (x : Term) (xs : List Term) (i : ℕ) (s t u v : Sheet) (ps : List Piece) (f : Side) → length xs ≤ i → ps ≡ o.pieces → f ≡ first_side ps → t ≡ put_all s (repeated (before ps) (length xs))
    → u ≡ put_all t (argument o f (h x)) → put_all v (flat_map (closed o) (map h (drop i xs))) ≡ put_all u (flat_map (closed o) (map h xs)) → v ≡ put_all s (left_tokens o (h x) (map h xs))
left_whole h o x xs i s t u v ps f past is flag first second inv =
    left_end h o x xs i s t u v past (first ∙ ap (λ qs. put_all s (repeated (before qs) (length xs))) is) (second ∙ ap (λ b. put_all t (argument o b (h x))) (flag ∙ ap first_side is)) inv

pub right_whole : (h : Term → Shown) (o : Operator) (x y : Term) (xs : List Term) (i : ℕ) (s t u v : Sheet) (end : List Piece) (l : Side) → length xs ≤ i → end ≡ behind (behind o.pieces) → l ≡ side_of Later end
    → put_all t (right_opened o (h y) (map h (drop i xs))) ≡ put_all s (right_opened o (h x) (map h xs)) → u ≡ put_all t (argument o l (h y)) → v ≡ put_all u (repeated (before end) (length xs))
    → v ≡ put_all s (right_tokens o (h x) (map h xs))
right_whole h o x y xs i s t u v end l past is flag inv second third =
    third ∙ ap (λ qs. put_all u (repeated (before qs) (length xs))) is ∙ ap (λ w. put_all w (repeated (after o) (length xs)))
    (second ∙ ap (λ b. put_all t (argument o b (h y))) (flag ∙ ap (side_of Later) is) ∙ sym (at_drop_all (λ m. put_all t (right_opened o (h y) (map h m))) xs i past) ∙ inv)
    ∙ sym (put_all-append s (right_opened o (h x) (map h xs)) (repeated (after o) (length xs)))
    ∙ ap (λ n. put_all s (right_opened o (h x) (map h xs) ++ repeated (after o) n)) (sym (length-map xs h))

-- what is left behind the first item
tail_at : (xs : List Term) (x : Term) → 1 ≤ length xs → x ≡ get_or xs 0 x → xs ≡ x ∷ take (length xs - 1) (drop 1 xs)
tail_at [] x some is = absurd (omega (arith, some))
tail_at (y ∷ xs) x some is =
    let n : length (y ∷ xs) - 1 ≡ length xs = omega arith in
    ap (λ z. z ∷ xs) (sym is) ∙ ap (λ l. x ∷ l) (sym (take_all (length (y ∷ xs) - 1) xs (omega arith)))

pub hole_whole : (h : Term → Shown) (o : Operator) (position : Position) (side : Side) (p : Piece) (ps : List Piece) (x : Term) (xs : List Term) (s t : Sheet) → p ≡ Hole → 1 ≤ length xs → x ≡ get_or xs 0 x → side ≡ side_of position ps
    → t ≡ put_all s (argument o side (h x)) → put_all t (filled o Later ps (map h (take (length xs - 1) (drop 1 xs)))) ≡ put_all s (filled o position (p ∷ ps) (map h xs))
hole_whole h o position side p ps x xs s t is some at flag now =
    let rest : List Printed = filled o Later ps (map h (take (length xs - 1) (drop 1 xs))) in
    ap (λ w. put_all w rest) (now ∙ ap (λ b. put_all s (argument o b (h x))) flag) ∙ sym (put_all-append s (argument o (side_of position ps) (h x)) rest)
    ∙ sym (ap (λ q. put_all s (filled o position (q ∷ ps) (map h xs))) is ∙ ap (λ l. put_all s (filled o position (Hole ∷ ps) (map h l))) (tail_at xs x some at))
