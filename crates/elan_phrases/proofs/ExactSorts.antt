-- Sort expressions and references are read exactly.
use Rattle.std.proofs.Common.{◌≡◌, ℕ, suc, ◌-◌, Bool, true, cond, ◌||◌, List, [], ◌∷◌, ◌++◌, length, inr, refl, sym}
use Rattle.elan_forms.specs.Whole.{done}
use Rattle.elan_forms.specs.Form.{◌>>=◌, ◌>>◌, after, counted, pure, either, begins_with}
use Rattle.elan_forms.proofs.Exact.{Begins, begins_bind, or_left, or_right, Same}
use Rattle.elan_forms.proofs.Lengths.{Shrinks, Keeps, shrinks_keeps, silent_keeps, bind_shrinks, bind_keeps, either_keeps}
use Rattle.elan_forms.proofs.Loops.{turns_keep}
use Rattle.elan_forms.proofs.Nested.{Alike, alike_refl, bind_alike, either_alike, loop_alike, counted_alike, counted_shrinks, begins_counted, unroll}
use Rattle.elan_forms.proofs.Takes.{Separate, Takes, Stands, May, none, so, may_pure, takes_more, takes_counted, takes_spanned, then_next, then_last, then_may, then_stands, stands_then_stands, stands_then_may, may_then_stands, may_either, may_loop, none_apart, none_within, within_itself, takes_nested, loop_turn}
use Rattle.elan_phrases.specs.declared.span.Span.{Span}
use Rattle.elan_phrases.specs.declared.symbol.Symbol.{Symbol}
use Rattle.elan_phrases.specs.declared.symbol.Symbol.TheVariants.{Comma, LeftSquare, RightSquare, Name}
use Rattle.elan_phrases.specs.declared.symbol.Importer.{Importer}
use Rattle.elan_phrases.specs.declared.symbol.Importer.TheVariants.{AModule, AnLplText}
use Rattle.elan_phrases.specs.Symbols.{Seen, same_symbol, one, a, names, imported, importable}
use Rattle.elan_phrases.specs.Tokens.{sign, span}
use Rattle.elan_phrases.specs.SortExpressions.{Limited, more_arguments, arguments, bracketed, sort_body, sort, most_sort_names, most_argument_names, closing_arguments, sort_span, more_sorts, actual, more_actuals, actuals, reference, more_references, references}
use Rattle.elan_phrases.proofs.SymbolSets.{separate, within}
use Rattle.elan_phrases.proofs.ExactTokens.{kind, sample, sign_takes, taken_takes}

sign_shrinks : (s : Symbol) → Shrinks (sign s)
sign_shrinks s = (sign_takes 0 s).shrinks

sign_keeps : (s : Symbol) → Keeps (sign s)
sign_keeps s = shrinks_keeps (sign s) (sign_shrinks s)

-- ---- reading a sort expression leaves less, where reading those in it does

module _ (F : Limited) (h : (s : ℕ) → Shrinks (F s)) where
  keeps : (s : ℕ) → Keeps (F s)
  keeps s = shrinks_keeps (F s) (h s)

  argument_shrinks : (s : ℕ) → Shrinks (sign Comma >> F s)
  argument_shrinks s = bind_shrinks (sign Comma) (λ _. F s) (sign_shrinks Comma) (λ _. keeps s)

  more_arguments_keeps : (s : ℕ) → Keeps (more_arguments F s)
  unfolding more_arguments
  more_arguments_keeps s n ts v m r e = turns_keep (λ _. a (one Comma)) (λ l. sign Comma >> F l) argument_shrinks
      (length ts) s n ts v m r e

  arguments_keeps : (s : ℕ) → Keeps (arguments F s)
  unfolding arguments
  arguments_keeps s = bind_keeps (F s) _ (keeps s) (λ l.
      bind_keeps (more_arguments F l) _ (more_arguments_keeps l) (λ l2.
      bind_keeps (sign RightSquare) _ (sign_keeps RightSquare) (λ _. silent_keeps (λ n. l2))))

  bracketed_keeps : (s : ℕ) → Keeps (bracketed F s)
  unfolding bracketed
  bracketed_keeps s = bind_keeps (sign LeftSquare) (λ _. arguments F s) (sign_keeps LeftSquare) (λ _. arguments_keeps s)

pub sort_lessens : (F : Limited) → ((s : ℕ) → Shrinks (F s)) → (s : ℕ) → Shrinks (sort_body F s)
unfolding sort_body
sort_lessens F h s = bind_shrinks (counted (a names) s) _ (counted_shrinks (a names) s) (λ l.
    either_keeps (bracketed F l) (pure l) (bracketed_keeps F h l) (silent_keeps (λ n. l)))

-- ---- two forms that agree on short texts make sort expressions that agree on longer ones

module _ (b : ℕ) (F G : Limited) (h : (s : ℕ) → Shrinks (F s)) (e : (s : ℕ) → Alike b (F s) (G s)) where
  sign_alike : (x : Symbol) (f g : Limited) (s : ℕ) → Alike b (f s) (g s) →
      Alike b (sign x >> f s) (sign x >> g s)
  sign_alike x f g s k = bind_alike b (sign x) (sign x) (λ _. f s) (λ _. g s) (sign_keeps x) (alike_refl b (sign x))
      (λ _. k)

  arguments_alike : (s : ℕ) → Alike b (arguments F s) (arguments G s)
  unfolding arguments more_arguments
  arguments_alike s =
      bind_alike b (F s) (G s) _ _ (keeps F h s) (e s) (λ l.
      bind_alike b (more_arguments F l) (more_arguments G l) _ _ (more_arguments_keeps F h l)
      (loop_alike b (λ _. a (one Comma)) (λ x. sign Comma >> F x) (λ x. sign Comma >> G x)
      (λ x. sign_alike Comma F G x (e x)) (argument_shrinks F h) l)
      (λ l2. alike_refl b (sign RightSquare >>= (λ _. pure l2))))

  bracketed_alike : (s : ℕ) → Alike b (bracketed F s) (bracketed G s)
  unfolding bracketed
  bracketed_alike s = sign_alike LeftSquare (arguments F) (arguments G) s (arguments_alike s)

pub sort_grows : (b : ℕ) (F G : Limited) → ((s : ℕ) → Shrinks (F s)) → ((s : ℕ) → Alike b (F s) (G s)) → (s : ℕ) →
    Alike (suc b) (sort_body F s) (sort_body G s)
unfolding sort_body bracketed
sort_grows b F G h e s =
    counted_alike b (a names) s _ _ (λ l.
    either_alike b (bracketed F l) (bracketed G l) (pure l) (pure l) (λ t. refl) (bracketed_alike b F G h e l)
    (alike_refl b (pure l)))

-- ---- unrolled once

pub sort_same : (s : ℕ) → Same (sort_body sort s) (sort s)
unfolding sort
sort_same s = unroll (a names) sort_body sort_grows sort_lessens s

pub sort_reads : (s n : ℕ) (ts : List Seen) →
    (sort s).read n ts
    ≡ after ((counted (a names) s).read n ts) (λ left. either (bracketed sort left) (pure left))
unfolding sort_body
sort_reads s n ts = sym ((sort_same s).read n ts)

-- ---- exact

abbrev after_arguments : Symbol → Bool
after_arguments s = one Comma s || one LeftSquare s

module _ (m : ℕ) (h : (s : ℕ) → Stands kind m names (one LeftSquare) (sort s)) where
  argument_takes : (s : ℕ) → Takes kind m (one Comma) (one LeftSquare) (sign Comma >> sort s)
  argument_takes s = then_next (sign_takes m Comma) (λ _. h s)

  more_arguments_may : (s : ℕ) → May kind m (one Comma) after_arguments (more_arguments sort s)
  unfolding more_arguments same_symbol
  more_arguments_may s = may_loop argument_takes (separate refl) (within refl) (within refl) s

  arguments_stands : (s : ℕ) → Stands kind m names none (arguments sort s)
  unfolding arguments same_symbol
  arguments_stands s =
      stands_then_stands (h s) (λ l.
      may_then_stands (more_arguments_may l) (λ l2. so (then_last (sign_takes m RightSquare) (λ _. may_pure)))
      (separate refl)) (separate refl)

  bracketed_takes : (s : ℕ) → Takes kind m (one LeftSquare) none (bracketed sort s)
  unfolding bracketed
  bracketed_takes s = then_next (sign_takes m LeftSquare) (λ _. arguments_stands s)

  sort_body_takes : (s : ℕ) → Takes kind m names (one LeftSquare) (sort_body sort s)
  unfolding sort_body bracketed names
  sort_body_takes s =
      then_last (takes_counted names s (sample Name) refl) (λ l.
      may_either (λ t. refl) (so (takes_more none_within (bracketed_takes l))) may_pure none_apart within_itself)

sort_opens : (s : ℕ) → Begins (a names) (sort_body sort s)
unfolding sort_body
sort_opens s = begins_bind (a names) (counted (a names) s) _ (begins_counted (a names) s)

pub sort_word : (s n : ℕ) → (w : List Seen) × (v : ℕ) × (sort s).words n w v
unfolding sort_body names
sort_word s n = (
  sample Name ∷ [],
  s - 1,
  (sort_same s).words n (sample Name ∷ []) (s - 1)
      (sample Name ∷ [], [], s - 1, (sample Name, refl, refl, refl), inr (refl, refl), refl),
)

-- a sort expression is read exactly, before whatever begins with no `[`
pub sort_takes : (m s : ℕ) → Takes kind m names (one LeftSquare) (sort s)
unfolding sort
sort_takes m s = takes_nested kind names (one LeftSquare) sort_body sort_grows sort_lessens sort_word sort_opens
    sort_body_takes m s

pub sort_shrinks : (s : ℕ) → Shrinks (sort s)
sort_shrinks s = (sort_takes 0 s).shrinks

-- the arguments of a sort are read exactly, with the bracket that closes them
pub closing_arguments_stands : (m : ℕ) → Stands kind m names none closing_arguments
unfolding closing_arguments
closing_arguments_stands m = stands_then_may (arguments_stands m (λ l. so (sort_takes m l)) most_argument_names)
    (λ _. may_pure) none_apart none_within

pub arguments_keep : (s : ℕ) → Keeps (arguments sort s)
arguments_keep s = arguments_keeps sort sort_shrinks s

pub more_arguments_reads : (s n : ℕ) (ts : List Seen) →
    (more_arguments sort s).read n ts ≡ cond (begins_with (a (one Comma)) ts)
    (after (after ((sign Comma).read n ts) (λ _. sort s)) (more_arguments sort)) (done s n ts)
unfolding more_arguments
more_arguments_reads s n ts = loop_turn (λ _. a (one Comma)) (λ l. sign Comma >> sort l)
    (argument_shrinks sort sort_shrinks) s n ts

-- ---- lists of sort expressions

module _ (m : ℕ) where
  pub sort_span_takes : Takes kind m names (one LeftSquare) sort_span
  unfolding sort_span
  sort_span_takes = takes_spanned span (sort_takes m most_sort_names)

  pub one_sort_takes : (found : List Span) →
      Takes kind m names (one LeftSquare) (sort_span >>= (λ sort. pure (found ++ sort ∷ [])))
  one_sort_takes found = then_may sort_span_takes (λ _. may_pure) none_apart within_itself

  pub more_sorts_may : (found : List Span) →
      May kind m names (λ s. names s || one LeftSquare s) (more_sorts found)
  unfolding more_sorts same_symbol names
  more_sorts_may found = may_loop one_sort_takes (separate refl) (within refl) (within refl) found

  -- ---- references

  pub one_actual_takes : Takes kind m (one Comma) (one LeftSquare) actual
  one_actual_takes = then_next (sign_takes m Comma) (λ _.
      so (then_may sort_span_takes (λ _. may_pure) none_apart within_itself))

  more_actuals_may : May kind m (one Comma) after_arguments more_actuals
  unfolding more_actuals same_symbol
  more_actuals_may = may_loop (λ _. one_actual_takes) (separate refl) (within refl) (within refl) tt

  actuals_takes : Takes kind m (one LeftSquare) none actuals
  unfolding actuals same_symbol
  actuals_takes =
      then_next (sign_takes m LeftSquare) (λ _.
      so (then_stands sort_span_takes (λ _.
      may_then_stands more_actuals_may (λ _. so (sign_takes m RightSquare)) (separate refl)) (separate refl)))

  name_importable : (i : Importer) → importable i Name ≡ true
  unfolding imported names
  name_importable AModule = refl
  name_importable AnLplText = refl

  pub reference_takes : (i : Importer) → Takes kind m (importable i) (one LeftSquare) (reference (importable i))
  unfolding reference actuals
  reference_takes i =
      takes_spanned span (then_last (taken_takes m (importable i) Name (name_importable i)) (λ _.
      may_either (λ t. refl) (so (takes_more none_within actuals_takes)) may_pure none_apart within_itself))

  pub one_reference_takes : (i : Importer) (found : List Span) →
      Takes kind m (importable i) (one LeftSquare) (reference (importable i) >>= (λ next. pure (found ++ next ∷ [])))
  one_reference_takes i found = then_may (reference_takes i) (λ _. may_pure) none_apart within_itself

pub more_sorts_reads : (found : List Span) (n : ℕ) (ts : List Seen) →
    (more_sorts found).read n ts
    ≡ cond (begins_with (a names) ts) (after (after (sort_span.read n ts)
    (λ sort. pure (found ++ sort ∷ []))) more_sorts) (done found n ts)
unfolding more_sorts
more_sorts_reads found n ts = loop_turn (λ _. a names) (λ found. sort_span >>= (λ sort. pure (found ++ sort ∷ [])))
    (λ x. (one_sort_takes 0 x).shrinks) found n ts

pub more_actuals_reads : (n : ℕ) (ts : List Seen) →
    more_actuals.read n ts ≡ cond (begins_with (a (one Comma)) ts)
    (after (actual.read n ts) (λ _. more_actuals)) (done tt n ts)
unfolding more_actuals
more_actuals_reads n ts = loop_turn (λ _. a (one Comma)) (λ _. actual)
    (λ _. (one_actual_takes 0).shrinks) tt n ts

pub more_references_reads : (i : Importer) (found : List Span) (n : ℕ) (ts : List Seen) →
    (more_references (importable i) found).read n ts
    ≡ cond (begins_with (a (importable i)) ts) (after (after ((reference (importable i)).read n ts)
    (λ next. pure (found ++ next ∷ []))) (more_references (importable i))) (done found n ts)
unfolding more_references
more_references_reads i found n ts = loop_turn (λ _. a (importable i))
    (λ found. reference (importable i) >>= (λ next. pure (found ++ next ∷ [])))
    (λ x. (one_reference_takes 0 i x).shrinks) found n ts

-- ---- lists of references

-- what does not follow references
abbrev pub after_references : Importer → Symbol → Bool
after_references i s = importable i s || one LeftSquare s

apart_square : (i : Importer) → Separate (importable i) (one LeftSquare)
unfolding imported names same_symbol
apart_square AModule = separate refl
apart_square AnLplText = separate refl

module _ (m : ℕ) (i : Importer) where
  more_references_may : (found : List Span) →
      May kind m (importable i) (after_references i) (more_references (importable i) found)
  unfolding more_references
  more_references_may found = may_loop (one_reference_takes m i) (apart_square i)
      (record { also = λ s e. or_left (importable i s) (one LeftSquare s) e })
      (record { also = λ s e. or_right (importable i s) (one LeftSquare s) e }) found

  pub references_takes : (found : List Span) →
      Takes kind m (importable i) (after_references i) (references (importable i) found)
  unfolding references
  references_takes found = then_may (reference_takes m i) (λ next. more_references_may (found ++ next ∷ []))
      (apart_square i) (record { also = λ s e. or_right (importable i s) (one LeftSquare s) e })
