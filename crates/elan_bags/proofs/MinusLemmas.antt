-- Taking away, term by term.
use Rattle.std.proofs.Common.{◌≡◌, refl, sym, ap, ◌∙◌, subst, ◌+◌, Option, Some, None, List, [], ◌∷◌, ◌++◌, append-nil, ◌<◌, ◌≤◌, length, drop, is_gt, option_map, arith}
use Rattle.std.specs.declared.cmp.Ordering.{Ordering}
use Rattle.std.specs.declared.cmp.Ordering.TheVariants.{Less, Equal, Greater}
use Rattle.boxcar.specs.Table.{Where}
use Rattle.elan_terms.specs.declared.tree.Term.{Term}
use Rattle.elan_terms.specs.Term.{order}
use Rattle.elan_terms.specs.Ascending.{NotAfter, Ascends}
use Rattle.elan_terms.proofs.Lists.{AllOf, Pairs, pairs_of}
use Rattle.elan_terms.proofs.OrderLemmas.{order-equal, order-itself}
use Rattle.elan_terms.proofs.Sorting.{not_true}
use Rattle.elan_laws.specs.Parts.{SomeOf, none, taken, left, times}
use Rattle.elan_table.specs.Rows.{terms}
use Rattle.elan_bags.specs.Bags.{IsLeft}
use Rattle.elan_bags.specs.Cuts.{against}
use Rattle.elan_bags.proofs.TimesLemmas.{one_if, times-cons, not_equal, some_rest, some_ascends, head_not_after}

-- by how an item stands to the one that it is compared with
abbrev pub by_order : {A : Type 0} → Ordering → A → A → A → A
by_order Less a b c = a
by_order Equal a b c = b
by_order Greater a b c = c

-- the terms without the others, which are all among them
abbrev pub minus : List Term → List Term → Option (List Term)
minus [] [] = Some []
minus [] (v ∷ vs) = None
minus (u ∷ us) vs = by_order (against u vs) (option_map (λ ws. u ∷ ws) (minus us vs)) (minus us (drop 1 vs)) None

-- these terms before the others
abbrev pub front : List Term → Option (List Term) → Option (List Term)
front xs o = option_map (λ ws. xs ++ ws) o

-- what is found is left; where nothing is found, the others are not some of the terms
abbrev Takes : List Term → List Term → Option (List Term) → Type 0
Takes us vs None = SomeOf vs us → ⊥
Takes us vs (Some ws) = IsLeft us vs ws

later : {u v : Term} {us vs : List Term} → order u v ≡ Less → SomeOf (v ∷ vs) (u ∷ us) → SomeOf (v ∷ vs) us
later {u = u} e (taken s) = not_equal (sym (order-itself u) ∙ e)
later e (left s) = s

nothing_later : {u : Term} {us : List Term} → SomeOf [] (u ∷ us) → SomeOf [] us
nothing_later (left s) = s

kept : (u : Term) (us vs : List Term) (r : Option (List Term)) → (SomeOf vs (u ∷ us) → SomeOf vs us) → Takes us vs r → Takes (u ∷ us) vs (option_map (λ ws. u ∷ ws) r)
kept u us vs None f h = λ s. h (f s)
kept u us vs (Some ws) f h = record {
  some = taken h.some;
  all = λ t. let here : times t us ≡ times t vs + times t ws = h.all t in omega (arith, times-cons t u us, times-cons t u ws);
}

gone : (u v : Term) (us vs : List Term) (r : Option (List Term)) → order u v ≡ Equal → Takes us vs r → Takes (u ∷ us) (v ∷ vs) r
gone u v us vs None e h = λ s. h (some_rest vs us s)
gone u v us vs (Some ws) e h = record {
  some = left h.some;
  all = λ t. let here : times t us ≡ times t vs + times t ws = h.all t in
      let alike : one_if t u ≡ one_if t v = ap (one_if t) (order-equal u v e) in omega (arith, times-cons t u us, times-cons t v vs);
}

step : (u v : Term) (us vs : List Term) (o : Ordering) → order u v ≡ o → AllOf (NotAfter u) us → Takes us (v ∷ vs) (minus us (v ∷ vs)) → Takes us vs (minus us vs)
    → Takes (u ∷ us) (v ∷ vs) (by_order o (option_map (λ ws. u ∷ ws) (minus us (v ∷ vs))) (minus us vs) None)
step u v us vs Less e h k l = kept u us (v ∷ vs) (minus us (v ∷ vs)) (λ s. later e s) k
step u v us vs Equal e h k l = gone u v us vs (minus us vs) e l
step u v us vs Greater e h k l = λ s. not_true (sym (ap is_gt e) ∙ head_not_after vs us h s)

takes : (us vs : List Term) → Pairs NotAfter us → Takes us vs (minus us vs)
takes [] [] h = record { some = none; all = λ t. omega arith }
takes [] (v ∷ vs) h = λ s. elim s [ ]
takes (u ∷ us) [] h = kept u us [] (minus us []) (λ s. nothing_later s) (takes us [] h.1)
takes (u ∷ us) (v ∷ vs) h = step u v us vs (order u v) refl h.0 (takes us (v ∷ vs) h.1) (takes us vs h.1)

pub minus_none : (us vs : List Term) → None ≡ minus us vs → Ascends us → SomeOf vs us → ⊥
minus_none us vs e up = subst (Takes us vs) (sym e) (takes us vs (pairs_of NotAfter us up))

minus_some : (us vs ws : List Term) → Some ws ≡ minus us vs → Ascends us → IsLeft us vs ws × Ascends ws
minus_some us vs ws e up =
    let is : IsLeft us vs ws = subst (Takes us vs) (sym e) (takes us vs (pairs_of NotAfter us up)) in
    (is, some_ascends ws us is.some up)

-- all rows were passed, and all of the others were taken away
pub minus_found : (us vs out : List Term) (rows others : List (Where Term)) → front out (minus (terms rows) (terms others)) ≡ minus us vs → length rows < 1 → length others < 1
    → Ascends us → IsLeft us vs out × Ascends out
minus_found us vs out [] [] e lt lt' up = minus_some us vs out (ap Some (sym (append-nil out)) ∙ e) up
minus_found us vs out [] (v ∷ others) e lt lt' up = absurd (omega arith)
minus_found us vs out (u ∷ rows) others e lt lt' up = absurd (omega arith)

-- all rows were passed, and not all of the others were taken away
pub minus_absent : (us vs out : List Term) (rows others : List (Where Term)) → front out (minus (terms rows) (terms others)) ≡ minus us vs → length rows < 1 → 1 ≤ length others
    → Ascends us → SomeOf vs us → ⊥
minus_absent us vs out [] [] e lt le up = absurd (omega arith)
minus_absent us vs out [] (v ∷ others) e lt le up = minus_none us vs e up
minus_absent us vs out (u ∷ rows) others e lt le up = absurd (omega arith)

pub ruleset steps = (minus_none)
