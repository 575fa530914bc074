-- The equations of parts, variables and instances.
use Rattle.std.proofs.Common.{◌≡◌, refl, ap, sym, ◌∙◌, ℤ, ℕ, List, [], ◌∷◌, ◌++◌, map}
use Rattle.std.specs.Prelude.{slice_get}
use Rattle.std.specs.List.{flat_map}
use Rattle.elan_terms.specs.declared.tree.OpId.{OpId}
use Rattle.elan_terms.specs.declared.tree.SortId.{SortId}
use Rattle.elan_terms.specs.declared.tree.Shapes.{Shapes}
use Rattle.elan_terms.specs.declared.tree.Term.{Term}
use Rattle.elan_terms.specs.declared.tree.TermNode as term
use Rattle.elan_terms.specs.declared.tree.Pattern.{Pattern}
use Rattle.elan_terms.specs.declared.tree.PatternNode as pattern
use Rattle.elan_terms.specs.Trees.{int_term}
use Rattle.elan_terms.specs.Term.{node, sort_of, shape_sort}
use Rattle.elan_terms.specs.Match.{pieces, pieces_at, occurrences, instance}
use Rattle.elan_terms.proofs.TreeLemmas.{para_term-app, case_term-app, fold_pattern-app}

-- ---- parts

pub pieces-int : (shapes : Shapes) (t : Term) (z : ℤ) → t.node ≡ term.Int z → pieces shapes t ≡ t ∷ []
unfolding pieces
pieces-int shapes t z e = ap (λ n. pieces shapes (record { node = n })) e ∙ ap (λ n. record { node = n } ∷ []) (sym e)

firsts : {X Y : Type 0} (f : X → Y) (xs : List X) → map {A = X × Y} (λ a. a.0) (map (λ x. (x, f x)) xs) ≡ xs
firsts f [] = refl
firsts f (x ∷ xs) = ap (λ r. x ∷ r) (firsts f xs)

seconds : {X Y : Type 0} (f : X → List Y) (xs : List X) → flat_map {X = X × List Y} (λ a. a.1) (map (λ x. (x, f x)) xs) ≡ flat_map f xs
seconds f [] = refl
seconds f (x ∷ xs) = ap (λ r. f x ++ r) (seconds f xs)

pub pieces-app : (shapes : Shapes) (t : Term) (op : OpId) (args : List Term) → t.node ≡ term.App op args → pieces shapes t ≡ pieces_at shapes op args ++ flat_map (pieces shapes) args
unfolding pieces
pieces-app shapes t op args e =
    ap (λ n. pieces shapes (record { node = n })) e
    ∙ para_term-app (λ z. int_term z ∷ []) (λ op args. pieces_at shapes op (map (λ a. a.0) args) ++ flat_map (λ a. a.1) args) op args
    ∙ ap (λ ts. pieces_at shapes op ts ++ flat_map (λ (a : Term × List Term). a.1) (map (λ t. (t, pieces shapes t)) args)) (firsts (pieces shapes) args)
    ∙ ap (λ r. pieces_at shapes op args ++ r) (seconds (pieces shapes) args)

pub ruleset pieces_rules = (pieces-int, pieces-app)

-- ---- variables

pub occurrences-var : (p : Pattern) (x : ℕ) (s : SortId) → p.node ≡ pattern.Var x s → occurrences p ≡ (x, s) ∷ []
unfolding occurrences
occurrences-var p x s e = ap (λ n. occurrences (record { node = n })) e

pub occurrences-int : (p : Pattern) (z : ℤ) → p.node ≡ pattern.Int z → occurrences p ≡ []
unfolding occurrences
occurrences-int p z e = ap (λ n. occurrences (record { node = n })) e

joined : {X Y : Type 0} (f : X → List Y) (xs : List X) → flat_map (λ vs. vs) (map f xs) ≡ flat_map f xs
joined f [] = refl
joined f (x ∷ xs) = ap (λ r. f x ++ r) (joined f xs)

pub occurrences-app : (p : Pattern) (op : OpId) (args : List Pattern) → p.node ≡ pattern.App op args → occurrences p ≡ flat_map occurrences args
unfolding occurrences
occurrences-app p op args e =
    ap (λ n. occurrences (record { node = n })) e ∙ fold_pattern-app (λ x s. (x, s) ∷ []) (λ _. []) (λ _ vss. flat_map (λ vs. vs) vss) op args ∙ joined occurrences args

pub ruleset pattern_rules = (occurrences-var, occurrences-int, occurrences-app)

-- ---- sorts

pub sort_of-int : (shapes : Shapes) (t : Term) (z : ℤ) → t.node ≡ term.Int z → sort_of shapes t ≡ shapes.int
unfolding sort_of
sort_of-int shapes t z e = ap (λ n. sort_of shapes (record { node = n })) e

pub sort_of-app : (shapes : Shapes) (t : Term) (op : OpId) (args : List Term) → t.node ≡ term.App op args → sort_of shapes t ≡ shape_sort (slice_get shapes.shapes op.0)
unfolding sort_of
sort_of-app shapes t op args e = ap (λ n. sort_of shapes (record { node = n })) e ∙ case_term-app (λ _. shapes.int) (λ op _. shape_sort (slice_get shapes.shapes op.0)) op args

pub ruleset sorts = (sort_of-int, sort_of-app)

-- ---- instances

pub instance-var : (shapes : Shapes) (value : ℕ → Term) (p : Pattern) (x : ℕ) (s : SortId) → p.node ≡ pattern.Var x s → instance shapes value p ≡ value x
unfolding instance
instance-var shapes value p x s e = ap (λ n. instance shapes value (record { node = n })) e

pub instance-int : (shapes : Shapes) (value : ℕ → Term) (p : Pattern) (z : ℤ) → p.node ≡ pattern.Int z → instance shapes value p ≡ int_term z
unfolding instance
instance-int shapes value p z e = ap (λ n. instance shapes value (record { node = n })) e

pub instance-app : (shapes : Shapes) (value : ℕ → Term) (p : Pattern) (op : OpId) (args : List Pattern) → p.node ≡ pattern.App op args
    → instance shapes value p ≡ node shapes op (map (instance shapes value) args)
unfolding instance
instance-app shapes value p op args e = ap (λ n. instance shapes value (record { node = n })) e ∙ fold_pattern-app (λ x _. value x) int_term (node shapes) op args

pub ruleset instances = (instance-var, instance-int, instance-app)
