-- Equality modulo associativity and commutativity.
use Rattle.std.specs.Prelude.{◌≡◌, List, [], ◌∷◌, ◌++◌, IsTrue}
use Rattle.elan_terms.specs.declared.tree.OpId.{OpId}
use Rattle.elan_terms.specs.declared.tree.Term.{Term}
use Rattle.elan_terms.specs.declared.tree.Shapes.{Shapes}
use Rattle.elan_terms.specs.Trees.{app_term}
use Rattle.elan_terms.specs.Term.{is_ac}

-- The least congruence with the two equations f(x, y) = f(y, x) and f(f(x, y), z) = f(x, f(y, z)) for each associative
-- and commutative operator f. There more than two arguments stand for nested applications to two, so that f(x, y, z,
-- ..) = f(x, f(y, z, ..)).
pub data EqualModulo (shapes : Shapes) : Term → Term → Type 0 where
  reflexive : {t u : Term} → t ≡ u → EqualModulo shapes t u
  symmetric : {t u : Term} → EqualModulo shapes t u → EqualModulo shapes u t
  transitive : {t u v : Term} → EqualModulo shapes t u → EqualModulo shapes u v → EqualModulo shapes t v
  congruent : (op : OpId) (before after : List Term) (t u : Term) → EqualModulo shapes t u → EqualModulo shapes (app_term op (before ++ t ∷ after)) (app_term op (before ++ u ∷ after))
  commutative : (f : OpId) (x y : Term) → IsTrue (is_ac shapes f) → EqualModulo shapes (app_term f (x ∷ y ∷ [])) (app_term f (y ∷ x ∷ []))
  associative : (f : OpId) (x y z : Term) → IsTrue (is_ac shapes f) → EqualModulo shapes (app_term f (app_term f (x ∷ y ∷ []) ∷ z ∷ [])) (app_term f (x ∷ app_term f (y ∷ z ∷ []) ∷ []))
  nested : (f : OpId) (x y z : Term) (more : List Term) → IsTrue (is_ac shapes f) → EqualModulo shapes (app_term f (x ∷ y ∷ z ∷ more)) (app_term f (x ∷ app_term f (y ∷ z ∷ more) ∷ []))
