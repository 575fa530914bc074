-- The node of a term that is known as a whole, and its arguments by their rows.
use Rattle.std.proofs.Common.{◌≡◌, refl, sym, ap, ◌∙◌, subst, ℕ, ◌<◌, ℤ, List, length, map, slice_get, Some}
use Rattle.std.proofs.lemmas.List.{length-map}
use Rattle.boxcar.specs.Table.{Where}
use Rattle.elan_terms.specs.declared.tree.OpId.{OpId}
use Rattle.elan_terms.specs.declared.tree.Term.{Term}
use Rattle.elan_terms.specs.Trees.{int_term, app_term}
use Rattle.elan_terms.proofs.TreeLemmas.{case_term-app}
use Rattle.elan_terms.proofs.Induction.{cases_term}
use Rattle.elan_shared.specs.Nodes.{arguments}
use Rattle.elan_shared.proofs.NodeLemmas.{arguments-app}
use Rattle.elan_table.specs.declared.node.Node.{Node}
use Rattle.elan_table.specs.declared.node.Node.TheVariants.{Int, App}
use Rattle.elan_table.specs.Rows.{terms}
use Rattle.elan_table.specs.Nodes.{node_of}

pub node_of-int : (t : Term) (z : ℤ) → t ≡ int_term z → Int z ≡ node_of t
unfolding node_of
node_of-int t z e = sym (ap node_of e)

pub node_of-app : (t : Term) (op : OpId) (ts : List Term) → t ≡ app_term op ts → App op (length ts) ≡ node_of t
unfolding node_of
node_of-app t op ts e = sym (ap node_of e ∙ case_term-app (λ z. Int z) (λ op ts. App op (length ts)) op ts)

-- the number of arguments, or 0
abbrev many_of : Node → ℕ
many_of (Int z) = 0
many_of (App f n) = n

no_app : {f : OpId} {n : ℕ} {z : ℤ} → App f n ≡ Int z → ⊥
no_app e = cc

-- an application has as many arguments as its node tells
pub node-length : (t : Term) (f : OpId) (n : ℕ) → App f n ≡ node_of t → n ≡ length (arguments t)
node-length t f n = cases_term (λ u. App f n ≡ node_of u → n ≡ length (arguments u))
    (λ z e. absurd (no_app (e ∙ sym (node_of-int (int_term z) z refl))))
    (λ g ts e. ap many_of (e ∙ sym (node_of-app (app_term g ts) g ts refl)) ∙ sym (ap length (arguments-app (app_term g ts) g ts refl)))
    t

module _ (t : Term) (op : OpId) (ws : List (Where Term)) (i : ℕ) (e : t ≡ app_term op (terms ws)) where
  -- an argument by its place is one of the rows
  pub arg_within : i < length (arguments t) → i < length ws
  arg_within = subst (λ n. i < n) (ap length (arguments-app t op (terms ws) e) ∙ length-map ws (λ w. w.value))

  -- and what its row means
  pub arg_found : (u : Term) → slice_get (terms ws) i ≡ Some u → slice_get (arguments t) i ≡ Some u
  arg_found u h = ap (λ l. slice_get l i) (arguments-app t op (terms ws) e) ∙ h
