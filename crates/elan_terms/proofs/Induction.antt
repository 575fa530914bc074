-- Induction over terms, in which the arguments of an application are a plain list.
use Rattle.std.proofs.Common.{◌≡◌, sym, ap, ◌∙◌, subst, ℤ, List, [], ◌∷◌}
use Rattle.elan_terms.specs.declared.tree.OpId.{OpId}
use Rattle.elan_terms.specs.declared.tree.Term.{Term}
use Rattle.elan_terms.specs.declared.tree.TermNode.{TermNode, Int, App, App', Row_of-Term, end_of-Term, more_of-Term, items-the_row-Term, items_shown-the_row-Term-0, roll-TermNode, roll-out-TermNode}
use Rattle.elan_terms.specs.declared.tree.TermNode.TheVariants.{rolls-App, outs-App'}
use Rattle.elan_terms.specs.declared.tree.TermNode.TheBlock.{shown-the_row-Term-0}
use Rattle.elan_terms.specs.Trees.{int_term, app_term}

-- P of each of a list
abbrev pub AllOf : (Term → Type 0) → List Term → Type 0
AllOf P [] = Unit {0}
AllOf P (t ∷ ts) = P t × AllOf P ts

-- a node of a shape and a row is one of a list
node-is : (op : OpId) (shape : _) (row : Row_of-Term _) → App' op shape row ≡ App op (items-the_row-Term _ row)
node-is op shape row =
    sym (roll-out-TermNode (App' op shape row)) ∙ ap roll-TermNode (outs-App' op shape row) ∙ rolls-App op (shown-the_row-Term-0 shape row)
    ∙ ap (App op) (items_shown-the_row-Term-0 shape row)

module _ (P : Term → Type 0) (int : (z : ℤ) → P (int_term z)) (app : (op : OpId) (ts : List Term) → AllOf P ts → P (app_term op ts)) where
  mutual
    ind_node : (n : TermNode) → P (record { node = n })
    ind_node (Int z) = int z
    ind_node (App' op shape row) = subst (λ n. P (record { node = n })) (sym (node-is op shape row)) (app op (items-the_row-Term _ row) (ind_row row))

    ind_row : {n : _} (row : Row_of-Term n) → AllOf P (items-the_row-Term n row)
    ind_row end_of-Term = tt
    ind_row (more_of-Term x rest) = (ind_node x, ind_row rest)

  -- what holds of integers, and of an application where it holds of its arguments, holds of every term
  pub ind_term : (t : Term) → P t
  ind_term t = ind_node t.node

-- what holds of integers and of applications holds of every term
pub cases_term : (P : Term → Type 0) → ((z : ℤ) → P (int_term z)) → ((op : OpId) (ts : List Term) → P (app_term op ts)) → (t : Term) → P t
cases_term P int app = ind_term P int (λ op ts _. app op ts)
