-- What holds throughout an application holds of it and throughout its arguments; what validity says of an application.
use Rattle.std.proofs.Common.{◌≡◌, sym, subst, ◌≤◌, Bool, true, false, ℤ, Option, Some, None, List, length, slice_get, MatchBool}
use Rattle.elan_terms.specs.declared.tree.OpId.{OpId}
use Rattle.elan_terms.specs.declared.tree.Term.{Term}
use Rattle.elan_terms.specs.declared.tree.TermNode as term
use Rattle.elan_terms.specs.declared.tree.TermNode.TheBlock.{hidden-the_row-Term-0}
use Rattle.elan_terms.specs.declared.tree.Shape.{Shape}
use Rattle.elan_terms.specs.declared.tree.Shapes.{Shapes}
use Rattle.elan_terms.specs.Trees.{app_term}
use Rattle.elan_terms.specs.Term.{is_ac, shape_ac}
use Rattle.elan_terms.specs.Nodes.{EachOfRow, Throughout}
use Rattle.elan_terms.specs.Valid.{IsNumber, MayTake, IsAllowed, IsValid}
use Rattle.elan_terms.proofs.Lists.{AllOf}

module _ (Int : ℤ → Type 0) (App : OpId → List Term → Type 0) where
  row_all : {n : _} (row : term.Row_of-Term n) → EachOfRow Int App row → AllOf (Throughout Int App) (term.items-the_row-Term n row)
  row_all term.end_of-Term h = tt
  row_all (term.more_of-Term x rest) h = (h.0, row_all rest h.1)

  all_row : {n : _} (row : term.Row_of-Term n) → AllOf (Throughout Int App) (term.items-the_row-Term n row) → EachOfRow Int App row
  all_row term.end_of-Term h = tt
  all_row (term.more_of-Term x rest) h = (h.0, all_row rest h.1)

  pub throughout_app : (op : OpId) (ts : List Term) → Throughout Int App (app_term op ts) → App op ts × AllOf (Throughout Int App) ts
  throughout_app op ts h = (subst (App op) (term.items_hidden-the_row-Term-0 ts) h.0, subst (AllOf (Throughout Int App)) (term.items_hidden-the_row-Term-0 ts) (row_all (hidden-the_row-Term-0 ts) h.1))

  pub app_throughout : (op : OpId) (ts : List Term) → App op ts → AllOf (Throughout Int App) ts → Throughout Int App (app_term op ts)
  app_throughout op ts h k =
      (subst (App op) (sym (term.items_hidden-the_row-Term-0 ts)) h, all_row (hidden-the_row-Term-0 ts) (subst (AllOf (Throughout Int App)) (sym (term.items_hidden-the_row-Term-0 ts)) k))

-- ---- validity

pub match_true : (b : Bool) (P Q : Type 0) → b ≡ true → MatchBool b P Q → P
match_true true P Q e h = h
match_true false P Q e h = absurd (no e)
  where
    no : false ≡ true → ⊥
    no f = cc

pub match_false : (b : Bool) (P Q : Type 0) → b ≡ false → MatchBool b P Q → Q
match_false true P Q e h = absurd (no e)
  where
    no : true ≡ false → ⊥
    no f = cc
match_false false P Q e h = h

two_of : (shapes : Shapes) (o : Option Shape) (ts : List Term) → shape_ac o ≡ true → MayTake shapes o ts → 2 ≤ length ts
two_of shapes None ts e h = absurd h
two_of shapes (Some shape) ts e h = (match_true shape.ac _ _ e h).0

-- an associative and commutative operator has two arguments
pub two_arguments : (shapes : Shapes) (op : OpId) (ts : List Term) → is_ac shapes op ≡ true → IsValid shapes (app_term op ts) → 2 ≤ length ts
unfolding is_ac
two_arguments shapes op ts e h = two_of shapes (slice_get shapes.shapes op.0) ts e (throughout_app (IsNumber shapes) (IsAllowed shapes) op ts h).0

pub valid_arguments : (shapes : Shapes) (op : OpId) (ts : List Term) → IsValid shapes (app_term op ts) → AllOf (IsValid shapes) ts
valid_arguments shapes op ts h = (throughout_app (IsNumber shapes) (IsAllowed shapes) op ts h).1
