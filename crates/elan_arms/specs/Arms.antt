-- What patterns bring to the node of an operator.
use Rattle.std.specs.Prelude.{ℕ, ◌+◌, ◌==◌, Bool, true, false, if◌then◌else◌, List, [], ◌∷◌, ◌++◌, length}
use Rattle.elan_terms.specs.declared.tree.OpId.{OpId}
use Rattle.elan_terms.specs.declared.tree.Term.{Term}
use Rattle.elan_terms.specs.declared.tree.Pattern.{Pattern}
use Rattle.elan_terms.specs.declared.tree.PatternNode as pattern
use Rattle.elan_terms.specs.declared.tree.Shapes.{Shapes}
use Rattle.elan_terms.specs.Term.{arms_under}
use Rattle.elan_terms.specs.Match.{instance}
use Rattle.elan_laws.specs.Parts.{times}

-- ---- patterns

-- an operator over patterns as a pattern
abbrev pub app_pattern : OpId → List Pattern → Pattern
app_pattern op ps = record { node = pattern.App op ps }

-- whether a pattern is a variable
abbrev pub is_variable_node : pattern.PatternNode → Bool
is_variable_node (pattern.Var x s) = true
is_variable_node (pattern.Int z) = false
is_variable_node (pattern.App' op shape row) = false

abbrev pub is_variable : Pattern → Bool
is_variable p = is_variable_node p.node

-- whether a pattern is an application of this operator
abbrev pub heads_node : OpId → pattern.PatternNode → Bool
heads_node op (pattern.Var x s) = false
heads_node op (pattern.Int z) = false
heads_node op (pattern.App' f shape row) = op.0 == f.0

abbrev pub heads : OpId → Pattern → Bool
heads op p = heads_node op p.node

-- a pattern that the operator heads gives way to its own patterns, and so do those, down to patterns that it does not head
module _ (op : OpId) where
  abbrev mutual
    pub apart_node : pattern.PatternNode → List Pattern
    apart_node (pattern.Var x s) = record { node = pattern.Var x s } ∷ []
    apart_node (pattern.Int z) = record { node = pattern.Int z } ∷ []
    apart_node (pattern.App' f shape row) = if op.0 == f.0 then apart_row row else record { node = pattern.App' f shape row } ∷ []

    pub apart_row : {n : _} → pattern.Row_of-Pattern n → List Pattern
    apart_row pattern.end_of-Pattern = []
    apart_row (pattern.more_of-Pattern x rest) = apart_node x ++ apart_row rest

-- the same for each of a list of patterns
abbrev pub taken_apart : OpId → List Pattern → List Pattern
taken_apart op [] = []
taken_apart op (p ∷ ps) = apart_node op p.node ++ taken_apart op ps

-- ---- what they bring

module _ (shapes : Shapes) (value : ℕ → Term) (op : OpId) where
  -- the arguments of the pattern's instance where the operator heads that, else the instance
  abbrev pub arms : Pattern → List Term
  arms p = arms_under op (instance shapes value p)

  -- how often patterns bring a term, all together
  abbrev pub times_brought : Term → List Pattern → ℕ
  times_brought u [] = 0
  times_brought u (p ∷ ps) = times u (arms p) + times_brought u ps

  -- how many terms they bring
  abbrev pub many_brought : List Pattern → ℕ
  many_brought [] = 0
  many_brought (p ∷ ps) = length (arms p) + many_brought ps
