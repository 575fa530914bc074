-- Extension rules, and the unlabelled rules in the order in which they are tried.
use Rattle.std.specs.Prelude.{ℕ, ◌+◌, ◌-◌, ◌^◌, min, ℤ, if◌then◌else◌, nat_lt, Option, Some, None, List, [], ◌∷◌, length, map}
use Rattle.std.specs.List.{flat_map}
use Rattle.elan_terms.specs.declared.tree.OpId.{OpId}
use Rattle.elan_terms.specs.declared.tree.SortId.{SortId}
use Rattle.elan_terms.specs.declared.tree.Pattern.{Pattern}
use Rattle.elan_terms.specs.declared.tree.PatternNode as pattern
use Rattle.elan_terms.specs.Trees.{fold_pattern}
use Rattle.elan_terms.specs.Term.{is_ac}
use Rattle.elan_terms.specs.Match.{variables}
use Rattle.elan_text.specs.declared.name.Name.{Name}
use Rattle.elan_program.specs.declared.signature.Signature.{Signature}
use Rattle.elan_program.specs.declared.program.Clause.{Clause}
use Rattle.elan_program.specs.declared.program.Clause.TheVariants.{If, Where}
use Rattle.elan_program.specs.declared.program.Rule.{Rule}
use Rattle.elan_program.specs.declared.program.Parts.{Parts}
use Rattle.elan_program.specs.Signature.{shapes_of}

-- ---- patterns

-- a variable as a pattern
abbrev pub var_pattern : ℕ → SortId → Pattern
var_pattern x s = record { node = pattern.Var x s }

-- an operator over patterns as a pattern
abbrev pub app_pattern : OpId → List Pattern → Pattern
app_pattern op ps = record { node = pattern.App op ps }

-- an integer as a pattern
abbrev pub int_pattern : ℤ → Pattern
int_pattern z = record { node = pattern.Int z }

-- the last number that a variable may have
abbrev pub last_number : ℕ
last_number = 2 ^ 32 - 1

-- the number of a variable where k is left free: from k on, the next one, as long as there is one
unfoldable pub moved : ℕ → ℕ → ℕ
moved k x = if nat_lt x k then x else min (x + 1) last_number

-- a pattern in which the number k is left free
unfoldable pub shifted : ℕ → Pattern → Pattern
shifted k = fold_pattern (λ x s. var_pattern (moved k x) s) int_pattern app_pattern

-- a condition in which the number k is left free
abbrev pub shifted_clause : ℕ → Clause → Clause
shifted_clause k (If t) = If (shifted k t)
shifted_clause k (Where left by of) = Where (shifted k left) by (shifted k of)

-- ---- extension rules

-- the operator of a pattern's head, if it has one
abbrev pub head_node : pattern.PatternNode → Option OpId
head_node (pattern.App' op shape row) = Some op
head_node _ = None

-- the same of a pattern
abbrev pub head_op : Pattern → Option OpId
head_op p = head_node p.node

-- `f(l, Z) => f(r, Z)` with the same conditions, where Z is the variable with the number k
unfoldable pub extended_by : OpId → ℕ → Rule → Rule
extended_by f k r = record {
  label = None;
  sort = r.sort;
  left = app_pattern f (r.left ∷ var_pattern k r.sort ∷ []);
  right = app_pattern f (shifted k r.right ∷ var_pattern k r.sort ∷ []);
  clauses = map (shifted_clause k) r.clauses;
}

-- the extension of a rule whose left side has this head: there is one for an associative and commutative operator alone
abbrev pub extended : Signature → Rule → ℕ → Option OpId → Option Rule
extended g r k None = None
extended g r k (Some f) = if is_ac (shapes_of g) f then Some (extended_by f k r) else None

-- the number after the variables of a left side, which a valid rule always has
unfoldable pub fresh : Pattern → ℕ
fresh left = min (length (variables left)) last_number

-- what there is only where there is no label
abbrev pub if_unlabelled : {A : Type 0} → Option Name → A → A → A
if_unlabelled None there none = there
if_unlabelled (Some name) there none = none

-- the extension rule of a rule, if it has one
unfoldable pub extension : Signature → Rule → Option Rule
extension g r = if_unlabelled r.label (extended g r (fresh r.left) (head_op r.left)) None

-- ---- the rules that normalising tries

-- a rule that may be missing, as a list
abbrev pub optional : Option Rule → List Rule
optional None = []
optional (Some r) = r ∷ []

-- what a rule adds to the rules that are tried: itself, if it has no label, and its extension directly after it
unfoldable pub tried_by : Signature → Rule → List Rule
tried_by g r = if_unlabelled r.label (r ∷ optional (extension g r)) []

-- the unlabelled rules of a program's parts in the order in which they are tried
unfoldable pub unlabelled : Parts → List Rule
unlabelled p = flat_map (tried_by p.signature) p.rules
