-- When a program is one for which a strategy is read.
use Rattle.std.specs.Prelude.{◌≡◌, ℕ, Option, Some, None, length, map}
use Rattle.elan_terms.specs.declared.tree.SortId.{SortId}
use Rattle.elan_program.specs.declared.program.Rule.{Rule}
use Rattle.elan_program.specs.declared.program.Named.{Named}
use Rattle.elan_program.specs.declared.program.Parts.{Parts}
use Rattle.elan_program.specs.declared.strategy.Scope.{Scope}
use Rattle.elan_program.specs.declared.strategy.Scope.TheVariants.{Outside, Inside}
use Rattle.elan_names.specs.declared.heads.Label.{Label}
use Rattle.elan_names.specs.declared.heads.Head.{Head}
use Rattle.elan_names.specs.declared.heads.Names.{Names}
use Rattle.elan_names.specs.Resolved.{Body, Site}

-- the sort of a definition, and how many parameters it has
abbrev pub head_part : Head → SortId × ℕ
head_part h = (h.sort, h.parameters)

-- the same of a named strategy
abbrev pub named_part : Named → SortId × ℕ
named_part n = (n.sort, n.parameters)

-- A program has a rule of its sort for each label, and a named strategy of its sort and number of parameters for each
-- definition.
pub record IsNamedBy (p : Parts) (names : Names) : Type 0 where
  pub rules : map (λ (r : Rule). r.sort) p.rules ≡ map (λ (l : Label). l.sort) names.labels
  pub named : map named_part p.named ≡ map head_part names.heads

-- a program has what is known where a strategy stands: these operators, rules and named strategies
pub record IsKnownAt (p : Parts) (sc : Site) : Type 0 where
  pub operators : p.signature.operators ≡ sc.operators
  pub named : IsNamedBy p sc.names

-- where a strategy in this body, or in none, stands
abbrev pub scope_in : Option Body → Scope
scope_in None = Outside
scope_in (Some body) = Inside (length body.parameters) body.sort
