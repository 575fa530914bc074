-- The equations of conditions at one level of meaning.
use Rattle.std.proofs.Common.{◌≡◌, refl, ℕ, ◌<◌, List, [], ◌∷◌, ◌++◌, length, arith}
use Rattle.std.specs.List.{flat_map}
use Rattle.elan_terms.specs.declared.tree.Term.{Term}
use Rattle.elan_terms.specs.declared.tree.Pattern.{Pattern}
use Rattle.elan_terms.specs.Match.{matches}
use Rattle.elan_program.specs.declared.strategy.Strategy.{Strategy}
use Rattle.elan_program.specs.declared.program.Clause.{Clause}
use Rattle.elan_program.specs.declared.program.Clause.TheVariants.{If, Where}
use Rattle.elan_program.specs.declared.program.Program.{Program}
use Rattle.elan_program.specs.Signature.{shapes_of}
use Rattle.elan_meaning.specs.declared.item.Entry.{Entry}
use Rattle.elan_meaning.specs.declared.item.Entry.TheVariants.{At}
use Rattle.elan_meaning.specs.Items.{rows_of, matched}
use Rattle.elan_meaning.specs.Meaning as meaning
use Rattle.elan_meaning.specs.Meaning.{Meaning}

module _ (p : Program) (M : Meaning) where
  pub clauses-none : (cs : List Clause) (a : List Term) (n : ℕ) → length cs < 1 → meaning.clauses p M cs a n ≡ At a n ∷ []
  unfolding meaning.clauses
  clauses-none [] a n none = refl
  clauses-none (c ∷ cs) a n none = absurd (omega arith)

  pub clauses-if : (t : Pattern) (cs : List Clause) (a : List Term) (n : ℕ) → meaning.clauses p M (If t ∷ cs) a n ≡ meaning.if_true p M (meaning.normal p M t a n) (meaning.clauses p M cs a)
  unfolding meaning.clauses
  clauses-if t cs a n = refl

  pub clauses-where : (left : Pattern) (s : Strategy) (t : Pattern) (cs : List Clause) (a : List Term) (n : ℕ)
      → meaning.clauses p M (Where left s t ∷ cs) a n ≡ meaning.if_result p M (meaning.normal p M t a n) (meaning.sought p M left s (meaning.clauses p M cs) a)
  unfolding meaning.clauses
  clauses-where left s t cs a n = refl

  module _ (rest : List Term → ℕ → List Entry) (a : List Term) where
    pub found-is : (left : Pattern) (v : Term) (n : ℕ) → meaning.found p M left rest a v n ≡ flat_map (matched rest a n) (matches (shapes_of p.signature) left v)
    unfolding meaning.found
    found-is left v n = refl

    pub matched-is : (n : ℕ) (b : List Term) → matched rest a n b ≡ rest (a ++ b) n
    unfolding matched
    matched-is n b = refl

    pub sought-is : (left : Pattern) (s : Strategy) (u : Term) (n : ℕ) → meaning.sought p M left s rest a u n ≡ rows_of (meaning.strategy p M s u n) (meaning.found p M left rest a)
    unfolding meaning.sought
    sought-is left s u n = refl

pub ruleset conditions = (clauses-none, clauses-if, clauses-where, found-is, matched-is, sought-is)
