-- What the engine is asked for below a level, and what it may count on.
use Rattle.std.specs.Prelude.{◌≡◌, ℕ, Option, Some, None, List, [], ◌∷◌, ◌++◌, IfOk, Result}
use Rattle.std.specs.declared.alloc.Global.{Global}
use Rattle.std.specs.declared.alloc.AllocError.{AllocError}
use denote.Ref.{Bor}
use Rattle.elan_terms.specs.declared.tree.Term.{Term}
use Rattle.elan_program.specs.declared.program.Program.{Program}
use Rattle.elan_program.specs.declared.program.Rule.{Rule}
use Rattle.elan_program.specs.declared.strategy.StrategyNode.TheVariants as node
use Rattle.elan_program.specs.Strategies.{made}
use Rattle.elan_program.specs.Signature.{shapes_of}
use Rattle.elan_meaning.specs.declared.item.Item.{Item}
use Rattle.elan_meaning.specs.declared.item.Entry.{Entry}
use Rattle.elan_meaning.specs.declared.item.Entry.TheVariants.{At, Stop}
use Rattle.elan_meaning.specs.Meaning.{Meaning, apply, finished, below}
use Rattle.elan_plain.specs.declared.world.World.{World}
use Rattle.elan_plain.specs.declared.world.Ask.{Ask}
use Rattle.elan_plain.specs.declared.world.Ask.TheVariants.{Body, Run, Repeat, Iterate, Place}
use Rattle.elan_plain.specs.Closures.{meant}
use Rattle.elan_plain.specs.declared.world.Turn.{Turn}
use Rattle.elan_plain.specs.declared.world.Turn.TheVariants.{Left, Stopped}

-- what is kept beside a program is what was made of it
pub record IsWorld (w : World) : Type 0 where
  pub shapes : w.shapes ≡ shapes_of w.program.now.signature

-- the meaning below a level
abbrev pub under : World → ℕ → Meaning
under w level = below w.program.now level

-- the list that is asked for
abbrev pub asked : Program → Meaning → Ask → ℕ → List Item
asked p M (Body r a) n = finished p M r.now (M.clauses r.now.clauses a.now n)
asked p M (Run c t) n = M.strategy (meant c) t.now n
asked p M (Repeat c t) n = M.strategy (made (node.Repeat (meant c))) t.now n
asked p M (Iterate c t) n = M.strategy (made (node.Iterate (meant c))) t.now n
asked p M (Place sort c t) n = M.positions sort (meant c) t.now n

-- a function that gives the lists of the meaning below a level
pub record Gives (level : ℕ) (pre : Global → ℕ → Bor World → Ask → ℕ → Type 0)
    (post : Global → ℕ → Bor World → Ask → ℕ → Result (List Item) AllocError → Type 0) : Type 0 where
  pub callable : (alloc : Global) (w : Bor World) (ask : Ask) (n : ℕ) → IsWorld w.now → pre alloc level w ask n
  pub gives : (alloc : Global) (w : Bor World) (ask : Ask) (n : ℕ) (r : Result (List Item) AllocError) → post alloc level w ask n r
      → IfOk r (λ items. items ≡ asked w.now.program.now (under w.now level) ask n)

-- what a rule gives on a term, with the rule last
unfoldable pub apply_on : Program → Meaning → Term → ℕ → Rule → List Item
apply_on p M t n r = apply p M r t n

-- the first item, if there is one
abbrev pub first : List Item → Option Item
first [] = None
first (i ∷ is) = Some i

-- an entry with terms before its own
abbrev pub behind : List Term → Entry → Entry
behind ts (At us m) = At (ts ++ us) m
behind ts (Stop c) = Stop c

-- the entry of a row that is complete, or of the mark that ended it
abbrev pub turned : List Term → Turn → Entry
turned ts (Left m) = At ts m
turned ts (Stopped c) = Stop c
