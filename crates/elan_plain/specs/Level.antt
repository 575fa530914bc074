-- The meaning at one level of the engine, in the words of the definitions.
use Rattle.std.specs.Prelude.{ℕ, ℤ, Option, List}
use Rattle.elan_terms.specs.declared.tree.OpId.{OpId}
use Rattle.elan_terms.specs.declared.tree.SortId.{SortId}
use Rattle.elan_terms.specs.declared.tree.Term.{Term}
use Rattle.elan_terms.specs.declared.tree.Pattern.{Pattern}
use Rattle.elan_program.specs.declared.strategy.Strategy.{Strategy}
use Rattle.elan_program.specs.declared.program.Clause.{Clause}
use Rattle.elan_program.specs.declared.program.Rule.{Rule}
use Rattle.elan_program.specs.declared.program.Named.{Named}
use Rattle.elan_meaning.specs.declared.item.Item.{Item}
use Rattle.elan_meaning.specs.declared.item.Entry.{Entry}
use Rattle.elan_meaning.specs.Items as items
use Rattle.elan_meaning.specs.Meaning as meaning
use Rattle.elan_plain.specs.declared.world.World.{World}
use Rattle.elan_plain.specs.Engine as engine
use Rattle.elan_plain.specs.Engine.{under}

module _ (w : World) (level : ℕ) where
  -- ---- rules

  -- a match of a rule that is taken up
  abbrev pub taken_up : Rule → ℕ → List Term → List Item
  taken_up = meaning.taken_up w.program.now (under w level)

  -- a rule on a term
  abbrev pub apply : Rule → Term → ℕ → List Item
  apply = meaning.apply w.program.now (under w level)

  -- the same with the rule last
  abbrev pub apply_on : Term → ℕ → Rule → List Item
  apply_on = engine.apply_on w.program.now (under w level)

  -- ---- normalising

  -- a canonical node
  abbrev pub of_node : Term → ℕ → Item
  of_node = meaning.of_node w.program.now (under w level)

  -- arguments from left to right
  abbrev pub in_turn : List (List Term → ℕ → Item) → List Term → ℕ → Entry
  in_turn = items.in_turn

  -- a pattern under an assignment
  abbrev pub normal : Pattern → List Term → ℕ → Item
  normal = meaning.normal w.program.now (under w level)

  -- a whole term
  abbrev pub normal_term : Term → ℕ → List Item
  normal_term = meaning.normal_term w.program.now (under w level)

  -- ---- positions

  -- a try at a node of the sort
  abbrev pub at_node : SortId → Strategy → Term → ℕ → List Item
  at_node = meaning.at_node w.program.now (under w level)

  -- a canonical node on its own, as a position
  abbrev pub placed : SortId → Strategy → Term → ℕ → List Item
  placed = meaning.placed w.program.now (under w level)

  -- the canonical node of a row, as a position
  abbrev pub placed_node : SortId → Strategy → OpId → List Term → ℕ → List Item
  placed_node = meaning.placed_node w.program.now (under w level)

  -- the rows of arguments with all their results
  abbrev pub rows : List (ℕ → List Item) → ℕ → List Entry
  rows = items.rows

  -- all positions in a term
  abbrev pub positions : SortId → Strategy → Term → ℕ → List Item
  positions = meaning.positions w.program.now (under w level)

  -- ---- strategies

  -- the rule of a number
  abbrev pub apply_number : Term → ℕ → ℕ → List Item
  apply_number = meaning.apply_number w.program.now (under w level)

  -- a named strategy
  abbrev pub call : Option Named → List Strategy → Term → ℕ → List Item
  call = meaning.call w.program.now (under w level)

  -- one strategy after the other
  abbrev pub sequence : List (Term → ℕ → List Item) → Term → ℕ → List Item
  sequence = items.sequence

  -- `repeat*`
  abbrev pub repeat : Strategy → Term → ℕ → List Item
  repeat = meaning.repeat w.program.now (under w level)

  -- `iterate*`
  abbrev pub iterate : Strategy → Term → ℕ → List Item
  iterate = meaning.iterate w.program.now (under w level)

  -- `iterate+`
  abbrev pub iterate_plus : Strategy → Term → ℕ → List Item
  iterate_plus = meaning.iterate_plus w.program.now (under w level)

  -- an operator over a row of results
  abbrev pub normal_app : OpId → List Term → ℕ → List Item
  normal_app = meaning.normal_app w.program.now (under w level)

  -- a congruence on an integer
  abbrev pub not_headed : ℤ → List Item
  not_headed = meaning.not_headed w.program.now (under w level)

  -- a congruence on an application
  abbrev pub congruent : OpId → List (Term → ℕ → List Item) → ℕ → OpId → List Term → List Item
  congruent = meaning.congruent w.program.now (under w level)

  -- each strategy on the argument of its place
  abbrev pub paired : List (Term → ℕ → List Item) → List Term → List (ℕ → List Item)
  paired = items.paired

  -- a strategy on a term
  abbrev pub strategy : Strategy → Term → ℕ → List Item
  strategy = meaning.strategy w.program.now (under w level)

  -- the same with the strategy last
  abbrev pub strategy_on : Term → ℕ → Strategy → List Item
  strategy_on = meaning.strategy_on w.program.now (under w level)

  -- ---- conditions

  -- what follows a condition that normalised to `true`
  abbrev pub if_true : Item → (ℕ → List Entry) → List Entry
  if_true = meaning.if_true w.program.now (under w level)

  -- what follows a term that normalised to a result
  abbrev pub if_result : Item → (Term → ℕ → List Entry) → List Entry
  if_result = meaning.if_result w.program.now (under w level)

  -- what follows a match
  abbrev pub matched : (List Term → ℕ → List Entry) → List Term → ℕ → List Term → List Entry
  matched = items.matched

  -- what follows a result in which a pattern is sought
  abbrev pub found : Pattern → (List Term → ℕ → List Entry) → List Term → Term → ℕ → List Entry
  found = meaning.found w.program.now (under w level)

  -- what follows a term to which a strategy is applied
  abbrev pub sought : Pattern → Strategy → (List Term → ℕ → List Entry) → List Term → Term → ℕ → List Entry
  sought = meaning.sought w.program.now (under w level)

  -- the assignments that meet the conditions
  abbrev pub clauses : List Clause → List Term → ℕ → List Entry
  clauses = meaning.clauses w.program.now (under w level)

  -- the right side under each of these assignments, one level up
  abbrev pub finished : Rule → List Entry → List Item
  finished = meaning.finished w.program.now (meaning.level w.program.now (under w level))
