use Rattle.std.proofs.Common.{◌≡◌, ◌++◌, drop}
use Rattle.elan_meaning.specs.Items.{on_results}
use Rattle.elan_program.specs.declared.strategy.StrategyNode.TheVariants as node
use Rattle.elan_program.specs.Strategies.{made}
use Rattle.elan_plain.specs.Closures.{meant}
use Rattle.elan_plain.specs.Engine.{under}
use Rattle.elan_plain.proofs.level.Level.repeat_each.Given as goal

-- the list so far and that of the items that are left make all
abbrev pub invariant-loop-item : goal.invariant-loop-item
invariant-loop-item g l =
    l.out ++ on_results (drop l.item-index l.item-items) ((under l.world l.self.level).strategy (made (node.Repeat (meant l.inner))))
    ≡ on_results l.item-items ((under l.world l.self.level).strategy (made (node.Repeat (meant l.inner))))
