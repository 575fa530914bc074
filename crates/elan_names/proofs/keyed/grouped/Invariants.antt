use Rattle.std.proofs.Common.{◌≡◌, ◌++◌, drop}
use Rattle.elan_names.specs.Groups.{KeyValue, under}
use Rattle.elan_names.specs.Indexed.{keyed}
use Rattle.elan_names.proofs.keyed.grouped.Given as goal

-- the number is that of the next item; what is there so far and what is left make the whole
abbrev pub invariant-items : goal.invariant-items
invariant-items g l = (l.number ≡ l.item-index)
    × ((key : KeyValue) → under l.groups key ++ keyed g.K.Keys.of key l.number (drop l.item-index l.items) ≡ keyed g.K.Keys.of key 0 l.items)
