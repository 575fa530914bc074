use Rattle.std.proofs.Common.{◌≡◌, length}
use Rattle.std.specs.List.{list_all}
use Rattle.elan_check.specs.Small.{is_small_text}
use Rattle.elan_check.proofs.small.have_few_modules.Given as goal

-- those that are left decide
abbrev pub invariant-texts : goal.invariant-texts
invariant-texts l = list_all is_small_text l.left ≡ list_all is_small_text l.texts

abbrev pub decreases-texts : goal.decreases-texts
decreases-texts l = length l.left
