use Rattle.std.proofs.Common.{◌≡◌, length}
use Rattle.std.specs.List.{list_all}
use Rattle.elan_check.specs.Small.{is_small_module}
use Rattle.elan_check.proofs.small.have_few_sections.Given as goal

-- those that are left decide
abbrev pub invariant-modules : goal.invariant-modules
invariant-modules l = list_all is_small_module l.left ≡ list_all is_small_module l.modules

abbrev pub decreases-modules : goal.decreases-modules
decreases-modules l = length l.left
