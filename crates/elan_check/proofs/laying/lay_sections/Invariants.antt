use Rattle.std.proofs.Common.{◌≡◌, true, length, map}
use Rattle.std.specs.List.{list_all}
use Rattle.elan_clauses.specs.Offered.{is_few}
use Rattle.elan_check.specs.Laid.{seen, laid_sections}
use Rattle.elan_check.specs.Lent.{seen_part}
use Rattle.elan_check.proofs.laying.lay_sections.Given as goal

-- what is left decides behind the sections so far
abbrev pub invariant-sections : goal.invariant-sections
invariant-sections l =
    (laid_sections l.sorts.signature.now (seen l.site) (map seen_part l.parts) l.left
    ≡ laid_sections l.sorts.signature.now (seen l.site) (map seen_part l.fn.parts) l.fn.sections)
    × (list_all is_few l.left ≡ true)

abbrev pub decreases-sections : goal.decreases-sections
decreases-sections l = length l.left
