-- What a section keeps of the texts and sorts that it was laid with.
use Rattle.std.specs.Prelude.{◌≡◌, true, nat_lt, List, [], ◌∷◌, length}
use Rattle.std.specs.List.{list_all}
use Rattle.elan_program.specs.declared.signature.Signature.{Signature}
use Rattle.elan_program.specs.Soundness.{most, has_sort_id}
use Rattle.elan_clauses.specs.Texts.{Reader}
use Rattle.elan_clauses.specs.Offered.{ReadsWell, are_declared, has_few}
use Rattle.elan_clauses.specs.Readable.{IsReadable}
use Rattle.elan_check.specs.Laid.{Part, RulesFor, StrategiesFor}

-- A section has a sort that is there. The text of its rules may be read and is read well, and its variables are fewer than
-- 4,294,967,296 and numbered from 0 on. Its definitions have so few parameters.
abbrev pub PartFits : Reader → Signature → Part → Type 0
PartFits read g (RulesFor text sort tokens variables rules) =
    IsReadable text × (ReadsWell read g text
    × ((has_sort_id g sort ≡ true) × ((are_declared g 0 variables ≡ true) × (nat_lt (length variables) most ≡ true))))
PartFits read g (StrategiesFor text sort definitions) =
    (has_sort_id g sort ≡ true) × (list_all has_few definitions ≡ true)

-- the same of all sections
abbrev pub AllFit : Reader → Signature → List Part → Type 0
AllFit read g [] = Unit {0}
AllFit read g (p ∷ ps) = PartFits read g p × AllFit read g ps
