use Rattle.elan_modules.proofs.OpenedLemmas.{opens_found}
use Rattle.elan_modules.proofs.NamedLemmas.{own_found}
use Rattle.elan_modules.proofs.opening.open.Goals as goal

pub returns-in-Ok-module_outline-clause-opens : goal.returns-in-Ok-module_outline-clause-opens
returns-in-Ok-module_outline-clause-opens c =
    let tokens = rw c.as_slice.ensures.value at c.in-Ok.ensures.found in
    let outline = rw (c.as_slice-2.ensures.value, c.as_slice-3.ensures.value) at c.in-Ok-module_outline.ensures.found in
    opens_found _ _ _ _ _ c.requires.unreserved tokens outline c.loaded.ensures.ok c.loaded.ensures.err

pub returns-in-Ok-module_outline-clause-own : goal.returns-in-Ok-module_outline-clause-own
returns-in-Ok-module_outline-clause-own c =
    let tokens = rw c.as_slice.ensures.value at c.in-Ok.ensures.found in
    let inside = rw c.as_slice.ensures.value at c.in-Ok.ensures.within in
    let outline = rw (c.as_slice-2.ensures.value, c.as_slice-3.ensures.value) at c.in-Ok-module_outline.ensures.found in
    own_found _ _ _ _ _ tokens inside outline c.loaded.ensures.ok
