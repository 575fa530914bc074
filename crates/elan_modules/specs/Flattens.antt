-- What flattening a program ensures.
use Rattle.std.specs.Prelude.{◌≡◌, List, [], ◌∷◌, Option, Some, None, Result, Ok, Err}
use Rattle.elan_modules.specs.declared.flat.Flat.{Flat}
use Rattle.elan_modules.specs.declared.flat.FlattenRefusal.{FlattenRefusal}
use Rattle.elan_modules.specs.declared.flat.FlattenRefusal.TheVariants.{Refused, LoaderFault, NoMemory}
use Rattle.elan_loaders.specs.Libraries.{Library as Texts}
use Rattle.elan_modules.specs.Visits.{Halted, Refuses, Silent}

-- each loader tells its library
abbrev pub AllTold : List (Option Texts) → Type 0
AllTold [] = Unit {0}
AllTold (None ∷ others) = ⊥
AllTold (Some library ∷ others) = AllTold others

-- a call gives what a definition says, unless memory was wanted or a loader failed
abbrev pub Gives : Result Flat FlattenRefusal → Result Flat Halted → Type 0
Gives (Ok flat) d = d ≡ Ok flat
Gives (Err (Refused r)) d = d ≡ Err (Refuses r)
Gives (Err LoaderFault) d = Unit {0}
Gives (Err NoMemory) d = Unit {0}

-- a call gives what a definition says, unless memory was wanted; where a loader failed, the definition comes to a name
-- of which nothing is told
abbrev pub StopsAt : {A : Type 0} → Result A FlattenRefusal → Result A Halted → Type 0
StopsAt (Ok value) d = d ≡ Ok value
StopsAt (Err (Refused r)) d = d ≡ Err (Refuses r)
StopsAt (Err LoaderFault) d = d ≡ Err Silent
StopsAt (Err NoMemory) d = Unit {0}
