-- When a cell speaks of a set of lists of trees: what is found is the set's, and all of it is found.
use Rattle.std.specs.Prelude.{◌≡◌, ◌≢◌, ◌⊎◌, List, [], ◌∷◌}
use Rattle.elan_terms.specs.declared.tree.Pattern.{Pattern}
use Rattle.elan_entries.specs.declared.found.Key.{Key}
use Rattle.elan_entries.specs.declared.found.Found.{Found}
use Rattle.elan_entries.specs.declared.found.Found.TheVariants.{One, Several}
use Rattle.elan_entries.specs.declared.found.Entry.{Entry}

-- what is found is of the set: the one, or two different ones
abbrev pub IsGood : (List Pattern → Type 0) → Found → Type 0
IsGood S (One ts) = S ts
IsGood S Several = (ts : List Pattern) × (us : List Pattern) × S ts × S us × (ts ≢ us)

-- these trees are found, or there are several
abbrev pub Has : Found → List Pattern → Type 0
Has (One us) ts = ts ≡ us
Has Several ts = Unit {0}

-- each entry is of the set of its key
abbrev pub AreGood : (Key → List Pattern → Type 0) → List Entry → Type 0
AreGood S [] = Unit {0}
AreGood S (e ∷ es) = IsGood (S e.key) e.found × AreGood S es

-- an entry of this key has these trees
abbrev pub HasAt : List Entry → Key → List Pattern → Type 0
HasAt [] k ts = ⊥
HasAt (e ∷ es) k ts = ((e.key ≡ k) × Has e.found ts) ⊎ HasAt es k ts
