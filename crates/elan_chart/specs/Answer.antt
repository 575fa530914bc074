-- What is answered, from what the whole text is read as.
use Rattle.std.specs.Prelude.{◌≡◌, ◌-◌, Bool, false, not, ◌==◌, if◌then◌else◌, Option, Some, None, List, [], ◌∷◌, length, slice_get}
use Rattle.elan_reading.specs.declared.sought.Sought.{Sought}
use Rattle.elan_reading.specs.declared.sought.Sought.TheVariants as sought
use Rattle.elan_terms.specs.declared.tree.Pattern.{Pattern}
use Rattle.elan_reading.specs.declared.sought.ReadingRefusal.{ReadingRefusal}
use Rattle.elan_reading.specs.declared.sought.ReadingRefusal.TheVariants as refusal
use Rattle.elan_entries.specs.declared.found.Found.TheVariants.{One, Several}
use Rattle.elan_entries.specs.declared.found.Key.{Key}
use Rattle.elan_entries.specs.declared.found.Key.TheVariants.{Whole, Rest}
use Rattle.elan_entries.specs.declared.found.Found.{Found}
use Rattle.elan_entries.specs.declared.found.Entry.{Entry}
use Rattle.elan_entries.specs.Found.{merged}
use Rattle.elan_chart.specs.Chart.{run_or}

-- whether what is read at a key is looked for
abbrev pub is_sought : Sought → Key → Bool
is_sought what (Rest op k h) = false
is_sought (sought.Sort s) (Whole r tie injected) = s.0 == r.0
is_sought sought.Any (Whole r tie injected) = not injected

-- what is known with more of it
abbrev pub with_more : Option Found → Found → Found
with_more None more = more
with_more (Some known) more = merged known more

-- what is found at all keys that are sought, beside what is known
abbrev pub all_sought : Sought → Option Found → List Entry → Option Found
all_sought what known [] = known
all_sought what known (e ∷ es) = all_sought what (if is_sought what e.key then Some (with_more known e.found) else known) es

-- the longest run of the first row
abbrev pub longest : List (List (List Entry)) → List Entry
longest [] = []
longest (row ∷ rows) = run_or (slice_get row (length row - 1))

-- this is the first of the trees
abbrev pub IsFirst : List Pattern → Pattern → Type 0
IsFirst [] p = ⊥
IsFirst (t ∷ ts) p = p ≡ t

-- there is no first tree, or memory ran out
abbrev pub LacksFirst : List Pattern → ReadingRefusal → Type 0
LacksFirst ts refusal.None = ts ≡ []
LacksFirst ts refusal.NoMemory = Unit {0}
LacksFirst ts _ = ⊥

-- this is the one tree that was found
abbrev pub IsThe : Option Found → Pattern → Type 0
IsThe None p = ⊥
IsThe (Some Several) p = ⊥
IsThe (Some (One ts)) p = IsFirst ts p

-- why not one tree was found
abbrev pub Refuses : Option Found → ReadingRefusal → Type 0
Refuses None e = e ≡ refusal.None
Refuses (Some Several) e = e ≡ refusal.Several
Refuses (Some (One ts)) e = LacksFirst ts e
