-- What a chart keeps of a run.
use Rattle.std.specs.Prelude.{ℕ, suc, Bool, true, false, not, ◌&&◌, ◌==◌, if◌then◌else◌, Option, Some, None, List, [], ◌∷◌, ◌++◌}
use Rattle.elan_terms.specs.declared.tree.OpId.{OpId}
use Rattle.elan_entries.specs.declared.found.Key.{Key}
use Rattle.elan_entries.specs.declared.found.Key.TheVariants.{Whole, Rest}
use Rattle.elan_entries.specs.declared.found.Found.{Found}
use Rattle.elan_entries.specs.declared.found.Found.TheVariants.{One, Several}
use Rattle.elan_entries.specs.declared.found.Entry.{Entry}
use Rattle.elan_program.specs.Extension.{app_pattern}
use Rattle.elan_entries.specs.Trees.{same_all}

-- whether two priorities are equal, or both are left out
abbrev pub same_tie : Option ℕ → Option ℕ → Bool
same_tie None None = true
same_tie (Some p) (Some q) = p == q
same_tie _ _ = false

-- whether two flags are equal
abbrev pub same_flag : Bool → Bool → Bool
same_flag true j = j
same_flag false j = not j

-- whether two keys are equal
abbrev pub same_key : Key → Key → Bool
same_key (Whole s p i) (Whole t q j) = (s.0 == t.0) && (same_tie p q && same_flag i j)
same_key (Rest f k h) (Rest g l m) = (f.0 == g.0) && ((k == l) && (h == m))
same_key _ _ = false

-- whether there is nothing new in other trees
abbrev pub stays : Found → Found → Bool
stays Several more = true
stays (One ts) Several = false
stays (One ts) (One us) = same_all ts us

-- what is known with more of it
abbrev pub merged : Found → Found → Found
merged known more = if stays known more then known else Several

-- how many entries stand before the first of this key
abbrev pub place : List Entry → Key → ℕ
place [] k = 0
place (d ∷ ds) k = if same_key d.key k then 0 else suc (place ds k)

-- what is found at a key, put to what is known of that key
abbrev pub put : List Entry → Entry → List Entry
put [] e = e ∷ []
put (d ∷ ds) e = if same_key d.key e.key then record { key = d.key; found = merged d.found e.found } ∷ ds else d ∷ put ds e

-- whether different ones are found
abbrev pub is_several : Found → Bool
is_several (One ts) = false
is_several Several = true

-- whether different ones are found at a key
abbrev pub is_settled : List Entry → Key → Bool
is_settled [] k = false
is_settled (d ∷ ds) k = if same_key d.key k then is_several d.found else is_settled ds k

-- each of these, from the first on
abbrev pub put_all : List Entry → List Entry → List Entry
put_all ds [] = ds
put_all ds (e ∷ es) = put_all (put ds e) es

-- the trees of one before those of the other
abbrev pub joined : Found → Found → Found
joined (One ts) (One us) = One (ts ++ us)
joined _ _ = Several

-- the operator over the trees
abbrev pub applied : OpId → Found → Found
applied op (One ts) = One (app_pattern op ts ∷ [])
applied op Several = Several
