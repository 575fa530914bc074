-- Numbers under keys.
use Rattle.std.specs.Prelude.{ℕ, ◌==◌, ◌&&◌, Bool, true, false, Option, Some, None, List, [], ◌++◌, if◌then◌else◌}
use Rattle.std.specs.Str.{bytes_eq}
use Rattle.indexmap.specs.IndexMap.{get_by}
use Rattle.elan_terms.specs.declared.tree.SortId.{SortId}
use Rattle.elan_names.specs.declared.groups.Groups.{Groups as Kept}
use Rattle.elan_names.specs.declared.groups.Key.{Key}
use Rattle.elan_names.specs.Names.{Word, where_passed}

-- ---- keys

-- what a key says: a name, for an operator how many holes it has, and a sort, where it is one at a sort
pub record KeyValue : Type 0 where
  pub name : Word
  pub holes : Option ℕ
  pub sort : Option ℕ

-- the same of a key that is kept
abbrev pub value_of : Key → KeyValue
value_of k = record { name = k.name.items; holes = k.holes; sort = k.sort }

-- a name for whatever sort
abbrev pub by_name : Word → KeyValue
by_name word = record { name = word; holes = None; sort = None }

-- a name at a sort
abbrev pub by_sort : Word → SortId → KeyValue
by_sort word sort = record { name = word; holes = None; sort = Some sort.0 }

-- a name with so many holes, for whatever sort
abbrev pub by_holes : Word → ℕ → KeyValue
by_holes word n = record { name = word; holes = Some n; sort = None }

-- a name with so many holes, at a sort
abbrev pub by_prefix : Word → ℕ → SortId → KeyValue
by_prefix word n sort = record { name = word; holes = Some n; sort = Some sort.0 }

-- whether two numbers, each of which may be missing, are the same
abbrev pub same_number : Option ℕ → Option ℕ → Bool
same_number None None = true
same_number None (Some n) = false
same_number (Some m) None = false
same_number (Some m) (Some n) = m == n

-- whether two keys say the same
abbrev pub same_key : KeyValue → KeyValue → Bool
same_key a b = bytes_eq a.name b.name && (same_number a.holes b.holes && same_number a.sort b.sort)

-- whether there is a key, and it is the one that is asked for
abbrev pub is_key : KeyValue → Option KeyValue → Bool
is_key asked None = false
is_key asked (Some key) = same_key key asked

-- ---- numbers

-- the numbers that were found, or none
abbrev pub or_none : Option (List ℕ) → List ℕ
or_none None = []
or_none (Some numbers) = numbers

-- the numbers under a key
abbrev pub under : Kept → KeyValue → List ℕ
under g key = or_none (get_by (λ k. same_key key (value_of k)) g.map)

-- what is under a key that is asked for, once these numbers are under a key in the place of others
abbrev pub put : KeyValue → List ℕ → KeyValue → List ℕ → List ℕ
put key numbers asked others = if same_key key asked then numbers else others

-- what is under a key that is asked for, once a number is added under a key, if there is a key
abbrev pub with_number : KeyValue → Option KeyValue → ℕ → List ℕ → List ℕ
with_number asked key n numbers = numbers ++ where_passed (is_key asked key) n
