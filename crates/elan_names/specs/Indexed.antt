-- When an index agrees with the names and operators of a program.
use Rattle.std.specs.Prelude.{◌≡◌, ℕ, Bool, false, nat_lt, Option, Some, None, if◌then◌else◌, List, [], ◌∷◌, slice_get}
use Rattle.std.specs.Option.{option_map}
use Rattle.elan_program.specs.declared.signature.Operator.{Operator}
use Rattle.elan_names.specs.declared.heads.Label.{Label}
use Rattle.elan_names.specs.declared.heads.Head.{Head}
use Rattle.elan_names.specs.declared.heads.Names.{Names}
use Rattle.elan_names.specs.declared.index.Index.{Index}
use Rattle.elan_names.specs.declared.names.Found.{Found}
use Rattle.elan_names.specs.declared.index.HeadGroups.{HeadGroups}
use Rattle.elan_names.specs.declared.index.LabelGroups.{LabelGroups}
use Rattle.elan_names.specs.declared.index.OperatorGroups.{OperatorGroups}
use Rattle.elan_names.specs.Names.{places, has_parameters, prefix_at}
use Rattle.elan_names.specs.Groups.{KeyValue, under, is_key, by_name, by_sort, by_holes, by_prefix}

-- ---- the keys

-- the name of a definition
abbrev pub name_key : Head → Option KeyValue
name_key h = Some (by_name h.name.bytes)

-- the name and the sort of a definition
abbrev pub head_key : Head → Option KeyValue
head_key h = Some (by_sort h.name.bytes h.sort)

-- the name of a definition that has parameters
abbrev pub wide_name_key : Head → Option KeyValue
wide_name_key h = if has_parameters h then name_key h else None

-- the name and the sort of a definition that has parameters
abbrev pub wide_key : Head → Option KeyValue
wide_key h = if has_parameters h then head_key h else None

-- the label of a rule
abbrev pub label_key : Label → Option KeyValue
label_key l = option_map (λ name. by_name name.bytes) l.name

-- the label and the sort of a rule
abbrev pub rule_key : Label → Option KeyValue
rule_key l = option_map (λ name. by_sort name.bytes l.sort) l.name

-- the name of an operator and how many holes it has
abbrev pub prefix_key : Operator → Option KeyValue
prefix_key o = option_map (λ p. by_holes p.0 p.1) (prefix_at o)

-- the same with the sort of the operator
abbrev pub operator_key : Operator → Option KeyValue
operator_key o = option_map (λ p. by_prefix p.0 p.1 o.sort) (prefix_at o)

-- ---- what an index keeps

-- the numbers of those that have this key, where the first of all has this number
abbrev pub keyed : {A : Type 0} → (A → Option KeyValue) → KeyValue → ℕ → List A → List ℕ
keyed key asked n xs = places (λ x. is_key asked (key x)) n xs

-- the numbers of definitions stand under their names and sorts
pub record AreHeads (g : HeadGroups) (heads : List Head) : Type 0 where
  pub sorted : (key : KeyValue) → under g.sorted key ≡ keyed head_key key 0 heads
  pub wide : (key : KeyValue) → under g.wide key ≡ keyed wide_key key 0 heads
  pub named : (key : KeyValue) → under g.named key ≡ keyed name_key key 0 heads
  pub wide_named : (key : KeyValue) → under g.wide_named key ≡ keyed wide_name_key key 0 heads

-- the numbers of rules stand under their labels and sorts
pub record AreLabels (g : LabelGroups) (labels : List Label) : Type 0 where
  pub sorted : (key : KeyValue) → under g.sorted key ≡ keyed rule_key key 0 labels
  pub named : (key : KeyValue) → under g.named key ≡ keyed label_key key 0 labels

-- the numbers of operators stand under their names, numbers of holes and sorts
pub record AreOperators (g : OperatorGroups) (operators : List Operator) : Type 0 where
  pub sorted : (key : KeyValue) → under g.sorted key ≡ keyed operator_key key 0 operators
  pub counted : (key : KeyValue) → under g.counted key ≡ keyed prefix_key key 0 operators

-- an index is the one of these names and operators
pub record IsIndexOf (i : Index) (names : Names) (spelled : List Operator) : Type 0 where
  pub heads : AreHeads i.heads names.heads
  pub labels : AreLabels i.labels names.labels
  pub operators : AreOperators i.operators spelled

-- ---- what is found by a number

-- the item of the first of these numbers, with its number
abbrev pub found : {A : Type 0} → List A → List ℕ → Option (ℕ × A)
found xs [] = None
found xs (n ∷ ns) = option_map (λ x. (n, x)) (slice_get xs n)

-- whether the first of these numbers is below this one
abbrev pub below_first : ℕ → List ℕ → Bool
below_first n [] = false
below_first n (k ∷ ks) = nat_lt k n

-- a definition that was found, with its number
abbrev pub seen_found : Found → ℕ × Head
seen_found d = (d.number, d.head.now)
