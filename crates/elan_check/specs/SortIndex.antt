-- When an index agrees with the sorts of a signature.
use Rattle.std.specs.Prelude.{◌≡◌, Option, Some}
use Rattle.elan_text.specs.declared.name.Name.{Name}
use Rattle.elan_program.specs.declared.signature.Signature.{Signature}
use Rattle.elan_names.specs.declared.groups.Groups.{Groups}
use Rattle.elan_names.specs.Groups.{KeyValue, under, by_name}
use Rattle.elan_names.specs.Indexed.{keyed}

-- the key of a sort, which is its name
abbrev pub sort_key : Name → Option KeyValue
sort_key name = Some (by_name name.bytes)

-- the numbers of the sorts stand under their names
abbrev pub AreSorts : Groups → Signature → Type 0
AreSorts index g = (key : KeyValue) → under index key ≡ keyed sort_key key 0 g.sorts
