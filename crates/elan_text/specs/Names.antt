-- The bytes of a name.
use Rattle.std.specs.Prelude.{ℕ, List}
use Rattle.elan_text.specs.declared.name.Name.{Name}

-- what a name is compared, ordered and hashed by
abbrev pub bytes_of : Name → List ℕ
bytes_of name = name.bytes
