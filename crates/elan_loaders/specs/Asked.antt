-- What a loader in memory was asked for.
use Rattle.std.specs.Prelude.{ℕ, List, map, string_bytes}
use Rattle.elan_loaders.specs.declared.memory.MemoryLoader.{MemoryLoader}

-- the names that it was asked for so far, in order
abbrev pub names_asked : MemoryLoader → List (List ℕ)
names_asked loader = map string_bytes loader.asked.items
