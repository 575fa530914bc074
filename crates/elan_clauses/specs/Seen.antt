-- Which words were seen.
use Rattle.std.specs.Prelude.{Bool}
use Rattle.elan_program.specs.Soundness.{is_some_list}
use Rattle.elan_names.specs.declared.groups.Groups.{Groups}
use Rattle.elan_names.specs.Names.{Word}
use Rattle.elan_names.specs.Groups.{under, by_name}

-- a word was seen, under which a number stands
abbrev pub has_seen : Groups → Word → Bool
has_seen seen word = is_some_list (under seen (by_name word))
