use Rattle.elan_ac_samples.proofs.shares.the_least_value_after_a_constant_is_a_node.Given as goal

-- the rows that were just made
abbrev pub ghosts-is_found : goal.ghosts-is_found
ghosts-is_found g a = record { root = a.blank.0; shapes = a.blank.1 }
