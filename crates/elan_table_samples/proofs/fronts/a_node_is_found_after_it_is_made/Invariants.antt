use Rattle.elan_table_samples.proofs.fronts.a_node_is_found_after_it_is_made.Given as goal

-- the rows that were just made
abbrev pub ghosts-found : goal.ghosts-found
ghosts-found g a = record { root = a.blank.0; shapes = a.blank.1 }
