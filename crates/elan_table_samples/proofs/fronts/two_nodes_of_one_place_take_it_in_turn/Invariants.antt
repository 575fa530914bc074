use Rattle.elan_table_samples.proofs.fronts.two_nodes_of_one_place_take_it_in_turn.Given as goal

-- the rows that were just made
abbrev pub ghosts-shared : goal.ghosts-shared
ghosts-shared g a = record { root = a.blank.0; shapes = a.blank.1 }
