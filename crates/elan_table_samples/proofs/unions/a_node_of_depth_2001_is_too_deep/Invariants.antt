use Rattle.elan_table_samples.proofs.unions.a_node_of_depth_2001_is_too_deep.Given as goal

-- the rows that were just made
abbrev pub ghosts-deepest : goal.ghosts-deepest
ghosts-deepest g a = record { root = a.blank.0; shapes = a.blank.1 }
