use Rattle.elan_table_samples.proofs.tables.threads_make_equal_terms_of_equal_nodes.Given as goal

-- the rows that were just made
abbrev pub ghosts-side_by_side : goal.ghosts-side_by_side
ghosts-side_by_side g a = record { root = a.blank.0; shapes = a.blank.1 }
