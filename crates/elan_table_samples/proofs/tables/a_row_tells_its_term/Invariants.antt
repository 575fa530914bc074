use Rattle.elan_table_samples.proofs.tables.a_row_tells_its_term.Given as goal

-- the rows that were just made
abbrev pub ghosts-told : goal.ghosts-told
ghosts-told g a = record { root = a.blank.0; shapes = a.blank.1 }
