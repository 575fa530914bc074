use Rattle.elan_table_samples.proofs.unions.nested_unions_are_flat_and_ascend.Given as goal

-- the rows that were just made
abbrev pub ghosts-nested : goal.ghosts-nested
ghosts-nested g a = record { root = a.blank.0; shapes = a.blank.1 }
