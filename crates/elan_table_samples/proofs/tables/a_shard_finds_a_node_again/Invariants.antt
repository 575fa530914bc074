use Rattle.elan_table_samples.proofs.tables.a_shard_finds_a_node_again.Given as goal

-- the rows that were just made
abbrev pub ghosts-one_shard : goal.ghosts-one_shard
ghosts-one_shard g a = record { root = a.blank.0; shapes = a.blank.1 }
