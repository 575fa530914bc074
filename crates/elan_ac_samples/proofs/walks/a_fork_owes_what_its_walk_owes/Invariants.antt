use Rattle.elan_ac_samples.proofs.walks.a_fork_owes_what_its_walk_owes.Given as goal

-- the rows that were just made
abbrev pub ghosts-forked : goal.ghosts-forked
ghosts-forked g a = record { root = a.blank.0; shapes = a.blank.1 }
