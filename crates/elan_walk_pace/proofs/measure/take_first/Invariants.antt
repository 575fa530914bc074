use Rattle.elan_walk_pace.proofs.measure.take_first.Given as goal

-- the rows that were just made
abbrev pub ghosts-run : goal.ghosts-run
ghosts-run g a = record { root = a.blank.0; shapes = a.blank.1 }
