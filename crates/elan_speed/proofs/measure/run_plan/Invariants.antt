use Rattle.elan_speed.proofs.measure.run_plan.Given as goal

-- the rows that were just made
abbrev pub ghosts-run : goal.ghosts-run
ghosts-run g a = record { root = a.blank.0; shapes = a.blank.1 }
