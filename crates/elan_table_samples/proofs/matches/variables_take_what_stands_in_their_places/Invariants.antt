use Rattle.elan_table_samples.proofs.matches.variables_take_what_stands_in_their_places.Given as goal

-- the rows that were just made
abbrev pub ghosts-answers : goal.ghosts-answers
ghosts-answers g a = record { root = a.blank.0; shapes = a.blank.1 }
