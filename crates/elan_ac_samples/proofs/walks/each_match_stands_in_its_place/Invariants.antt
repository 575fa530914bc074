use Rattle.elan_ac_samples.proofs.walks.each_match_stands_in_its_place.Given as goal

-- the rows that were just made
abbrev pub ghosts-wrong_row : goal.ghosts-wrong_row
ghosts-wrong_row g a = record { root = a.blank.0; shapes = a.blank.1 }
