use Rattle.elan_ac_samples.proofs.walks.the_first_match_is_found_without_the_others.Given as goal

-- the rows that were just made
abbrev pub ghosts-first_of_many : goal.ghosts-first_of_many
ghosts-first_of_many g a = record { root = a.blank.0; shapes = a.blank.1 }
