use Rattle.elan_ac_samples.proofs.look.a_variable_is_bounded_inside_an_argument.Given as goal

-- the rows that were just made
abbrev pub ghosts-answers : goal.ghosts-answers
ghosts-answers g a = record { root = a.blank.0; shapes = a.blank.1 }
