use Rattle.elan_ac_samples.proofs.bags.the_calls_answer_with_ample_memory.Given as goal

-- the rows that were just made
abbrev pub ghosts-answers : goal.ghosts-answers
ghosts-answers g a = record { root = a.blank.0; shapes = a.blank.1 }
