use Rattle.elan_tree_samples.proofs.trees.a_settled_tree_stays.Given as goal

-- the posts that were just made
abbrev pub ghosts-settled : goal.ghosts-settled
ghosts-settled g a = record { shelves = a.blank }
