use Rattle.elan_tree_samples.proofs.trees.the_path_of_the_root_is_empty.Given as goal

-- the posts that were just made
abbrev pub ghosts-path_after : goal.ghosts-path_after
ghosts-path_after g a = record { shelves = a.blank }
