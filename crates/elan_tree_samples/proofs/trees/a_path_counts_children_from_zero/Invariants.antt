use Rattle.elan_tree_samples.proofs.trees.a_path_counts_children_from_zero.Given as goal

-- the posts that were just made
abbrev pub ghosts-path_after : goal.ghosts-path_after
ghosts-path_after g a = record { shelves = a.blank }
