use Rattle.elan_tree_samples.proofs.trees.a_place_that_grew_has_no_path.Given as goal

-- the posts that were just made
abbrev pub ghosts-path_after : goal.ghosts-path_after
ghosts-path_after g a = record { shelves = a.blank }
