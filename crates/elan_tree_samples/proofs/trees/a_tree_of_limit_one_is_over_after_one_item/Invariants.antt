use Rattle.elan_tree_samples.proofs.trees.a_tree_of_limit_one_is_over_after_one_item.Given as goal

-- the posts that were just made
abbrev pub ghosts-script : goal.ghosts-script
ghosts-script g a = record { shelves = a.blank }
