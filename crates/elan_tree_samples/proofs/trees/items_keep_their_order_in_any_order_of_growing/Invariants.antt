use Rattle.elan_tree_samples.proofs.trees.items_keep_their_order_in_any_order_of_growing.Given as goal

-- the posts that were just made
abbrev pub ghosts-script : goal.ghosts-script
ghosts-script g a = record { shelves = a.blank }
