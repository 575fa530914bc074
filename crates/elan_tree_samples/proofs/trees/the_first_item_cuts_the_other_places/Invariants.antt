use Rattle.elan_tree_samples.proofs.trees.the_first_item_cuts_the_other_places.Given as goal

-- the posts that were just made
abbrev pub ghosts-script : goal.ghosts-script
ghosts-script g a = record { shelves = a.blank }
