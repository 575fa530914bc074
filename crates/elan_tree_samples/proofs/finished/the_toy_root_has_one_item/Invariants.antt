use Rattle.elan_tree_samples.proofs.finished.the_toy_root_has_one_item.Given as goal

-- the posts that were just made
abbrev pub ghosts-finished : goal.ghosts-finished
ghosts-finished g a = record { shelves = a.blank }
