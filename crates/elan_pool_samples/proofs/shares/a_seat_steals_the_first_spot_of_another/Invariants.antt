use Rattle.elan_pool_samples.proofs.shares.a_seat_steals_the_first_spot_of_another.Given as goal

-- the posts that were just made
abbrev pub ghosts-shared : goal.ghosts-shared
ghosts-shared g a = record { shelves = a.blank }
