use Rattle.elan_pool.specs.Deques.{deques_of}
use Rattle.elan_pool_samples.proofs.shares.shared.Given as goal

-- the deques that were just made
abbrev pub ghosts-shared_out : goal.ghosts-shared_out
ghosts-shared_out g a = record { deques = deques_of a.deques }
