use Rattle.elan_program.proofs.sound.+chains.Given as goal

abbrev pub decreases-chains : goal.decreases-chains
decreases-chains l = l.count
