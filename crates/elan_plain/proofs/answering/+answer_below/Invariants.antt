use Rattle.elan_plain.proofs.answering.+answer_below.Given as goal

abbrev pub decreases-answer_below : goal.decreases-answer_below
decreases-answer_below l = l.level
