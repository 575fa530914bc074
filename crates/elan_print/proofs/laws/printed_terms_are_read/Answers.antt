use Rattle.elan_print.proofs.ReadBack.{reads_back, text_cut}
use Rattle.elan_print.proofs.laws.printed_terms_are_read.Goals as goal

pub returns-clause-tokens : goal.returns-clause-tokens
returns-clause-tokens c = reads_back

pub returns-clause-text : goal.returns-clause-text
returns-clause-text c = text_cut
