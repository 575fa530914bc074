use Rattle.elan_reader.proofs.ReaderLemmas.{reads_well}
use Rattle.elan_reader.proofs.laws.chart_reads_well.Goals as goal

pub returns : goal.returns
returns c = λ g text sound h. reads_well g text sound h
