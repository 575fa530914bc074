use Rattle.elan_phrases.proofs.SortMarks.{sort_first_mark}
use Rattle.elan_phrases.proofs.laws.sixty_fifth_name.Goals as goal

pub returns : goal.returns
returns c = sort_first_mark 64
