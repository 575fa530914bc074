use Rattle.std.proofs.Common.{sym, append-nil}
use Rattle.elan_terms.proofs.MatchLemmas.{occurrences-int}
use Rattle.elan_terms.proofs.occurrence.+occurrences.Goals as goal

pub occurrences_onto-returns-in-Int : goal.occurrences_onto-returns-in-Int
occurrences_onto-returns-in-Int t c = rw (occurrences-int _ _ c.in-Int.is) (sym (append-nil _))
