use Rattle.std.proofs.Common.{◌∙◌, ap, map}
use Rattle.std.proofs.lemmas.List.{take_at}
use Rattle.elan_modules.proofs.FlattenLemmas.{stops_answered, gives_told, gives_alone, untouched_alone, needed_at_fault}
use Rattle.elan_modules.proofs.OrderLemmas.{result_ordered}
use Rattle.elan_modules.proofs.entry.flatten.Goals as goal

pub returns-clause-told : goal.returns-clause-told
returns-clause-told g c =
    let is = rw c.as_mut_slice.ensures.value at c.flatten_with.ensures.walks in gives_told _ _ _ _ _ _ is

pub returns-clause-alone : goal.returns-clause-alone
returns-clause-alone g c = gives_alone _ _ _ _ _ _ c.flatten_with.ensures.walks

pub returns-clause-needed : goal.returns-clause-needed
returns-clause-needed g c = needed_at_fault _ _ _ _ _ _ c.flatten_with.ensures.walks

pub returns-clause-untouched : goal.returns-clause-untouched
returns-clause-untouched g c = λ none.
    let is = rw c.as_mut_slice.ensures.value at c.flatten_with.ensures.walks in
    let same = untouched_alone _ _ _ _ _ _ is none in
    let whole = take_at c.flatten_with.new.loaders _ _ (c.flatten_with.auto.loaders ∙ c.as_mut_slice.ensures.len) in
    (ap (map _) whole ∙ same.misses, ap (map _) whole ∙ same.failures)

pub returns-clause-answered : goal.returns-clause-answered
returns-clause-answered g c =
    let is = rw c.as_mut_slice.ensures.value at c.flatten_with.ensures.walks in stops_answered _ _ _ _ _ _ is

pub returns-clause-ordered : goal.returns-clause-ordered
returns-clause-ordered g c =
    let is = rw c.as_mut_slice.ensures.value at c.flatten_with.ensures.walks in
    let one = stops_answered _ _ _ _ _ _ is in result_ordered one.0 _ _ _ _ one.2
