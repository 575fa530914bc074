use Rattle.std.proofs.Common.{sym, ap, ◌∙◌, int_eq, w64}
use Rattle.std.proofs.lemmas.Int.{to_z-of_z}
use Rattle.indexmap.specs.IndexMap.{get_by}
use Rattle.elan_terms.specs.Trees.{int_term}
use Rattle.elan_table.proofs.ShardLemmas.{found_value, same_integers}
use Rattle.elan_table.proofs.shard.Shard.int.Goals as goal

pub returns-in-Some-clause-term : goal.returns-in-Some-clause-term
returns-in-Some-clause-term g c =
    ap (λ t. t.value) c.again.ensures ∙ found_value int_eq same_integers int_term (λ t. t.value) _ c.args.value c.in-Some.own.now c.args.self.now.values (sym (c.in-Some.ensures.value ∙ ap (λ v. get_by (int_eq v) c.args.self.now.whole) (to_z-of_z w64 c.args.value c.ranges.value)))
