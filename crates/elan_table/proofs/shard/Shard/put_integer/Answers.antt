use Rattle.std.proofs.Common.{rules, sym, ap, ◌∙◌, map, ℕ, ℤ, int_eq, to_z, of_z, w64, SFits}
use Rattle.std.proofs.lemmas.Int.{to_z-of_z}
use Rattle.indexmap.specs.IndexMap.{insert_entry}
use Rattle.std.proofs.lemmas.List.{map_push}
use Rattle.elan_terms.specs.Trees.{int_term}
use Rattle.elan_table.proofs.ShardLemmas.{either_way, keys_push}
use Rattle.indexmap.proofs.CallerLemmas.{insert_entry-new}
use Rattle.elan_table.proofs.shard.Shard.put_integer.Goals as goal

pub invariant_of-self : goal.invariant_of-self
invariant_of-self g c = record {
  keys = c.args.self.now.keys;
  values =
      either_way c.insert.result c.insert.ensures.entries c.insert.ensures.err
      (λ e. keys_push (λ (k : ℤ). int_term k) (λ t. t.value) _ _ c.args.value c.args.own c.args.self.now.values (sym c.requires.row)
      (e ∙ ap (λ v. insert_entry int_eq c.args.self.now.whole.entries v c.args.own) (to_z-of_z w64 c.args.value c.ranges.value) ∙ insert_entry-new int_eq c.args.self.now.whole c.args.value c.args.own c.requires.absent))
      (λ e. ap (map (λ e. int_term e.0)) e ∙ c.args.self.now.values ∙ sym (ap (map (λ e. e.1.value)) e));
}

pub returns-in-Ok-clause-added : goal.returns-in-Ok-clause-added
returns-in-Ok-clause-added g c =
    ap (map (λ e. (e.0, e.1.index))) (c.in-Ok.ensures.entries ∙ ap (λ v. insert_entry int_eq c.args.self.now.whole.entries v c.args.own) (to_z-of_z w64 c.args.value c.ranges.value) ∙ insert_entry-new int_eq c.args.self.now.whole c.args.value c.args.own c.requires.absent)
    ∙ map_push (λ e. (e.0, e.1.index)) _ (c.args.value, c.args.own)
