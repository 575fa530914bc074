use Rattle.std.proofs.Common.{sym, ap, ◌∙◌, map, nat_eq}
use Rattle.std.specs.Cmp.Lexicographic.{pointwise}
use Rattle.std.proofs.lemmas.List.{map_push}
use Rattle.elan_terms.specs.Trees.{app_term}
use Rattle.elan_table.proofs.ShardLemmas.{either_way, keys_push, nothing_there}
use Rattle.elan_table.specs.Rows.{node_key, terms}
use Rattle.elan_table.specs.Shown.{op_of, listed, key_of}
use Rattle.indexmap.proofs.CallerLemmas.{insert_entry-new}
use Rattle.elan_table.proofs.shard.Shard.put.Goals as goal

pub invariant_of-self : goal.invariant_of-self
invariant_of-self g c = record {
  keys =
      either_way c.insert.result c.insert.ensures.entries c.insert.ensures.err
      (λ e. keys_push (λ k. app_term (op_of k) (terms (listed k))) (λ t. t.value) _ _ c.args.node c.args.own c.args.self.now.keys (sym c.requires.row)
      (e ∙ insert_entry-new (λ x y. pointwise nat_eq (key_of x) (key_of y)) c.args.self.now.kept c.args.node c.args.own (nothing_there (λ t. t.index) _ c.requires.absent)))
      (λ e. ap (map (λ e. app_term (op_of e.0) (terms (listed e.0)))) e ∙ c.args.self.now.keys ∙ sym (ap (map (λ e. e.1.value)) e));
  values = c.args.self.now.values;
}

pub returns-in-Ok-clause-added : goal.returns-in-Ok-clause-added
returns-in-Ok-clause-added g c =
    ap (map (λ e. (key_of e.0, e.1.index))) (c.in-Ok.ensures.entries ∙ insert_entry-new (λ x y. pointwise nat_eq (key_of x) (key_of y)) c.args.self.now.kept c.args.node c.args.own (nothing_there (λ t. t.index) _ c.requires.absent))
    ∙ map_push (λ e. (key_of e.0, e.1.index)) _ (c.args.node, c.args.own)
