use Rattle.std.proofs.Common.{◌≡◌, sym, ap, ◌∙◌, map, nat_eq, Some, IsTrue}
use Rattle.std.specs.Cmp.Lexicographic.{pointwise}
use Rattle.std.specs.Option.{option_map}
use Rattle.elan_terms.specs.Trees.{app_term}
use Rattle.elan_table.specs.Rows.{node_key, terms}
use Rattle.elan_table.specs.Shown.{op_of, listed, key_of}
use Rattle.elan_table.proofs.ShardLemmas.{found, same_lists, tail_same, same_application}
use Rattle.elan_table.proofs.shard.Shard.find.Goals as goal

pub agree_all-requires : goal.agree_all-requires
agree_all-requires g c =
    let both = found key_of (pointwise nat_eq) (λ k. app_term (op_of k) (terms (listed k))) (λ t. t.value) _ (key_of c.args.node.now) c.in-Some.key.now c.in-Some.own.now c.args.self.now.keys (sym c.in-Some.ensures.key) (sym c.in-Some.ensures.value) in
    ap (map (λ t. t.index)) c.args-in-Some.ensures ∙ tail_same (sym (same_lists _ _ both.0) ∙ c.requires)

pub returns-in-Some-clause-term : goal.returns-in-Some-clause-term
returns-in-Some-clause-term g c =
    let both = found key_of (pointwise nat_eq) (λ k. app_term (op_of k) (terms (listed k))) (λ t. t.value) _ (key_of c.args.node.now) c.in-Some.key.now c.in-Some.own.now c.args.self.now.keys (sym c.in-Some.ensures.key) (sym c.in-Some.ensures.value) in
    ap (λ t. t.value) c.again.ensures ∙ sym both.1
    ∙ same_application _ c.args.op (listed c.in-Some.key.now) c.args.args.now (sym (same_lists _ _ both.0) ∙ c.requires) (ap terms (sym c.args-in-Some.ensures) ∙ c.agree_all.ensures)
