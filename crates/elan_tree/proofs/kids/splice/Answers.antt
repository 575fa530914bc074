use Rattle.std.proofs.Common.{◌≡◌, ◌+◌, sym, ◌∙◌, ap, subst, arith, vec_len}
use Rattle.elan_tree.specs.Normal.{NotCat}
use Rattle.elan_tree.specs.Tree as T
use Rattle.elan_tree.specs.Shape.{tree_of}
use Rattle.elan_tree.specs.Moves.{join}
use Rattle.elan_tree.specs.Kids.{width, parts}
use Rattle.elan_tree.proofs.KidsLemmas.{trees-append, count-trees, not_cat, parts-other, width-other}
use Rattle.elan_tree.proofs.kids.splice.Goals as goal

pub append_within-requires : goal.append_within-requires
append_within-requires g c =
    let e : T.Cat (T.trees c.in-Cat.more.items) ≡ c.args.kid = sym (ap tree_of c.in-Cat.is) ∙ c.kid.view_is in
    let f = ap width e in
    omega (arith, c.requires, f, count-trees c.in-Cat.more.items, c.in-Cat.more.ok.0)

pub returns-in-Cat-clause-items : goal.returns-in-Cat-clause-items
returns-in-Cat-clause-items g c =
    let e : T.Cat (T.trees c.in-Cat.more.items) ≡ c.args.kid = sym (ap tree_of c.in-Cat.is) ∙ c.kid.view_is in
    ap T.trees c.append_within.ensures.items ∙ trees-append c.args.out.now.items c.in-Cat.more.items ∙ ap (λ t. join (T.trees c.args.out.now.items) (parts t)) e

pub returns-in-Cat-clause-len : goal.returns-in-Cat-clause-len
returns-in-Cat-clause-len g c =
    let e : T.Cat (T.trees c.in-Cat.more.items) ≡ c.args.kid = sym (ap tree_of c.in-Cat.is) ∙ c.kid.view_is in
    let f = ap width e in
    omega (arith, c.append_within.ensures.len, f, count-trees c.in-Cat.more.items, c.in-Cat.more.ok.0)

pub returns-in_default : goal.returns-in_default
returns-in_default g c =
    let not : NotCat c.args.kid = subst NotCat c.kid.view_is (not_cat c.kid.inside.shape c.in_default.not-Cat) in
    record {
      items =
          ap T.trees c.push_within.ensures.items ∙ trees-append c.args.out.now.items _
          ∙ ap (λ t. join (T.trees c.args.out.now.items) (T.more t T.none)) c.kid.view_is
          ∙ ap (join (T.trees c.args.out.now.items)) (sym (parts-other c.args.kid not));
      len = c.push_within.ensures.len ∙ ap (λ n. vec_len c.args.out.now + n) (sym (width-other c.args.kid not));
      capacity = c.push_within.ensures.capacity;
    }
