use Rattle.std.proofs.Common.{◌∙◌, ap}
use Rattle.elan_tree.specs.Marks.{Place}
use Rattle.elan_tree.proofs.Finding.{found_at}
use Rattle.elan_tree.proofs.advance.is_there.Goals as goal

pub agrees-requires : goal.agrees-requires
agrees-requires g c =
    let same = found_at c.number.result c.args.node.now c.in-Some.place.now c.in-Some.ensures in
    ap (λ (p : Place _). p.spot.index) c.place.view_is ∙ same ∙ c.number.ensures
