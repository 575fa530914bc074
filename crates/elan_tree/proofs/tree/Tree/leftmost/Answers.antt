use Rattle.std.proofs.Common.{◌≡◌, sym, ◌∙◌, ap}
use Rattle.std.specs.Prelude.{Some}
use Rattle.elan_tree.specs.Places.{first_place}
use Rattle.elan_tree.specs.Standing.{Standing}
use Rattle.elan_tree.specs.Marks.{Place}
use Rattle.elan_tree.proofs.Over.{first_place_over, image}
use Rattle.elan_tree.proofs.tree.Tree.leftmost.Goals as goal

pub returns-in-Some : goal.returns-in-Some
returns-in-Some g c =
    let again : c.again.result ≡ c.in-Some.place.now.spot = c.again.ensures ∙ ap (λ (p : Place _). p.spot) c.place.view_is in
    ap Some again ∙ ap (image (λ (p : Place _). p.spot)) c.in-Some.ensures ∙ sym (first_place_over (λ (p : Place _). p.spot) c.self.inside.node)
    ∙ ap (λ (s : Standing _ _ _). first_place s.tree) c.self.view_is

pub returns-in-None : goal.returns-in-None
returns-in-None g c =
    ap (image (λ (p : Place _). p.spot)) c.in-None.ensures ∙ sym (first_place_over (λ (p : Place _). p.spot) c.self.inside.node)
    ∙ ap (λ (s : Standing _ _ _). first_place s.tree) c.self.view_is
