-- What a search answers.
use Rattle.std.specs.Prelude.{◌≡◌, ℕ, List, map, take}
use Rattle.elan_tree.specs.Sense.{Sense}
use Rattle.elan_tree.specs.Standing.{ItemsOfKin}

-- the items mean the first ones of the root's list, up to the limit and in order, and have the root's kin
pub record Firsts {B I K M : Type 0} (w : Sense B I K M) (limit : ℕ) (root : B) (items : List I) : Type 0 where
  pub first : map w.means items ≡ take limit (w.items root)
  pub kin : ItemsOfKin w (w.kin root) items
