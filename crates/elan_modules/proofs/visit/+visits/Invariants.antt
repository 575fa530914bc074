use Rattle.std.proofs.Common.{◌+◌, ◌-◌, ◌*◌, length, Result}
use Rattle.elan_modules.specs.declared.flat.FlattenRefusal.{FlattenRefusal}
use Rattle.elan_modules.specs.Walking.{Walk, Keeps}
use Rattle.elan_modules.specs.Visits as spec
use Rattle.elan_modules.specs.Walks.{Stock, Walks, stock}
use Rattle.elan_modules.proofs.visit.+visits.Given as goal

-- a path becomes longer; on one path the references of a module are visited, then one of them, then it is begun
abbrev pub decreases-complete : goal.decreases-complete
decreases-complete g l = 4 * (257 - length l.path.now) + 1

abbrev pub decreases-visit : goal.decreases-visit
decreases-visit g l = 4 * (257 - length l.path.now) + 2

abbrev pub decreases-visit_all : goal.decreases-visit_all
decreases-visit_all g l = 4 * (257 - length l.path.now) + 3

-- what the walk comes to from here with the references that are left, it comes to from the first one with all of them;
-- and the texts that were there when it began stand at their numbers
abbrev pub invariant-visit_all-references : goal.invariant-visit_all-references
invariant-visit_all-references g l = record {
  whole : (t : Stock) (view : Unit {0} → Walk) (result : Result (Unit {0}) FlattenRefusal)
      → Walks (λ library. spec.visit_all (spec.visit (256 - length l.path) library) l.path l.walk l.left)
      (stock g.L.Loader.library g.L.Loader.misses g.L.Loader.failures l.loaders l.walk.texts) t view result
      → Walks (λ library. spec.visit_all (spec.visit (256 - length l.path) library) l.path l.fn.walk l.references)
      (stock g.L.Loader.library g.L.Loader.misses g.L.Loader.failures l.fn.loaders l.fn.walk.texts) t view result;
  kept : Keeps l.fn.walk.texts l.walk.texts;
}

abbrev pub decreases-visit_all-references : goal.decreases-visit_all-references
decreases-visit_all-references g l = length l.left
