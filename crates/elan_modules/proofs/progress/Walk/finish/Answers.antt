use Rattle.std.proofs.Common.{◌≡◌, ◌++◌, ◌∷◌, [], sym, ap}
use Rattle.elan_modules.specs.Fitting.{HasOrigin}
use Rattle.elan_modules.specs.Walking.{IsIndexed, IsWalk}
use Rattle.elan_modules.proofs.Indexes.{indexed_more, popped}
use Rattle.elan_modules.proofs.FlatLemmas.{walk_finished}
use Rattle.elan_modules.proofs.progress.Walk.finish.Goals as goal

pub invariant_of-self-in-Ok : goal.invariant_of-self-in-Ok
invariant_of-self-in-Ok c =
    let whole = indexed_more c.self.inside.keys c.self.inside.done c.in_ok-instance.instance c.self.invariant.indexed in
    let named : c.in_ok-instance.instance.name ≡ c.args.reference.now.name = ap (λ i. i.name) c.in_ok-instance.ensures in
    let given : c.in_ok-instance.instance.args ≡ c.args.reference.now.args = ap (λ i. i.args) c.in_ok-instance.ensures in
    let indexed : IsIndexed c.add.new.self (c.self.inside.done ++ c.in_ok-instance.instance ∷ []) =
    λ key. rw (c.in-Ok.ensures.ok, c.as_slice-2.ensures.value, c.in_ok-key.ensures, c.as_slice.ensures, sym named, sym given) (whole key) in
    let texts : c.self.inside.texts ≡ c.args.self.now.texts = ap (λ w. w.texts) c.self.view_is in
    let origin : HasOrigin c.self.inside.texts c.in_ok-instance.instance =
    rw (c.in_ok-instance.ensures, texts) c.requires in
    rw c.in_ok-push.ensures.ok
    (walk_finished c.self.inside.keys _ c.self.inside.texts c.self.inside.done _ c.self.invariant indexed origin)

pub invariant_of-self-in-Err : goal.invariant_of-self-in-Err
invariant_of-self-in-Err c =
    rw (c.in-Err.ensures.err) (popped (IsWalk c.self.inside.keys c.self.inside.texts) c.self.inside.done _ _
    c.in_ok-instance.instance _ c.self.invariant c.in_ok-push.ensures.ok c.pop.ensures)
