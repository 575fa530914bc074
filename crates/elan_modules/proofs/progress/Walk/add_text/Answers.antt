use Rattle.elan_modules.proofs.FlatLemmas.{walk_loaded, keeps_more, keeps_same}
use Rattle.elan_modules.proofs.progress.Walk.add_text.Goals as goal

pub invariant_of-self-2 : goal.invariant_of-self-2
invariant_of-self-2 c = rw c.in_ok-push.ensures.ok
    (walk_loaded c.self.inside.keys c.self.inside.texts c.self.inside.done c.args.text c.self.invariant c.requires)

pub returns-clause-kept : goal.returns-clause-kept
returns-clause-kept c = rw (← c.self.view_is, c.in_ok-push.ensures.ok) (keeps_more c.self.inside.texts c.args.text)

pub returns-in_err-push-clause-kept : goal.returns-in_err-push-clause-kept
returns-in_err-push-clause-kept c = rw (← c.self.view_is) (keeps_same _ _ c.in_err-push.ensures.err)
