use Rattle.elan_modules.proofs.progress.Walk.into_parts.Goals as goal

pub returns-clause-loaded : goal.returns-clause-loaded
returns-clause-loaded c = rw (← c.self.view_is) c.self.invariant.loaded
