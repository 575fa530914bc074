use Rattle.std.proofs.Common.{◌≡◌, refl, ◌∙◌}
use Rattle.elan_modules.proofs.LoadLemmas.{name_utf8, walks_found, walks_absent, walks_failed, walks_hungry}
use Rattle.elan_modules.proofs.load.load.Goals as goal

pub unreachable-requires : goal.unreachable-requires
unreachable-requires g c = absurd (c.in_default.ensures.cases.0 (rw c.as_bytes.ensures (name_utf8 _ c.requires.named)))

pub returns-in-Found-clause-walks : goal.returns-in-Found-clause-walks
returns-in-Found-clause-walks g c =
    let named : c.in-Ok.name.now ≡ c.args.reference.now.name.bytes = c.in-Ok.ensures.cases.0 ∙ c.as_bytes.ensures in
    walks_found c.args.walk.now c.args.reference.now _ _ _
    (record { told = c.ask_all.ensures.libraries; misses = c.ask_all.ensures.misses; failures = c.ask_all.ensures.failures })
    _ _ c.requires.absent refl c.admit.ensures.one c.admit.ensures.own
    (rw (named, c.new-bytes.ensures.items) at c.in-Found.ensures.answers) c.admit.ensures.stays

pub returns-in-Absent-clause-walks : goal.returns-in-Absent-clause-walks
returns-in-Absent-clause-walks g c =
    let named : c.in-Ok.name.now ≡ c.args.reference.now.name.bytes = c.in-Ok.ensures.cases.0 ∙ c.as_bytes.ensures in
    walks_absent c.args.walk.now c.args.reference.now _ _ _
    (record { told = c.ask_all.ensures.libraries; misses = c.ask_all.ensures.misses; failures = c.ask_all.ensures.failures })
    _ _ c.requires.absent (rw (named, c.new-bytes.ensures.items) at c.in-Absent.ensures.answers)
    (c.in-Absent.ensures.absent refl) (rw named at (c.in-Absent.ensures.none refl)) c.refused_at.ensures

pub returns-in-Failed-clause-walks : goal.returns-in-Failed-clause-walks
returns-in-Failed-clause-walks g c =
    walks_failed c.args.walk.now c.args.reference.now _ _ _
    (record { told = c.ask_all.ensures.libraries; misses = c.ask_all.ensures.misses; failures = c.ask_all.ensures.failures })
    c.requires.absent (c.in-Failed.ensures.failed refl)

pub returns-in-NoMemory-clause-walks : goal.returns-in-NoMemory-clause-walks
returns-in-NoMemory-clause-walks g c =
    walks_hungry c.args.walk.now c.args.reference.now _ _ _
    (record { told = c.ask_all.ensures.libraries; misses = c.ask_all.ensures.misses; failures = c.ask_all.ensures.failures })
