use Rattle.std.proofs.Common.{◌≡◌, ◌∷◌, map, [], ap, refl}
use Rattle.elan_loaders.proofs.AskLemmas.{first_answers, first_absent, none_fell, first_rose, later_rose, no_items}
use Rattle.elan_loaders.proofs.ask.+ask_all.Goals as goal

pub returns-in_default-clause-answers : goal.returns-in_default-clause-answers
returns-in_default-clause-answers g t c =
    let none : c.args.loaders.now ≡ [] = no_items c.args.loaders.now c.in_default.ensures.cases in
    rw none (refl {a = c.args.into.now.items}, tt)

pub returns-in_default-clause-absent : goal.returns-in_default-clause-absent
returns-in_default-clause-absent g t c =
    let none : c.args.loaders.now ≡ [] = no_items c.args.loaders.now c.in_default.ensures.cases in
    λ is. rw none tt

pub returns-in_default-clause-none : goal.returns-in_default-clause-none
returns-in_default-clause-none g t c =
    let none : c.args.loaders.now ≡ [] = no_items c.args.loaders.now c.in_default.ensures.cases in
    λ is. rw none tt

pub returns-in_default-clause-misses : goal.returns-in_default-clause-misses
returns-in_default-clause-misses g t c = none_fell _

pub returns-in_default-clause-failures : goal.returns-in_default-clause-failures
returns-in_default-clause-failures g t c = none_fell _

pub returns-in-Absent-clause-answers : goal.returns-in-Absent-clause-answers
returns-in-Absent-clause-answers g t c =
    rw c.in-Some.ensures.cases.0 (first_absent _ _ _ _ _ _ _ c.in-Absent.ensures.answers c.ask_all.ensures.answers)

pub returns-in-Absent-clause-failed : goal.returns-in-Absent-clause-failed
returns-in-Absent-clause-failed g t c =
    λ is. rw c.in-Some.ensures.cases.0 (later_rose _ _ _ _ c.fetch.ensures.failures (c.ask_all.ensures.failed is))

pub returns-in_default-fetch : goal.returns-in_default-fetch
returns-in_default-fetch g t c = record {
  answers = rw c.in-Some.ensures.cases.0 (first_answers _ _ _ _ _ _ c.in_default-fetch.not-Absent c.fetch.ensures.answers);
  libraries = rw c.in-Some.ensures.cases.0 (ap (λ x. x ∷ map g.L.Loader.library c.in-Some.rest.now) c.fetch.ensures.library);
  none = λ is. absurd (c.in_default-fetch.not-Absent is);
  absent = λ is. absurd (c.in_default-fetch.not-Absent is);
  failed = λ is. rw c.in-Some.ensures.cases.0 (first_rose _ _ _ (c.fetch.ensures.failed is));
  misses = rw c.in-Some.ensures.cases.0 (c.fetch.ensures.misses, none_fell _);
  failures = rw c.in-Some.ensures.cases.0 (c.fetch.ensures.failures, none_fell _);
}
