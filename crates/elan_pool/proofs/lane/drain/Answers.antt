use Rattle.std.proofs.Common.{ap, ◌∙◌}
use native.Mathlib.Omega.{arith}
use Rattle.crossbeam_deque.specs.Handles.{worker_view, worker_port}
use Rattle.elan_pool.specs.Balance.{numbers, weigh}
use Rattle.elan_pool.specs.declared.rule.Tally.{Tally}
use Rattle.elan_pool.proofs.Balances.{takes, drained, one_more, all_taken}
use Rattle.elan_pool.proofs.lane.drain.Goals as goal

pub pop_as-requires-clause-fifo : goal.pop_as-requires-clause-fifo
pop_as-requires-clause-fifo g c = λ _. takes (worker_port c.loop.lane) (worker_view c.loop.lane) (let p = c.loop.invariant.1 in omega (arith, p))

pub pop_as-requires-clause-lifo : goal.pop_as-requires-clause-lifo
pop_as-requires-clause-lifo g c = λ h. absurd (let e = c.loop.invariant.0 in omega (arith, h, e))

pub pop_as-requires-clause-empty : goal.pop_as-requires-clause-empty
pop_as-requires-clause-empty g c = drained g.row.B.Denot (worker_port c.loop.lane) (worker_view c.loop.lane) c.loop.invariant.1

pub returns-in-None : goal.returns-in-None
returns-in-None g c = λ h. all_taken h (worker_view c.loop.lane) (worker_view c.args.lane) (numbers c.args.left.now.items) (numbers c.loop.left.items) c.loop.invariant.2 c.in-None.ensures.rule.1 (c.loop.invariant.3 h)

pub loop-preserved : goal.loop-preserved
loop-preserved g c = (
  c.in-Some.ensures.same.0.1 ∙ c.loop.invariant.0,
  ap (λ (v : Tally). v.parts) c.in-Some.ensures.rule ∙ c.loop.invariant.1,
  ap (λ (v : Tally). v.put) c.in-Some.ensures.rule ∙ c.loop.invariant.2,
  λ h. one_more h (worker_view c.loop.lane) _ (worker_view c.args.lane).taken c.in-Some.spot c.loop.left.items c.push.new.self.items (weigh h (numbers c.args.left.now.items)) c.in-Some.ensures.rule c.in_ok-push-in-Some.ensures.items (c.loop.invariant.3 h),
)
