use Rattle.std.proofs.Common.{◌≡◌, length, arith, ◌<◌, ◌≤◌}
use Rattle.elan_table.specs.Rows.{terms}
use Rattle.std.specs.Option.{option_copied}
use Rattle.elan_search.proofs.StepLemmas.{grown_rows, back_low, back_whole, length_terms}
use Rattle.elan_search.proofs.place.step.Goals as goal

pub returns-in-Empty : goal.returns-in-Empty
returns-in-Empty g c =
    let fewer : c.len.result < c.count.result = c.if-len-count.true in
    let has : c.len.result ≡ length c.args.done.now = c.len.ensures in
    let all : c.count.result ≡ g.A.Ahead.long c.args.ahead.now = c.count.ensures in
    back_low (g.A.Ahead.lists c.args.ahead.now) (g.A.Ahead.long c.args.ahead.now) (g.met.A.Ahead.all_long c.args.ahead.now)
    c.args.done.now c.as_slice.result.now c.back.new.done c.args.floor.now (option_copied c.as_ref.result) c.back.new.floor c.in_ok-bound.field-0 c.back.result
    (omega arith) c.in_ok-bound.ensures c.as_slice.ensures c.as_ref.ensures.value c.in-Empty.is c.back.ensures

pub returns-in_ok-push-in-At : goal.returns-in_ok-push-in-At
returns-in_ok-push-in-At g c =
    let fewer : c.len.result < c.count.result = c.if-len-count.true in
    let has : c.len.result ≡ length c.args.done.now = c.len.ensures in
    let all : c.count.result ≡ g.A.Ahead.long c.args.ahead.now = c.count.ensures in
    grown_rows (g.A.Ahead.lists c.args.ahead.now) (g.A.Ahead.long c.args.ahead.now) (g.met.A.Ahead.all_long c.args.ahead.now)
    c.args.done.now c.as_slice.result.now c.push.new.self c.args.floor.now (option_copied c.as_ref.result) c.in_ok-bound.field-0 c.in-At.value
    (omega arith) c.in_ok-bound.ensures c.as_slice.ensures c.as_ref.ensures.value c.in-At.is c.in_ok-push-in-At.ensures.ok

pub returns-else-branch : goal.returns-else-branch
returns-else-branch g c =
    let enough : c.count.result ≤ c.len.result = c.if-len-count.false in
    let has : c.len.result ≡ length c.args.done.now = c.len.ensures in
    let all : c.count.result ≡ g.A.Ahead.long c.args.ahead.now = c.count.ensures in
    let within : length (terms c.args.done.now) ≤ g.A.Ahead.long c.args.ahead.now = c.requires.within in
    let count : length (terms c.args.done.now) ≡ length c.args.done.now = length_terms c.args.done.now in
    back_whole (g.A.Ahead.lists c.args.ahead.now) (g.A.Ahead.long c.args.ahead.now) (g.met.A.Ahead.all_long c.args.ahead.now)
    c.args.done.now c.as_slice-else-len-count.result.now c.back-else-branch.new.done c.args.floor.now c.back-else-branch.new.floor c.in_ok-fits.field-0 c.back-else-branch.result
    (omega arith) c.in_ok-fits.ensures c.as_slice-else-len-count.ensures c.if-branch.false c.back-else-branch.ensures
