use Rattle.std.proofs.Common.{Result, Ok, Err, ◌≤◌, ◌+◌, length, take, refl, subst, vec_len}
use Rattle.std.proofs.Math.Nat.{le_trans}
use Rattle.std.specs.Result.{OnErr}
use Rattle.elan_text.specs.Whole.{IsPast, PastWithin}
use Rattle.elan_text.proofs.Fronts.{consumes_both, taken_within, first_few}
use Rattle.elan_text.proofs.whole.read_all.Goals as goal

-- what holds anyway holds where there is an error
on_err_always : {T E P : Type 0} (r : Result T E) → P → OnErr r P
on_err_always (Ok v) p = tt
on_err_always (Err e) p = p

pub returns-in_err-extend_from_slice-in-Bytes-clause-past : goal.returns-in_err-extend_from_slice-in-Bytes-clause-past
returns-in_err-extend_from_slice-in-Bytes-clause-past g c =
    let past : IsPast (g.S.Source.left c.args.source.now) (g.S.Source.left c.read.new.self) =
    (_, consumes_both _ _ _ _ _ c.reads.invariant.0 c.in-Bytes.ensures.gives) in
    on_err_always c.from_residual.result past

pub returns-in_err-extend_from_slice-in-Bytes-clause-most : goal.returns-in_err-extend_from_slice-in-Bytes-clause-most
returns-in_err-extend_from_slice-in-Bytes-clause-most g c =
    let few : c.in-Bytes.count ≤ 16384 = subst (λ n. c.in-Bytes.count ≤ n) c.reads.invariant.3 (c.in-Bytes.ensures.bytes _ refl).0 in
    let count : vec_len c.reads.found ≤ c.args.max = subst (λ n. n ≤ c.args.max) c.len.ensures c.reads-test.true in
    let before : length c.reads.found.items ≤ c.args.max = subst (λ n. n ≤ c.args.max) c.reads.found.ok.0 count in
    let most : PastWithin (c.args.max + 16384) (g.S.Source.left c.args.source.now) (g.S.Source.left c.read.new.self) =
    taken_within _ _ _ _ _ _ _ c.reads.invariant.0 c.in-Bytes.ensures.gives before (le_trans (first_few c.in-Bytes.count c.read.new.buf) few) in
    on_err_always c.from_residual.result most
