use Rattle.std.proofs.Common.{arith}
use Rattle.elan_syntax.specs.Grammar.{module_text}
use Rattle.elan_syntax.proofs.ExactStreams.{module_gives}
use Rattle.elan_syntax.proofs.Whole.{value_found, value_only, stop_refuses, stop_none}
use Rattle.elan_syntax.proofs.entry.module_outline.Goals as goal

pub returns-in-Ok-clause-found : goal.returns-in-Ok-clause-found
returns-in-Ok-clause-found c =
    let read = rw (
      c.new-reader.ensures.at,
      c.new-reader.ensures.rest,
      c.as_slice.ensures.value,
      c.in_ok-lexemes.ensures.value,
    ) at c.in-Ok.ensures in
    value_found (module_text c.args.name.now) (module_gives c.args.name.now c.requires.name) _ c.in-Ok.outline _ _ read

pub returns-in-Ok-clause-only : goal.returns-in-Ok-clause-only
returns-in-Ok-clause-only c =
    let read = rw (
      c.new-reader.ensures.at,
      c.new-reader.ensures.rest,
      c.as_slice.ensures.value,
      c.in_ok-lexemes.ensures.value,
    ) at c.in-Ok.ensures in
    value_only (module_text c.args.name.now) (module_gives c.args.name.now c.requires.name) _ c.in-Ok.outline _ _ read

pub returns-clause-none : goal.returns-clause-none
returns-clause-none c =
    let read = rw (
      c.new-reader.ensures.at,
      c.new-reader.ensures.rest,
      c.as_slice.ensures.value,
      c.in_ok-lexemes.ensures.value,
    ) at c.in-Err.ensures in
    rw (c.stop.ensures) (stop_none (module_text c.args.name.now) (module_gives c.args.name.now c.requires.name) _ _ _ _ c.in-Err.halt read (omega (arith, c.left.ensures)))

pub returns-clause-refused : goal.returns-clause-refused
returns-clause-refused c =
    let read = rw (
      c.new-reader.ensures.at,
      c.new-reader.ensures.rest,
      c.as_slice.ensures.value,
      c.in_ok-lexemes.ensures.value,
    ) at c.in-Err.ensures in
    rw (c.stop.ensures) (stop_refuses (module_text c.args.name.now) (module_gives c.args.name.now c.requires.name) _ _ _ _ c.in-Err.halt read (omega (arith, c.left.ensures)))
