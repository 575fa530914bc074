use Rattle.std.proofs.Common.{◌∙◌, ap}
use Rattle.clap.specs.Words.{first_of, found_of, is_simple, matches_of, takes}
use Rattle.clap.proofs.WalkLemmas.{first_value-rows}
use Rattle.elan_cli.specs.Settings.{name_of}
use Rattle.elan_cli.specs.Words.{texts}
use Rattle.elan_cli.proofs.CommandLemmas.{is_simple-elan, matches-elan, takes-elan}
use Rattle.elan_cli.proofs.command.matches.Goals as goal

pub unreachable-requires : goal.unreachable-requires
unreachable-requires c =
    let words = texts c.args.words.now in
    let taken = ap (λ a. takes a words) c.in_ok-command.ensures ∙ takes-elan c.args.plain words c.requires in
    c.in_default.not-OutOfMemory (c.kind.ensures ∙ c.in-Err.ensures.passes taken)

pub returns-in-Ok : goal.returns-in-Ok
returns-in-Ok c =
    let words = texts c.args.words.now in
    let found = c.in-Ok.ensures.matches (ap is_simple c.in_ok-command.ensures ∙ is_simple-elan) in
    λ s. first_value-rows (found_of c.in-Ok.matches) (name_of s)
    ∙ ap (first_of (name_of s)) (found.0 ∙ ap (λ a. matches_of a words) c.in_ok-command.ensures)
    ∙ matches-elan c.args.plain words c.requires s
