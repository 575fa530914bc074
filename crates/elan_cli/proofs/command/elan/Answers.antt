use Rattle.std.proofs.Common.{◌∙◌, ap₂}
use Rattle.clap.specs.Words.{with_rule}
use Rattle.elan_cli.proofs.command.elan.Goals as goal

pub returns : goal.returns
returns c =
    c.in_ok-command-5.ensures.shape c.flag.ensures.own
    ∙ ap₂ with_rule (c.in_ok-command-4.ensures.shape c.option-4.ensures.own
    ∙ ap₂ with_rule (c.in_ok-command-3.ensures.shape c.option-3.ensures.own
    ∙ ap₂ with_rule (c.in_ok-command-2.ensures.shape c.option-2.ensures.own
    ∙ ap₂ with_rule (c.in_ok-command.ensures.shape c.option.ensures.own
    ∙ ap₂ with_rule c.bare.ensures c.option.ensures.rule)
    c.option-2.ensures.rule)
    c.option-3.ensures.rule)
    c.option-4.ensures.rule)
    c.flag.ensures.rule
