use Rattle.std.proofs.Common.{◌∙◌, ap}
use Rattle.elan_numbers.specs.Numbering.{number_of}
use Rattle.elan_signature.specs.Declarations.{sort_text}
use Rattle.elan_signature.proofs.scope.Scope.counted_at.Goals as goal

pub returns : goal.returns
returns c =
    c.number_of.ensures.value
    ∙ ap (λ bytes. number_of bytes c.self.inside.counted.now) (c.as_bytes.ensures ∙ c.in_ok-name.ensures)
    ∙ ap (λ s. number_of (sort_text s c.args.span) s.counted) c.self.view_is
