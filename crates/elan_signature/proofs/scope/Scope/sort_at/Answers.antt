use Rattle.std.proofs.Common.{◌∙◌, ap, subst, Result}
use Rattle.elan_text.specs.declared.refusal.Refusal.{Refusal}
use Rattle.elan_terms.specs.declared.tree.SortId.{SortId}
use Rattle.elan_numbers.specs.Numbering.{number_of}
use Rattle.elan_signature.specs.Declarations.{sort_at, known_at}
use Rattle.elan_signature.specs.Outcomes.{Gives, itself}
use Rattle.elan_signature.proofs.scope.Scope.sort_at.Goals as goal

pub returns : goal.returns
unfolding sort_at
returns c =
    let number =
    c.number_of-number.ensures.value
    ∙ ap (λ bytes. number_of bytes c.self.inside.sorts.now) (c.as_bytes.ensures ∙ c.in_ok-name.ensures) in
    let same = ap (known_at c.self.inside.text.now c.args.span.first) number ∙ ap (λ s. sort_at s c.args.span) c.self.view_is in
    subst (λ (d : Result SortId Refusal). Gives itself c.known_at.result d) same c.known_at.ensures
