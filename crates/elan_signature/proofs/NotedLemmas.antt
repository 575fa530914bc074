-- From where to where the injections among the operators lead is what the walk notes.
use Rattle.std.proofs.Common.{◌≡◌, ◌∙◌, refl, sym, ap, ap₂, subst, ℕ, Option, Some, None, Result, Ok, List, [], ◌∷◌, ◌++◌, map, length, append-nil}
use Rattle.std.proofs.lemmas.Grind.{flat_map-append}
use Rattle.std.proofs.lemmas.List.{map-append}
use Rattle.elan_text.specs.declared.refusal.Refusal.{Refusal}
use Rattle.elan_phrases.specs.declared.span.Span.{Span}
use Rattle.elan_syntax.specs.declared.parts.ModuleOutline.{ModuleOutline}
use Rattle.elan_syntax.specs.declared.parts.OpDecl.{OpDecl}
use Rattle.elan_syntax.specs.declared.parts.Section.{Section}
use Rattle.elan_syntax.specs.declared.parts.Section.TheVariants as section
use Rattle.elan_modules.specs.declared.flat.Flat.{Flat}
use Rattle.elan_modules.specs.declared.flat.Instance.{Instance}
use Rattle.elan_modules.specs.declared.flat.LoadedText.{LoadedText}
use Rattle.elan_modules.specs.declared.flat.Origin.{Origin}
use Rattle.elan_modules.specs.declared.flat.Origin.TheVariants as origin
use Rattle.elan_program.specs.declared.signature.Operator.{Operator}
use Rattle.elan_program.specs.Soundness.{leads}
use Rattle.elan_signature.specs.declared.done.Done.{Done}
use Rattle.elan_signature.specs.Outcomes.{Checked}
use Rattle.elan_signature.specs.Declarations.{Scope, World, operator_at}
use Rattle.elan_signature.specs.Walk.{injection_at, with_declared, with_operator, with_operators, then_still, with_section, with_sections, with_module, with_text, with_origin, with_instances, walked}
use Rattle.elan_signature.specs.Whole.{IsNoted, lead_of}
use Rattle.elan_signature.proofs.OutcomeLemmas.{ok_same, next_ok}

-- where an operator leads
abbrev leads_by : Operator → List (ℕ × ℕ)
leads_by o = leads o.pieces o.args o.sort

-- what is noted of leads are these leads
noted_are : (c : Scope) (s : Span) (ls : List (ℕ × ℕ)) → map lead_of (map (injection_at c s) ls) ≡ ls
noted_are c s [] = refl
noted_are c s (l ∷ ls) = ap (λ t. l ∷ t) (noted_are c s ls)

abbrev pub Noted : Done → Type 0
Noted d = IsNoted d.operators d.injections

-- one more operator
declared_noted : (c : Scope) (s : Span) (d : Done) (o : Operator) → Noted d → Noted (with_declared c s d o)
declared_noted c s d o is =
    flat_map-append leads_by d.operators (o ∷ [])
    ∙ ap₂ (λ xs ys. xs ++ ys) is (append-nil (leads_by o) ∙ sym (noted_are c s (leads_by o)))
    ∙ sym (map-append lead_of d.injections (map (injection_at c s) (leads_by o)))

-- a step of the walk keeps it
abbrev Keeps : (Done → Result Done Refusal) → Type 0
Keeps step = (d e : Done) → step d ≡ Ok e → Noted d → Noted e

one_noted : (c : Scope) (d : OpDecl) → Keeps (λ done. with_operator c done d)
one_noted c d done e is noted = let found = next_ok (operator_at c (length done.operators) d) _ e is in
    subst Noted (ok_same found.2) (declared_noted c d.spelling done found.0 noted)

operators_noted : (c : Scope) (ds : List OpDecl) → Keeps (λ done. with_operators c done ds)
unfolding with_operators
operators_noted c [] done e is noted = subst Noted (ok_same (is)) noted
operators_noted c (d ∷ ds) done e is noted = let found = next_ok (with_operator c done d) _ e (is) in
    operators_noted c ds found.0 e found.2 (one_noted c d done found.0 found.1 noted)

still_noted : (checked : Checked) → Keeps (λ done. then_still done checked)
still_noted checked done e is noted = let found = next_ok checked _ e is in subst Noted (ok_same found.2) noted

section_noted : (c : Scope) (s : Section) → Keeps (λ done. with_section c done s)
unfolding with_section
section_noted c (section.Imports references) done e is = still_noted _ done e (is)
section_noted c (section.Sorts spans) done e is = still_noted _ done e (is)
section_noted c (section.Operators ds) done e is = operators_noted c ds done e (is)
section_noted c (section.Rules sort vars rules) done e is = still_noted _ done e (is)
section_noted c (section.Strategies sort definitions) done e is = still_noted _ done e (is)

sections_noted : (c : Scope) (ss : List Section) → Keeps (λ done. with_sections c done ss)
unfolding with_sections
sections_noted c [] done e is noted = subst Noted (ok_same (is)) noted
sections_noted c (s ∷ ss) done e is noted = let found = next_ok (with_section c done s) _ e (is) in
    sections_noted c ss found.0 e found.2 (section_noted c s done found.0 found.1 noted)

module_noted : (w : World) (i : Instance) (text : LoadedText) (outline : Option ModuleOutline) → Keeps (λ done. with_module w i done text outline)
module_noted w i text None done e is noted = subst Noted (ok_same is) noted
module_noted w i text (Some outline) done e is noted = sections_noted _ outline.sections done e is noted

text_noted : (w : World) (i : Instance) (number : ℕ) (text : Option LoadedText) → Keeps (λ done. with_text w i done number text)
text_noted w i number None done e is noted = subst Noted (ok_same is) noted
text_noted w i number (Some text) done e is noted = module_noted w i text _ done e is noted

origin_noted : (w : World) (i : Instance) (o : Origin) → Keeps (λ done. with_origin w i done o)
origin_noted w i (origin.Builtin built_in) done e is noted = subst Noted (ok_same is) noted
origin_noted w i (origin.Text text m) done e is noted = text_noted w i m _ done e is noted

instances_noted : (w : World) (is : List Instance) → Keeps (λ done. with_instances w done is)
unfolding with_instances
instances_noted w [] done e is noted = subst Noted (ok_same (is)) noted
instances_noted w (i ∷ more) done e is noted = let found = next_ok (with_origin w i done i.origin) _ e (is) in
    instances_noted w more found.0 e found.2 (origin_noted w i i.origin done found.0 found.1 noted)

pub walked_noted : (f : Flat) (w : World) → Keeps (λ done. walked f w done)
unfolding walked
walked_noted f w done e is noted = let found = next_ok (with_instances w done f.instances) _ e (is) in
    still_noted _ found.0 e found.2 (instances_noted w f.instances done found.0 found.1 noted)
