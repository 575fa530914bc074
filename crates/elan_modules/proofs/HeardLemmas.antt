-- Definitions that ask for no text.
use Rattle.std.proofs.Common.{◌≡◌, Bool, true, false, cond, length, Option, Some, None, Result, Ok, Err, refl, ℕ, List, nat_lt, ◌+◌}
use Rattle.std.specs.Prelude.{◌==◌}
use Rattle.elan_text.specs.declared.refusal.Code.TheVariants.{E07}
use Rattle.elan_text.specs.declared.name.Name.{Name}
use Rattle.elan_text.specs.declared.refusal.Place.{Place}
use Rattle.elan_syntax.specs.declared.parts.ModuleOutline.{ModuleOutline}
use Rattle.elan_modules.specs.declared.flat.LoadedText.{LoadedText}
use Rattle.elan_modules.specs.declared.flat.Standard.{Standard}
use Rattle.elan_modules.specs.declared.walk.Reference.{Reference}
use Rattle.elan_modules.specs.Walking.{Walk}
use Rattle.elan_modules.specs.Modules.{Found, Opened, opened, first_long, parameters_of, sort_spans, imports_of, parameter_count, standard_imports}
use Rattle.elan_modules.specs.Visits.{Halted, Refuses, Silent, next, with_text, begun_text, begun_standard, measured, text_imports, built_imports, refused_at, loaded, too_long, total, most_bytes}
use Rattle.elan_modules.specs.Walks.{is_silent}

-- it does not come to a name of which nothing is told
abbrev pub Heard : {A : Type 0} → Result A Halted → Type 0
Heard x = is_silent x ≡ false

pub heard_next : {A B : Type 0} (x : Result A Halted) (more : A → Result B Halted) → Heard x
    → ((a : A) → Heard (more a)) → Heard (next x more)
heard_next (Ok a) more here then_ = then_ a
heard_next (Err (Refuses r)) more here then_ = refl
heard_next (Err Silent) more here then_ = absurd cc

pub heard_cond : {A : Type 0} (b : Bool) (x y : Result A Halted) → Heard x → Heard y → Heard (cond b x y)
heard_cond true x y here there = here
heard_cond false x y here there = there

pub heard_text : (walk : Walk) (read : Opened) → Heard (with_text walk read)
heard_text walk (Ok read) = refl
heard_text walk (Err r) = refl

pub heard_loaded : (walk : Walk) (name : Name) (bytes : List ℕ) → Heard (loaded walk name bytes)
heard_loaded walk name bytes = heard_cond (nat_lt most_bytes (total walk.texts + length bytes))
    (Err (Refuses (too_long name))) (with_text walk (opened name bytes)) refl (heard_text walk (opened name bytes))

heard_imports : (r : Reference) (text : LoadedText) (outline : ModuleOutline) → Heard (text_imports r text outline)
unfolding text_imports
heard_imports r text outline = heard_cond (length r.args == length (parameters_of text outline.parameters))
    (measured text (first_long text (parameters_of text outline.parameters) r.args (sort_spans text outline.sections))
    (imports_of text (parameters_of text outline.parameters) r.args outline.sections)) (refused_at E07 r)
    (go (first_long text (parameters_of text outline.parameters) r.args (sort_spans text outline.sections))) refl
  where
    go : (at : Option Place)
        → Heard (measured text at (imports_of text (parameters_of text outline.parameters) r.args outline.sections))
    go (Some at) = refl
    go None = refl

pub heard_begun_text : (r : Reference) (at : Walk × Found) → Heard (begun_text r at)
heard_begun_text r at =
    heard_next (text_imports r at.1.text at.1.outline) _ (heard_imports r at.1.text at.1.outline) (λ imports. refl)

pub heard_standard : (walk : Walk) (r : Reference) (built_in : Standard) → Heard (begun_standard walk r built_in)
heard_standard walk r built_in = heard_next (built_imports r built_in) _
    (heard_cond (length r.args == parameter_count built_in) (Ok (standard_imports built_in r))
    (refused_at E07 r) refl refl)
    (λ imports. refl)
