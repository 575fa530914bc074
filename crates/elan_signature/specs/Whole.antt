-- The signature of a flat program, or its first refusal.
use Rattle.std.specs.Prelude.{◌≡◌, ℕ, ◌&&◌, cond, None, Result, Ok, Err, List, [], map}
use Rattle.std.specs.List.{list_all, flat_map}
use Rattle.elan_text.specs.declared.name.Name.{Name}
use Rattle.elan_text.specs.declared.refusal.Code.TheVariants.{E10}
use Rattle.elan_text.specs.declared.refusal.Refusal.{Refusal}
use Rattle.elan_lexer.specs.Places.{first_place}
use Rattle.elan_modules.specs.declared.flat.Flat.{Flat}
use Rattle.elan_program.specs.declared.signature.Operator.{Operator}
use Rattle.elan_program.specs.declared.signature.Signature.{Signature}
use Rattle.elan_program.specs.Soundness.{is_sound_operator, int_fits, truth_fits, leads}
use Rattle.elan_signature.specs.declared.done.Done.{Done}
use Rattle.elan_signature.specs.declared.done.Injection.{Injection}
use Rattle.elan_signature.specs.Outcomes.{next, Checked}
use Rattle.elan_signature.specs.Sorts.{with_instances as sorts_with, with_built_ins}
use Rattle.elan_signature.specs.Declarations.{World}
use Rattle.elan_signature.specs.BuiltIns.{signature_with as blank, with_instances as built_with}
use Rattle.elan_signature.specs.Walk.{walked}
use Rattle.elan_signature.specs.Cycles.{look_cycles}

-- all sorts, numbered in the order of their first declaration
abbrev pub sorts_of : Flat → List Name
sorts_of f = sorts_with f.texts [] f.instances

-- the sorts as they are counted: those of the built-in instances before all others
abbrev pub counted_of : Flat → List Name
counted_of f = sorts_with f.texts (with_built_ins [] f.instances) f.instances

-- the signature of the built-in modules
abbrev pub built_of : Flat → Signature
built_of f = built_with (sorts_of f) (blank (sorts_of f)) f.instances

-- what was done before the first instance
abbrev pub begun : Signature → Done
begun g = record { operators = g.operators; injections = [] }

-- A built-in instance stands on sorts that are there, as it does in each flat program; where it does not, no sort is
-- known at the first place.
unfoldable pub look_operators : Signature → Checked
look_operators g =
    cond (list_all (is_sound_operator g) g.operators && (int_fits g g.int && truth_fits g g.truth)) (Ok tt)
    (Err (record { code = E10; at = first_place; «module» = None }))

-- a signature with the operators of a walk
abbrev pub signature_with : Signature → Done → Signature
signature_with g done = record { sorts = g.sorts; operators = done.operators; int = g.int; truth = g.truth }

-- a signature with the operators of a walk, where nothing is wrong with them
unfoldable pub completed : Signature → List Injection → Result Signature Refusal
completed g injections = next (look_operators g) (λ v. next (look_cycles injections) (λ u. Ok g))

-- what the walk has before it
abbrev pub world_of : Flat → List Name → List Name → World
world_of f sorts counted = record { texts = f.texts; sorts = sorts; counted = counted }

-- the signature of the built-in modules with what is declared
unfoldable pub finished : Flat → List Name → Signature → Result Signature Refusal
finished f counted g =
    next (walked f (world_of f g.sorts counted) (begun g)) (λ done. completed (signature_with g done) done.injections)

-- the signature of a flat program
abbrev pub signature_of : Flat → Result Signature Refusal
signature_of f = finished f (counted_of f) (built_of f)

-- from where to where an injection leads
abbrev pub lead_of : Injection → ℕ × ℕ
lead_of i = (i.from.0, i.to.0)

-- from where to where the injections among the operators lead is what was noted of them
abbrev pub IsNoted : List Operator → List Injection → Type 0
IsNoted operators noted = flat_map (λ o. leads o.pieces o.args o.sort) operators ≡ map lead_of noted
