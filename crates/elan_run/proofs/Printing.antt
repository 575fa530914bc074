-- The signature of a valid program is sound.
use Rattle.std.proofs.Common.{◌≡◌, refl, sym, subst, Bool, true, false, ◌&&◌, length}
use Rattle.std.specs.Prelude.{nat_lt}
use Rattle.std.specs.List.{list_all}
use Rattle.elan_program.specs.declared.program.Parts.{Parts}
use Rattle.elan_program.specs.Soundness.{is_sound, most}
use Rattle.elan_program.specs.Validity.{is_valid, is_valid_rule, is_valid_named, IsValid}

first_holds : (a b : Bool) → a && b ≡ true → a ≡ true
first_holds true b e = refl
first_holds false b e = e

sound_of : (p : Parts) → IsValid p → is_sound p.signature ≡ true
unfolding is_valid
sound_of p valid =
    let few : Bool = nat_lt (length p.rules) most && nat_lt (length p.named) most in
    let each : Bool = list_all (is_valid_rule p) p.rules && list_all (is_valid_named p) p.named in
    first_holds (is_sound p.signature) few (first_holds (is_sound p.signature && few) each valid)

-- the same of parts that are those of the program
pub sound_in : (p parts : Parts) → parts ≡ p → IsValid p → is_sound parts.signature ≡ true
sound_in p parts same valid = subst (λ (q : Parts). is_sound q.signature ≡ true) (sym same) (sound_of p valid)
