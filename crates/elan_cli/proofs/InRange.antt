-- The numbers of options stand in their ranges.
use Rattle.std.proofs.Common.{◌≡◌, ◌<◌, ◌≤◌, ℕ, Bool, true, false, cond, List, Option, Some, None, refl, subst, arith, [], nat_lt, nat_le, ◌&&◌, is_some, unwrap_or, option_and_then}
use Rattle.std.specs.Str.Parse.{digits_value}
use Rattle.elan_cli.specs.Words.{Word, is_numeral, in_range, number}
use Rattle.elan_cli.specs.Settings.{most, usual_steps}
use Rattle.elan_cli.specs.Line.{first_mistake, given, is_plain, options_of, read, value_of}
use Rattle.elan_cli.specs.Ranges.{IsWithin, IsNoneOrWithin, AreInRange}
use Rattle.elan_cli.specs.declared.given.Options.{Options}
use Rattle.elan_cli.specs.declared.setting.Setting.{Setting}
use Rattle.elan_cli.specs.declared.setting.Setting.TheVariants.{Workers, Limit, Steps, Demo}

-- what is written in a range lies in it
range_within : (greatest : ℕ) (digits : Word) → IsNoneOrWithin greatest (in_range greatest digits)
range_within greatest digits = go (nat_lt 0 n) (nat_le n greatest) refl refl
  where
    n : ℕ
    n = digits_value 10 digits

    go : (a b : Bool) → nat_lt 0 n ≡ a → nat_le n greatest ≡ b → IsNoneOrWithin greatest (cond (a && b) (Some n) None)
    go true true some few = (grind (arith, some), grind (arith, few))
    go true false some few = tt
    go false b some few = tt

number_within : (greatest : ℕ) (text : Word) → IsNoneOrWithin greatest (number greatest text)
number_within greatest text = go (is_numeral text)
  where
    go : (b : Bool) → IsNoneOrWithin greatest (cond b (in_range greatest text) None)
    go true = range_within greatest text
    go false = tt

-- so is what words give an option
given_within : (plain : Bool) (s : Setting) (words : List Word) → IsNoneOrWithin (most plain s) (given plain s words)
given_within plain s words = go (value_of s words)
  where
    go : (v : Option Word) → IsNoneOrWithin (most plain s) (option_and_then (number (most plain s)) v)
    go None = tt
    go (Some text) = number_within (most plain s) text

-- and what stands where nothing is given
or_usual : (greatest usual : ℕ) (o : Option ℕ) → IsNoneOrWithin greatest o → IsWithin greatest usual → IsWithin greatest (unwrap_or o usual)
or_usual greatest usual None given here = here
or_usual greatest usual (Some n) given here = given

usual_within : (plain : Bool) → IsWithin (most plain Steps) (usual_steps plain)
usual_within true = (grind arith, grind arith)
usual_within false = (grind arith, grind arith)

pub read_within : (plain : Bool) (words : List Word) → AreInRange plain (read plain words)
read_within plain words = record {
  workers = or_usual (most plain Workers) 1 (given plain Workers words) (given_within plain Workers words) (grind arith, grind arith);
  limit = or_usual (most plain Limit) 1000000 (given plain Limit words) (given_within plain Limit words) (grind arith, grind arith);
  steps = or_usual (most plain Steps) (usual_steps plain) (given plain Steps words) (given_within plain Steps words) (usual_within plain);
  demo = given_within plain Demo words;
}

-- the options of an accepted line stand in their ranges
pub options_within : (plain : Bool) (words : List Word) (o : Options) → options_of plain words ≡ Some o → AreInRange (is_plain plain words) o
unfolding options_of
options_within plain words o is = go (is_some (first_mistake (is_plain plain words) [] words)) is
  where
    go : (b : Bool) → cond b None (Some (read (is_plain plain words) words)) ≡ Some o → AreInRange (is_plain plain words) o
    go true e = absurd cc
    go false e =
        let same : read (is_plain plain words) words ≡ o = cc in
        subst (AreInRange (is_plain plain words)) same (read_within (is_plain plain words) words)
