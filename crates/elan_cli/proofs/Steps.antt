-- How `clap` walks over the words of a line that is not refused.
use Rattle.std.proofs.Common.{◌≡◌, ◌∙◌, ◌-◌, Bool, true, false, cond, not}
use Rattle.std.proofs.Common.{List, [], ◌∷◌, ◌++◌, length, refl, sym, ap, arith, append-nil, Option, Some, None}
use Rattle.std.proofs.Common.{codes, is_some, length-append}
use Rattle.std.specs.List.{slice_get}
use Rattle.std.specs.Option.{option_and_then, option_or}
use Rattle.std.specs.Str.{bytes_eq}
use Rattle.std.proofs.lemmas.Slice.Eq.{bytes_eq-Decides}
use Rattle.clap.specs.Walk.{Row, Rule, Text, first_of, has_row}
use Rattle.clap.specs.Walk.{more_values, reading_by, used}
use Rattle.clap.specs.Walk.{with_values, without}
use Rattle.clap.specs.Takes.{use_passes}
use Rattle.clap.specs.declared.builder.value_parser.ValueParser.TheVariants as vp
use Rattle.clap.specs.declared.parser.matches.ValueSource.TheVariants.{CommandLine}
use Rattle.elan_cli.specs.Words.{Word, begins_with_dash, value_part}
use Rattle.elan_cli.specs.Settings.{is_flag, name_of, named, wants}
use Rattle.elan_cli.specs.Line.{valued}
use Rattle.elan_cli.specs.Line.{value_of, wanted}
use Rattle.elan_cli.specs.Command.{flag_rule, option_rule}
use Rattle.elan_cli.specs.declared.setting.Setting.{Setting}
use Rattle.elan_cli.specs.declared.setting.Setting.TheVariants.{Workers, Limit, Steps, Demo}
use Rattle.elan_cli.proofs.Rows.{at_row-absent, first_of-other, first_of-own}
use Rattle.elan_cli.proofs.Rows.{has_row-other, has_row-own}
use Rattle.elan_cli.proofs.NameLemmas.{named-dashless}
use Rattle.elan_cli.proofs.NameLemmas.{names-flag}

-- ---- the rules, with what `clap` fills in

abbrev pub taking : Text → Rule
taking name = record (option_rule name) {
  parser = Some vp.String;
  range = Some (record { start_inclusive = 1; end_inclusive = 1 });
}

abbrev pub flagging : Rule
flagging = record flag_rule {
  defaults = codes "false" ∷ [];
  missing = codes "true" ∷ [];
  parser = Some vp.Bool;
  range = Some (record { start_inclusive = 0; end_inclusive = 0 });
}

abbrev pub option_row : Text → Text → Row
option_row name v = record {
  id = name;
  values = v ∷ [];
  count = None;
  source = Some CommandLine;
  reading = reading_by (taking name);
}

abbrev pub flag_row : Row
flag_row = record {
  id = codes "plain";
  values = codes "true" ∷ [];
  count = None;
  source = Some CommandLine;
  reading = reading_by flagging;
}

pub used-option : (name v : Text) (rows : List Row) → has_row name rows ≡ false
    → used (taking name) (v ∷ []) rows ≡ rows ++ option_row name v ∷ []
used-option name v rows e =
    let gone : without name rows ≡ rows = at_row-absent name (λ _. []) [] rows e ∙ append-nil rows in
    ap (with_values name (reading_by (taking name)) CommandLine (v ∷ [])) gone
    ∙ at_row-absent name (more_values CommandLine (v ∷ [])) (option_row name v ∷ []) rows e

pub used-flag : (rows : List Row) → has_row (codes "plain") rows ≡ false
    → used flagging [] rows ≡ rows ++ flag_row ∷ []
used-flag rows e =
    let gone : without (codes "plain") rows ≡ rows =
    at_row-absent (codes "plain") (λ _. []) [] rows e ∙ append-nil rows in
    ap (with_values (codes "plain") (reading_by flagging) CommandLine (codes "true" ∷ [])) gone
    ∙ at_row-absent (codes "plain") (more_values CommandLine (codes "true" ∷ [])) (flag_row ∷ []) rows e

pub use-option : (again : Bool) (name v : Text) (rows : List Row) → has_row name rows ≡ false
    → use_passes again (taking name) (v ∷ []) rows ≡ true
use-option again name v rows e = rw e refl

pub use-flag : (again : Bool) (rows : List Row) → has_row (codes "plain") rows ≡ false
    → use_passes again flagging [] rows ≡ true
use-flag again rows e = rw e refl

-- ---- what is read in the end

-- the value that is read under an option, from these rows and the words that follow
abbrev pub value_after : Setting → List Row → List Word → Option Word
value_after s rows words = cond (has_row (name_of s) rows) (first_of (name_of s) rows) (value_of s words)

pub not_plain : (s : Setting) → bytes_eq (name_of s) (codes "plain") ≡ false
not_plain Workers = refl
not_plain Limit = refl
not_plain Steps = refl
not_plain Demo = refl

pub plain_not : (s : Setting) → bytes_eq (codes "plain") (name_of s) ≡ false
plain_not Workers = refl
plain_not Limit = refl
plain_not Steps = refl
plain_not Demo = refl

-- a row of another name, and words that say the same
pub value_after-other : (t : Setting) (r : Row) (rows : List Row) (words rest : List Word)
    → bytes_eq r.id (name_of t) ≡ false
    → value_of t words ≡ value_of t rest → value_after t (rows ++ r ∷ []) rest ≡ value_after t rows words
value_after-other t r rows words rest e same =
    (λ i. cond (has_row-other (name_of t) rows r e i) (first_of-other (name_of t) rows r e i) (sym same i))

-- the row of the option that the words give this value
pub value_after-own : (s t : Setting) (v : Text) (rows : List Row) (words rest : List Word)
    → bytes_eq (name_of s) (name_of t) ≡ true
    → has_row (name_of s) rows ≡ false → value_of t words ≡ Some v
    → value_after t (rows ++ option_row (name_of s) v ∷ []) rest ≡ value_after t rows words
value_after-own s t v rows words rest e absent is =
    let same : name_of s ≡ name_of t = (bytes_eq-Decides (name_of s) (name_of t)).0 e in
    let r = option_row (name_of s) v in
    let here : has_row (name_of t) (rows ++ r ∷ []) ≡ true =
    ap (λ n. has_row n (rows ++ r ∷ [])) (sym same) ∙ has_row-own rows r absent in
    let value : first_of (name_of t) (rows ++ r ∷ []) ≡ Some v =
    ap (λ n. first_of n (rows ++ r ∷ [])) (sym same) ∙ first_of-own rows r absent in
    let none : has_row (name_of t) rows ≡ false = ap (λ n. has_row n rows) (sym same) ∙ absent in
    (λ i. cond (here i) (value i) (value_of t rest))
    ∙ sym (λ i. cond (none i) (first_of (name_of t) rows) (is i))

pub value_after-option : (s t : Setting) (v : Text) (rows : List Row) (words rest : List Word)
    → has_row (name_of s) rows ≡ false
    → (bytes_eq (name_of s) (name_of t) ≡ true → value_of t words ≡ Some v)
    → (bytes_eq (name_of s) (name_of t) ≡ false → value_of t words ≡ value_of t rest)
    → value_after t (rows ++ option_row (name_of s) v ∷ []) rest ≡ value_after t rows words
value_after-option s t v rows words rest absent own other = go (bytes_eq (name_of s) (name_of t)) refl
  where
    go : (b : Bool) → bytes_eq (name_of s) (name_of t) ≡ b
        → value_after t (rows ++ option_row (name_of s) v ∷ []) rest ≡ value_after t rows words
    go true e = value_after-own s t v rows words rest e absent (own e)
    go false e = value_after-other t (option_row (name_of s) v) rows words rest e (other e)

pub value_after-flag : (t : Setting) (word : Word) (rows : List Row) (rest : List Word) → is_flag word ≡ true
    → value_after t (rows ++ flag_row ∷ []) rest ≡ value_after t rows (word ∷ rest)
value_after-flag t word rows rest e =
    value_after-other t flag_row rows (word ∷ rest) rest (plain_not t) (rw (names-flag t word e) refl)

-- ---- no mistake

pub or_none : {X : Type 0} (o p : Option X) → option_or o p ≡ None → (o ≡ None) × (p ≡ None)
or_none None p e = (refl, e)
or_none (Some x) p e = absurd (cc)

pub cond_some : {X : Type 0} (b : Bool) (x : X) (o : Option X) → cond b (Some x) o ≡ None → (b ≡ false) × (o ≡ None)
cond_some true x o e = absurd (cc)
cond_some false x o e = (refl, e)

pub cond_none : {X : Type 0} (b : Bool) (x : X) → cond b None (Some x) ≡ None → b ≡ true
cond_none true x e = refl
cond_none false x e = absurd (cc)

pub not_true : (b : Bool) → not b ≡ true → b ≡ false
not_true true e = sym e
not_true false e = refl

last-push : (ws : List Word) (w : Word) → slice_get (ws ++ w ∷ []) (length ws) ≡ Some w
last-push [] w = refl
last-push (x ∷ ws) w = last-push ws w

pub wanted-push : (ws : List Word) (w : Word) → wanted (ws ++ w ∷ []) ≡ wants w
wanted-push ws w =
    let n : length (ws ++ w ∷ []) - 1 ≡ length ws = omega (arith, length-append ws (w ∷ [])) in
    ap (option_and_then wants) (ap (slice_get (ws ++ w ∷ [])) n ∙ last-push ws w)

none_either : {X : Type 0} (b : Bool) → cond {A = Option X} b None None ≡ None
none_either true = refl
none_either false = refl

pub wants-dashless : (word : Word) → begins_with_dash word ≡ false → wants word ≡ None
wants-dashless word e =
    ap (λ (o : Option Setting). cond (is_some (value_part word)) None o) (named-dashless word e)
    ∙ none_either (is_some (value_part word))

pub wants-joined : (word v : Word) → value_part word ≡ Some v → wants word ≡ None
wants-joined word v e = ap (λ (o : Option Word). cond (is_some o) None (named word)) e

pub valued-none : (before : List Word) (word : Word) → wanted before ≡ None → valued before word ≡ None
valued-none before word e =
    ap (λ (o : Option Setting). cond (begins_with_dash word) None o) e ∙ none_either (begins_with_dash word)
