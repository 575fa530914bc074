-- The command takes the words of a line that is not refused, and its matches give the options their values.
use Rattle.std.proofs.Common.{◌≡◌, ◌∙◌, ◌&&◌, Bool, true, false, cond, List, [], ◌∷◌, length, refl, ap}
use Rattle.std.proofs.Common.{ap₂, arith, None, codes}
use Rattle.std.specs.Str.{bytes_eq}
use Rattle.clap.specs.Walk.{Held, Row, Rule, Text, first_of, has_row, more_values, nothing_held, settled, walk}
use Rattle.clap.specs.Walk.{with_default, with_values}
use Rattle.clap.specs.Simple.{App, Shape, built, is_simple, matches_of}
use Rattle.clap.specs.Takes.{level_passes, takes}
use Rattle.clap.specs.declared.parser.matches.ValueSource.TheVariants.{DefaultValue}
use Rattle.clap.proofs.TakesLemmas.{leaf_takes}
use Rattle.elan_cli.specs.Words.{Word}
use Rattle.elan_cli.specs.Settings.{name_of}
use Rattle.elan_cli.specs.Line.{first_mistake, value_of}
use Rattle.elan_cli.specs.Command.{elan}
use Rattle.elan_cli.specs.declared.setting.Setting.{Setting}
use Rattle.elan_cli.specs.declared.setting.Setting.TheVariants.{Workers, Limit, Steps, Demo}
use Rattle.elan_cli.proofs.Rows.{at_row-absent, first_of-other}
use Rattle.elan_cli.proofs.Steps.{flagging, plain_not}
use Rattle.elan_cli.proofs.Walking.{IsElan, Reads, Stands, line-read, rows_in}

abbrev top : Shape
top = (built elan).top

rules_read : IsElan top
rules_read = record { by_id = by_id; by_long = by_long; flag = refl }
  where
    by_id : (s : Setting)
        → Rattle.clap.specs.Walk.arg_by_id top.rules (name_of s)
        ≡ Rattle.std.specs.Prelude.Some (Rattle.elan_cli.proofs.Steps.taking (name_of s))
    by_id Workers = refl
    by_id Limit = refl
    by_id Steps = refl
    by_id Demo = refl

    by_long : (s : Setting)
        → Rattle.clap.specs.Walk.arg_by_long top.rules (name_of s)
        ≡ Rattle.std.specs.Prelude.Some (Rattle.elan_cli.proofs.Steps.taking (name_of s))
    by_long Workers = refl
    by_long Limit = refl
    by_long Steps = refl
    by_long Demo = refl

stands : Stands top [] nothing_held
stands = record { settles = refl; used_so_far = λ s. refl; flag_so_far = refl }

line : (plain : Bool) (words : List Word) → first_mistake plain [] words ≡ None → Reads top nothing_held words
line plain words none = line-read top rules_read plain (length words) [] nothing_held words
    (omega arith) refl stands none

-- ---- the command takes the words

pub is_simple-elan : is_simple elan ≡ true
is_simple-elan = refl

pub takes-elan : (plain : Bool) (words : List Word) → first_mistake plain [] words ≡ None → takes elan words ≡ true
takes-elan plain words none =
    let found = line plain words none in
    let end = (walk top.rules [] nothing_held words).held in
    let level : level_passes top [] nothing_held words false ≡ true =
    ap₂ (λ (a b : Bool). a && (b && true)) found.passes found.settles in
    leaf_takes (built elan) nothing_held words refl level

-- ---- what the matches give

with_default-flag : (s : Setting) (rows : List Row)
    → first_of (name_of s) (with_default rows flagging) ≡ first_of (name_of s) rows
with_default-flag s rows = go (has_row (codes "plain") rows) refl
  where
    go : (b : Bool) → has_row (codes "plain") rows ≡ b
        → first_of (name_of s)
        (cond b rows (with_values (codes "plain") (Rattle.clap.specs.Walk.reading_by flagging) DefaultValue
        (codes "false" ∷ []) rows))
        ≡ first_of (name_of s) rows
    go true e = refl
    go false e =
        ap (first_of (name_of s))
        (at_row-absent (codes "plain") (more_values DefaultValue (codes "false" ∷ [])) _ rows e)
        ∙ first_of-other (name_of s) rows _ (plain_not s)

with_default-none : (a : Rule) (rows : List Row) → a.defaults ≡ [] → with_default rows a ≡ rows
with_default-none a rows e =
    ap (λ (d : List Text). cond (has_row a.id rows) rows
    (Rattle.clap.specs.Walk.default_rows a.id (Rattle.clap.specs.Walk.reading_by a) d rows)) e
    ∙ go (has_row a.id rows)
  where
    go : (b : Bool) → cond b rows rows ≡ rows
    go true = refl
    go false = refl

pub matches-elan : (plain : Bool) (words : List Word) → first_mistake plain [] words ≡ None
    → (s : Setting) → first_of (name_of s) (matches_of elan words) ≡ value_of s words
matches-elan plain words none s =
    let found = line plain words none in
    let rows = rows_in top (walk top.rules [] nothing_held words).held in
    let a = Rattle.elan_cli.proofs.Steps.taking in
    let first : with_default rows (a (name_of Workers)) ≡ rows = with_default-none (a (name_of Workers)) rows refl in
    let second : with_default rows (a (name_of Limit)) ≡ rows = with_default-none (a (name_of Limit)) rows refl in
    let third : with_default rows (a (name_of Steps)) ≡ rows = with_default-none (a (name_of Steps)) rows refl in
    let fourth : with_default rows (a (name_of Demo)) ≡ rows = with_default-none (a (name_of Demo)) rows refl in
    let help = Rattle.clap.specs.Simple.filled Rattle.clap.specs.Simple.help_rule in
    ap (λ (r : List Row). first_of (name_of s)
    (with_default (with_default
    (with_default (with_default (with_default r (a (name_of Limit))) (a (name_of Steps)))
    (a (name_of Demo))) flagging) help)) first
    ∙ ap (λ (r : List Row). first_of (name_of s)
    (with_default (with_default
    (with_default (with_default r (a (name_of Steps))) (a (name_of Demo))) flagging) help)) second
    ∙ ap (λ (r : List Row). first_of (name_of s)
    (with_default (with_default (with_default r (a (name_of Demo))) flagging) help)) third
    ∙ ap (λ (r : List Row). first_of (name_of s) (with_default (with_default r flagging) help)) fourth
    ∙ ap (first_of (name_of s)) (with_default-none help (with_default rows flagging) refl)
    ∙ with_default-flag s rows
    ∙ found.values s
