-- `clap` takes the words of a line that is not refused, and reads under each option the value that they give it.
use Rattle.std.proofs.Common.{◌≡◌, ◌∙◌, ◌≤◌, ◌&&◌, ◌||◌, ℕ, Bool, true, false, zero, suc, cond, List}
use Rattle.std.proofs.Common.{[], ◌∷◌, ◌++◌, length, refl, sym, ap, ap₂, arith, Option, Some, None, codes}
use Rattle.std.specs.List.{list_any}
use Rattle.std.specs.Option.{option_map_or, option_or}
use Rattle.std.specs.Str.{bytes_eq}
use Rattle.std.proofs.lemmas.List.Folds.{list_any-append}
use Rattle.clap.specs.Walk.{Held, Row, Text, Walk, arg_by_id, arg_by_long, first_of, has_row, option, pushed, reacted}
use Rattle.clap.specs.Walk.{settled, used, walk, walk_from, walked}
use Rattle.clap.specs.Simple.{Shape}
use Rattle.clap.specs.Takes.{settle_passes, turn_passes, use_passes, walk_passes}
use Rattle.elan_cli.specs.Words.{Word, begins_with_dash, value_part}
use Rattle.elan_cli.specs.Settings.{is_flag, name_of, named, names}
use Rattle.elan_cli.specs.Line.{begins_with_value, first_mistake, has_flag, has_setting, mistake, mistake_in_flag}
use Rattle.elan_cli.specs.Line.{mistake_in_name, mistake_in_setting, mistake_in_value, mistake_without_value}
use Rattle.elan_cli.specs.Line.{value_at, value_of, wanted}
use Rattle.elan_cli.specs.declared.fault.WordsRefusal.TheVariants.{Unknown}
use Rattle.elan_cli.specs.declared.setting.Setting.{Setting}
use Rattle.elan_cli.proofs.Rows.{first_of-absent, has_row-more, same_text}
use Rattle.elan_cli.proofs.NameLemmas.{dashes-dashless, dashes-flag, flag-dashless, long_of-dashless, long_of-flag}
use Rattle.elan_cli.proofs.NameLemmas.{long_of-named, named-names, names-dashless, names-flag, names-other}
use Rattle.elan_cli.proofs.NameLemmas.{short_of-dashless, wants-flag}
use Rattle.elan_cli.proofs.Steps.{cond_none, cond_some, flag_row, flagging, not_plain, not_true, option_row, or_none}
use Rattle.elan_cli.proofs.Steps.{plain_not, taking, use-flag, use-option, used-flag, used-option, value_after}
use Rattle.elan_cli.proofs.Steps.{value_after-flag, value_after-option, valued-none, wanted-push, wants-dashless}
use Rattle.elan_cli.proofs.Steps.{wants-joined}

-- the command's rules, as far as the walk reads them
pub record IsElan (top : Shape) : Type 0 where
  pub by_id : (s : Setting) → arg_by_id top.rules (name_of s) ≡ Some (taking (name_of s))
  pub by_long : (s : Setting) → arg_by_long top.rules (name_of s) ≡ Some (taking (name_of s))
  pub flag : arg_by_long top.rules (codes "plain") ≡ Some flagging

-- the rows that are there once the pending option is used
abbrev pub rows_in : Shape → Held → List Row
rows_in top h = (settled top.rules h).rows

-- between two words of which the next is no value: what is pending may be used,
-- and the rows are those of the words so far
pub record Stands (top : Shape) (before : List Word) (h : Held) : Type 0 where
  pub settles : settle_passes top.rules top.args_override_self h ≡ true
  pub used_so_far : (s : Setting) → has_setting s before ≡ has_row (name_of s) (rows_in top h)
  pub flag_so_far : has_flag before ≡ has_row (codes "plain") (rows_in top h)

-- the walk over the words that follow passes, and reads what they say
pub record Reads (top : Shape) (h : Held) (after : List Word) : Type 0 where
  pub passes : walk_passes top [] (walk_from h) after ≡ true
  pub settles : settle_passes top.rules top.args_override_self (walk top.rules [] h after).held ≡ true
  pub stopped : (walk top.rules [] h after).stopped ≡ None
  pub values : (s : Setting)
      → first_of (name_of s) (rows_in top (walk top.rules [] h after).held) ≡ value_after s (rows_in top h) after

module _ (top : Shape) (elan : IsElan top) where
  -- ---- one word

  abbrev joined : Setting → Word → Held → Held
  joined s v h = reacted top.rules (taking (name_of s)) (v ∷ []) h

  abbrev flagged : Held → Held
  flagged h = reacted top.rules flagging [] h

  -- the option stands, and waits for its value
  abbrev waiting : Setting → Held → Held
  waiting s h = record (settled top.rules h) { pending = Some (name_of s, []) }

  abbrev waiting_walk : Setting → Held → Walk
  waiting_walk s h = record (walk_from (waiting s h)) { waiting = option (name_of s) }

  abbrev given : Setting → Word → Held → Held
  given s v h = record (settled top.rules h) { pending = Some (name_of s, v ∷ []) }

  walked-joined : (s : Setting) (word v : Word) (h : Held) → names s word ≡ true → value_part word ≡ Some v
      → walked top.rules [] (walk_from h) word ≡ walk_from (joined s v h)
  unfolding walked
  walked-joined s word v h n is = let f = long_of-named s word n in rw (f.1, f.0, is, elan.by_long s) refl

  walked-bare : (s : Setting) (word : Word) (h : Held) → names s word ≡ true → value_part word ≡ None
      → walked top.rules [] (walk_from h) word ≡ waiting_walk s h
  unfolding walked
  walked-bare s word h n is = let f = long_of-named s word n in rw (f.1, f.0, is, elan.by_long s) refl

  walked-flag : (word : Word) (h : Held) → is_flag word ≡ true
      → walked top.rules [] (walk_from h) word ≡ walk_from (flagged h)
  unfolding walked
  walked-flag word h e = rw (dashes-flag word e, long_of-flag word e, elan.flag) refl

  walked-value : (s : Setting) (v : Word) (h : Held) → begins_with_dash v ≡ false
      → walked top.rules [] (waiting_walk s h) v ≡ walk_from (given s v h)
  unfolding walked
  walked-value s v h e =
      rw (dashes-dashless v e, long_of-dashless v e, short_of-dashless v e, elan.by_id s, same_text (name_of s)) refl

  turn-joined : (s : Setting) (word v : Word) (h : Held) → names s word ≡ true → value_part word ≡ Some v
      → settle_passes top.rules top.args_override_self h ≡ true → has_row (name_of s) (rows_in top h) ≡ false
      → turn_passes top [] (walk_from h) word ≡ true
  turn-joined s word v h n is settles absent =
      let f = long_of-named s word n in
      let fits = use-option top.args_override_self (name_of s) v (rows_in top h) absent in
      rw (f.1, f.0, is, elan.by_long s, settles, fits) refl

  turn-bare : (s : Setting) (word : Word) (h : Held) → names s word ≡ true → value_part word ≡ None
      → settle_passes top.rules top.args_override_self h ≡ true → turn_passes top [] (walk_from h) word ≡ true
  turn-bare s word h n is settles =
      let f = long_of-named s word n in rw (f.1, f.0, is, elan.by_long s, settles) refl

  turn-flag : (word : Word) (h : Held) → is_flag word ≡ true → settle_passes top.rules top.args_override_self h ≡ true
      → has_row (codes "plain") (rows_in top h) ≡ false → turn_passes top [] (walk_from h) word ≡ true
  turn-flag word h e settles absent =
      let fits = use-flag top.args_override_self (rows_in top h) absent in
      rw (dashes-flag word e, long_of-flag word e, elan.flag, settles, fits) refl

  turn-value : (s : Setting) (v : Word) (h : Held) → begins_with_dash v ≡ false
      → turn_passes top [] (waiting_walk s h) v ≡ true
  turn-value s v h e = rw (dashes-dashless v e, long_of-dashless v e, short_of-dashless v e) refl

  -- ---- what holds between two words

  either-more : (p : Word → Bool) (before : List Word) (word : Word)
      → list_any p (before ++ word ∷ []) ≡ (list_any p before || (p word || false))
  either-more p before word = list_any-append p before (word ∷ [])

  or-nothing : (b : Bool) → (b || (false || false)) ≡ b
  or-nothing true = refl
  or-nothing false = refl

  -- behind a word that names the option, once its value is among the rows
  stands-option : (s : Setting) (before : List Word) (word v : Word) (h next : Held) → Stands top before h
      → names s word ≡ true
      → is_flag word ≡ false → settle_passes top.rules top.args_override_self next ≡ true
      → rows_in top next ≡ rows_in top h ++ option_row (name_of s) v ∷ [] → Stands top (before ++ word ∷ []) next
  stands-option s before word v h next here n plain settles rows = record {
    settles = settles;
    used_so_far = λ t.
        either-more (names t) before word
        ∙ ap₂ (λ (a b : Bool). a || (b || false)) (here.used_so_far t) (names-other s t word n)
        ∙ sym (has_row-more (name_of t) (rows_in top h) (option_row (name_of s) v))
        ∙ ap (has_row (name_of t)) (sym rows);
    flag_so_far =
        either-more is_flag before word
        ∙ ap₂ (λ (a b : Bool). a || (b || false)) here.flag_so_far (plain ∙ sym (not_plain s))
        ∙ sym (has_row-more (codes "plain") (rows_in top h) (option_row (name_of s) v))
        ∙ ap (has_row (codes "plain")) (sym rows);
  }

  -- behind a value
  stands-value : (before : List Word) (v : Word) (h : Held) → Stands top before h → begins_with_dash v ≡ false
      → Stands top (before ++ v ∷ []) h
  stands-value before v h here e = record {
    settles = here.settles;
    used_so_far = λ t.
        either-more (names t) before v
        ∙ ap (λ (b : Bool). has_setting t before || (b || false)) (names-dashless t v e)
        ∙ or-nothing (has_setting t before) ∙ here.used_so_far t;
    flag_so_far =
        either-more is_flag before v
        ∙ ap (λ (b : Bool). has_flag before || (b || false)) (flag-dashless v e)
        ∙ or-nothing (has_flag before) ∙ here.flag_so_far;
  }

  -- behind the flag
  stands-flag : (before : List Word) (word : Word) (h next : Held) → Stands top before h → is_flag word ≡ true
      → settle_passes top.rules top.args_override_self next ≡ true → rows_in top next ≡ rows_in top h ++ flag_row ∷ []
      → Stands top (before ++ word ∷ []) next
  stands-flag before word h next here e settles rows = record {
    settles = settles;
    used_so_far = λ t.
        either-more (names t) before word
        ∙ ap₂ (λ (a b : Bool). a || (b || false)) (here.used_so_far t) (names-flag t word e ∙ sym (plain_not t))
        ∙ sym (has_row-more (name_of t) (rows_in top h) flag_row)
        ∙ ap (has_row (name_of t)) (sym rows);
    flag_so_far =
        either-more is_flag before word
        ∙ ap₂ (λ (a b : Bool). a || (b || false)) here.flag_so_far (e ∙ sym (same_text (codes "plain")))
        ∙ sym (has_row-more (codes "plain") (rows_in top h) flag_row)
        ∙ ap (has_row (codes "plain")) (sym rows);
  }

  -- ---- from what follows to the whole

  over-one : (h next : Held) (word : Word) (rest : List Word)
      → walked top.rules [] (walk_from h) word ≡ walk_from next
      → turn_passes top [] (walk_from h) word ≡ true
      → ((t : Setting) → value_after t (rows_in top next) rest ≡ value_after t (rows_in top h) (word ∷ rest))
      → Reads top next rest → Reads top h (word ∷ rest)
  unfolding walk_passes
  over-one h next word rest goes passes same found =
      let far : walk top.rules [] h (word ∷ rest) ≡ walk top.rules [] next rest =
      ap (λ (w : Walk). Rattle.std.specs.List.fold (walked top.rules []) w rest) goes in
      record {
        passes = ap₂ (λ (b : Bool) (w : Walk). b && walk_passes top [] w rest) passes goes ∙ found.passes;
        settles = ap (λ (w : Walk). settle_passes top.rules top.args_override_self w.held) far ∙ found.settles;
        stopped = ap (λ (w : Walk). w.stopped) far ∙ found.stopped;
        values = λ t. ap (λ (w : Walk). first_of (name_of t) (rows_in top w.held)) far ∙ found.values t ∙ same t;
      }

  over-two : (h next : Held) (middle : Walk) (word v : Word) (rest : List Word)
      → walked top.rules [] (walk_from h) word ≡ middle
      → turn_passes top [] (walk_from h) word ≡ true → walked top.rules [] middle v ≡ walk_from next
      → turn_passes top [] middle v ≡ true
      → ((t : Setting) → value_after t (rows_in top next) rest ≡ value_after t (rows_in top h) (word ∷ v ∷ rest))
      → Reads top next rest → Reads top h (word ∷ v ∷ rest)
  unfolding walk_passes
  over-two h next middle word v rest goes passes on passes_on same found =
      let far : walk top.rules [] h (word ∷ v ∷ rest) ≡ walk top.rules [] next rest =
      ap (λ (w : Walk). Rattle.std.specs.List.fold (walked top.rules []) w (v ∷ rest)) goes
      ∙ ap (λ (w : Walk). Rattle.std.specs.List.fold (walked top.rules []) w rest) on in
      record {
        passes = ap₂ (λ (b : Bool) (w : Walk). b && walk_passes top [] w (v ∷ rest)) passes goes
            ∙ ap₂ (λ (b : Bool) (w : Walk). b && walk_passes top [] w rest) passes_on on ∙ found.passes;
        settles = ap (λ (w : Walk). settle_passes top.rules top.args_override_self w.held) far ∙ found.settles;
        stopped = ap (λ (w : Walk). w.stopped) far ∙ found.stopped;
        values = λ t. ap (λ (w : Walk). first_of (name_of t) (rows_in top w.held)) far ∙ found.values t ∙ same t;
      }

  -- ---- the words of a line that is not refused

  -- what is said of fewer words
  abbrev Fewer : Bool → ℕ → Type 0
  Fewer plain n = (before : List Word) (h : Held) (after : List Word) → length after ≤ n → wanted before ≡ None
      → Stands top before h
      → first_mistake plain before after ≡ None → Reads top h after

  after-flag : (plain : Bool) (n : ℕ) → Fewer plain n
      → (before : List Word) (h : Held) (word : Word) (rest : List Word) → length rest ≤ n
      → Stands top before h → is_flag word ≡ true → mistake_in_flag before ≡ None
      → first_mistake plain (before ++ word ∷ []) rest ≡ None → Reads top h (word ∷ rest)
  after-flag plain n fewer before h word rest small here e none later =
      let absent : has_row (codes "plain") (rows_in top h) ≡ false =
      sym here.flag_so_far ∙ (cond_some (has_flag before) _ None none).0 in
      let rows : rows_in top (flagged h) ≡ rows_in top h ++ flag_row ∷ [] = used-flag (rows_in top h) absent in
      over-one h (flagged h) word rest (walked-flag word h e) (turn-flag word h e here.settles absent)
      (λ t. ap (λ rs. value_after t rs rest) rows ∙ value_after-flag t word (rows_in top h) rest e)
      (fewer (before ++ word ∷ []) (flagged h) rest small (wanted-push before word ∙ wants-flag word e)
      (stands-flag before word h (flagged h) here e refl rows) later)

  after-joined : (plain : Bool) (n : ℕ) → Fewer plain n
      → (before : List Word) (h : Held) (s : Setting) (word v : Word) (rest : List Word) → length rest ≤ n
      → Stands top before h → names s word ≡ true → is_flag word ≡ false → value_part word ≡ Some v
      → has_setting s before ≡ false
      → first_mistake plain (before ++ word ∷ []) rest ≡ None → Reads top h (word ∷ rest)
  after-joined plain n fewer before h s word v rest small here name no_flag is once later =
      let absent : has_row (name_of s) (rows_in top h) ≡ false = sym (here.used_so_far s) ∙ once in
      let next = joined s v h in
      let rows : rows_in top next ≡ rows_in top h ++ option_row (name_of s) v ∷ [] =
      used-option (name_of s) v (rows_in top h) absent in
      let own : (t : Setting) → bytes_eq (name_of s) (name_of t) ≡ true → value_of t (word ∷ rest) ≡ Some v =
      λ t e. ap₂ (λ (b : Bool) (o : Option Word). cond b (option_or o (Rattle.elan_cli.specs.Line.first rest))
      (value_of t rest)) (names-other s t word name ∙ e) is in
      let other : (t : Setting) → bytes_eq (name_of s) (name_of t) ≡ false
      → value_of t (word ∷ rest) ≡ value_of t rest =
      λ t e. ap (λ (b : Bool). cond b (value_at word rest) (value_of t rest)) (names-other s t word name ∙ e) in
      over-one h next word rest (walked-joined s word v h name is)
      (turn-joined s word v h name is here.settles absent)
      (λ t. ap (λ rs. value_after t rs rest) rows
      ∙ value_after-option s t v (rows_in top h) (word ∷ rest) rest absent (own t) (other t))
      (fewer (before ++ word ∷ []) next rest small (wanted-push before word ∙ wants-joined word v is)
      (stands-option s before word v h next here name no_flag refl rows) later)

  after-bare : (plain : Bool) (n : ℕ) → Fewer plain n
      → (before : List Word) (h : Held) (s : Setting) (word : Word) (rest : List Word) → length rest ≤ n
      → Stands top before h → names s word ≡ true → is_flag word ≡ false → value_part word ≡ None
      → has_setting s before ≡ false
      → begins_with_value rest ≡ true → first_mistake plain (before ++ word ∷ []) rest ≡ None
      → Reads top h (word ∷ rest)
  after-bare plain n fewer before h s word [] small here name no_flag is once value later = absurd (cc)
  after-bare plain n fewer before h s word (v ∷ rest) small here name no_flag is once value later =
      let absent : has_row (name_of s) (rows_in top h) ≡ false = sym (here.used_so_far s) ∙ once in
      let dashless = not_true (begins_with_dash v) value in
      let next = given s v h in
      let again = top.args_override_self in
      let used_rows : rows_in top next ≡ used (taking (name_of s)) (v ∷ []) (rows_in top h) =
      ap (λ o. Rattle.clap.specs.Walk.used_by_id o (v ∷ []) (rows_in top h)) (elan.by_id s) in
      let rows : rows_in top next ≡ rows_in top h ++ option_row (name_of s) v ∷ [] =
      used_rows ∙ used-option (name_of s) v (rows_in top h) absent in
      let settles : settle_passes top.rules again next ≡ true =
      ap (λ o. option_map_or (λ a. use_passes again a (v ∷ []) (rows_in top h)) o true) (elan.by_id s)
      ∙ use-option again (name_of s) v (rows_in top h) absent in
      let own : (t : Setting) → bytes_eq (name_of s) (name_of t) ≡ true → value_of t (word ∷ v ∷ rest) ≡ Some v =
      λ t e. ap₂ (λ (b : Bool) (o : Option Word). cond b (option_or o (Some v)) (value_of t (v ∷ rest)))
      (names-other s t word name ∙ e) is in
      let other : (t : Setting) → bytes_eq (name_of s) (name_of t) ≡ false
      → value_of t (word ∷ v ∷ rest) ≡ value_of t rest =
      λ t e. ap (λ (b : Bool). cond b (value_at word (v ∷ rest)) (value_of t (v ∷ rest)))
      (names-other s t word name ∙ e)
      ∙ ap (λ (b : Bool). cond b (value_at v rest) (value_of t rest)) (names-dashless t v dashless) in
      let on = (or_none (mistake plain (before ++ word ∷ []) v rest) _ later).1 in
      over-two h next (waiting_walk s h) word v rest (walked-bare s word h name is)
      (turn-bare s word h name is here.settles)
      (walked-value s v h dashless) (turn-value s v h dashless)
      (λ t. ap (λ rs. value_after t rs rest) rows
      ∙ value_after-option s t v (rows_in top h) (word ∷ v ∷ rest) rest absent (own t) (other t))
      (fewer ((before ++ word ∷ []) ++ v ∷ []) next rest (omega arith) (wanted-push (before ++ word ∷ []) v
      ∙ wants-dashless v dashless)
      (stands-value (before ++ word ∷ []) v next
      (stands-option s before word v h next here name no_flag settles rows) dashless) on)

  after-option : (plain : Bool) (n : ℕ) → Fewer plain n
      → (before : List Word) (h : Held) (s : Setting) (word : Word) (rest : List Word) → length rest ≤ n
      → Stands top before h → names s word ≡ true → is_flag word ≡ false
      → mistake_in_setting plain before s word rest ≡ None
      → first_mistake plain (before ++ word ∷ []) rest ≡ None → Reads top h (word ∷ rest)
  after-option plain n fewer before h s word rest small here name no_flag none later =
      let split = cond_some (has_setting s before) _ _ none in
      go split.0 (value_part word) refl split.1
    where
      go : has_setting s before ≡ false → (o : Option Word) → value_part word ≡ o
          → option_map_or (mistake_in_value plain (length before) s) o (mistake_without_value (length before) rest)
          ≡ None → Reads top h (word ∷ rest)
      go once (Some v) is fine = after-joined plain n fewer before h s word v rest small here name no_flag is once later
      go once None is fine =
          after-bare plain n fewer before h s word rest small here name no_flag is once
          (cond_none (begins_with_value rest) _ fine) later

  after-word : (plain : Bool) (n : ℕ) → Fewer plain n
      → (before : List Word) (h : Held) (word : Word) (rest : List Word) → length rest ≤ n
      → Stands top before h → mistake_in_name plain before word rest ≡ None
      → first_mistake plain (before ++ word ∷ []) rest ≡ None → Reads top h (word ∷ rest)
  after-word plain n fewer before h word rest small here none later = go (is_flag word) refl (named word) refl none
    where
      go : (b : Bool) → is_flag word ≡ b → (o : Option Setting) → named word ≡ o
          → cond b (mistake_in_flag before)
          (option_map_or (λ s. mistake_in_setting plain before s word rest) o (Some (Unknown (length before))))
          ≡ None
          → Reads top h (word ∷ rest)
      go true flag o name fine = after-flag plain n fewer before h word rest small here flag fine later
      go false flag None name fine = absurd (cc)
      go false flag (Some s) name fine =
          after-option plain n fewer before h s word rest small here (named-names word s name) flag fine later

  nothing-left : (h : Held) → settle_passes top.rules top.args_override_self h ≡ true → Reads top h []
  unfolding walk_passes
  nothing-left h settles = record {
    passes = refl;
    settles = settles;
    stopped = refl;
    values = λ t. go t (has_row (name_of t) (rows_in top h)) refl;
  }
    where
      go : (t : Setting) (b : Bool) → has_row (name_of t) (rows_in top h) ≡ b
          → first_of (name_of t) (rows_in top h) ≡ cond b (first_of (name_of t) (rows_in top h)) None
      go t true e = refl
      go t false e = first_of-absent (name_of t) (rows_in top h) e

  pub line-read : (plain : Bool) (n : ℕ) → Fewer plain n
  line-read plain n before h [] small free here none = nothing-left h here.settles
  line-read plain zero before h (word ∷ rest) small free here none = absurd (omega arith)
  line-read plain (suc n) before h (word ∷ rest) small free here none =
      let split = or_none (mistake plain before word rest) _ none in
      let fine : mistake_in_name plain before word rest ≡ None =
      sym (ap (λ o. option_map_or (λ s. mistake_in_value plain (length before) s word) o
      (mistake_in_name plain before word rest))
      (valued-none before word free)) ∙ split.0 in
      after-word plain n (line-read plain n) before h word rest (omega arith) here fine split.1
