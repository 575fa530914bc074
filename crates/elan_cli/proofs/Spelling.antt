-- What is written as a line is accepted with its meaning, and what is accepted is written as a line.
use Rattle.std.proofs.Common.{◌≡◌, ◌∙◌, ◌≤◌, ◌||◌, ◌&&◌, ℕ, Bool, true, false, zero, suc, cond, not, List, []}
use Rattle.std.proofs.Common.{◌∷◌, ◌++◌, length, take, refl, sym, ap, ap₂, arith, Option, Some, None, codes, is_some}
use Rattle.std.proofs.Common.{unwrap_or}
use Rattle.std.specs.List.{list_any, position_or_len}
use Rattle.std.specs.Option.{option_and_then, option_map_or, option_or}
use Rattle.std.specs.Str.{all_ascii_digits, bytes_eq}
use Rattle.std.specs.Char.{is_ascii_digit}
use Rattle.std.proofs.lemmas.Bool.Decides.{Decides-eqb, nat_tests}
use Rattle.std.proofs.lemmas.List.Folds.{list_any-append}
use Rattle.std.proofs.lemmas.Slice.Eq.{bytes_eq-Decides}
use Rattle.elan_cli.specs.Words.{Word, begins_with_dash, in_range, is_equals, is_numeral, name_part, number}
use Rattle.elan_cli.specs.Words.{value_part}
use Rattle.elan_cli.specs.Settings.{is_flag, most, name_of, named, names, wants, written}
use Rattle.elan_cli.specs.Line.{begins_with_value, first_mistake, has_flag, has_setting, is_plain, mistake}
use Rattle.elan_cli.specs.Line.{mistake_in_flag, mistake_in_name, mistake_in_setting, mistake_in_value}
use Rattle.elan_cli.specs.Line.{mistake_without_value, options_of, read, valued, value_at, value_of}
use Rattle.elan_cli.specs.Line.{wanted}
use Rattle.elan_cli.specs.Uses.{AreUses, Use, apart, asked_by, flag, is_flag_use, is_use_of, joined, line_of, same}
use Rattle.elan_cli.specs.Uses.{value_in}
use Rattle.elan_cli.specs.declared.fault.WordsRefusal.{WordsRefusal}
use Rattle.elan_cli.specs.declared.fault.WordsRefusal.TheVariants.{Unknown, Repeated}
use Rattle.elan_cli.specs.declared.given.Options.{Options}
use Rattle.elan_cli.specs.declared.setting.Setting.{Setting}
use Rattle.elan_cli.specs.declared.setting.Setting.TheVariants.{Workers, Limit, Steps, Demo}
use Rattle.elan_cli.proofs.Rows.{neither, same_text}
use Rattle.elan_cli.proofs.TextLemmas.{with_digits}
use Rattle.elan_cli.proofs.NameLemmas.{flag-dashless, flag_is, name_is, named-names, names-dashless, names-flag}
use Rattle.elan_cli.proofs.NameLemmas.{names-other, value_part-more, wants-flag}
use Rattle.elan_cli.proofs.Steps.{cond_none, cond_some, not_true, or_none, valued-none, wanted-push, wants-dashless}
use Rattle.elan_cli.proofs.Steps.{wants-joined}

-- ---- a value does not begin with `-`

digit-dashless : (b : ℕ) (bs : Word) → is_ascii_digit b ≡ true → begins_with_dash (b ∷ bs) ≡ false
digit-dashless b bs e = grind (arith, nat_tests, e)

both_true : (a b : Bool) → (a && b) ≡ true → (a ≡ true) × (b ≡ true)
both_true true b e = (refl, e)
both_true false b e = absurd (cc)

number-dashless : (m : ℕ) (v : Word) → is_some (number m v) ≡ true → begins_with_dash v ≡ false
number-dashless m v e = go (is_numeral v) refl e
  where
    digits : (w : Word) → all_ascii_digits w ≡ true → begins_with_dash w ≡ false
    digits [] d = refl
    digits (b ∷ bs) d = digit-dashless b bs (both_true (is_ascii_digit b) _ d).0

    go : (b : Bool) → is_numeral v ≡ b → is_some (cond b (in_range m v) None) ≡ true → begins_with_dash v ≡ false
    go true is some = digits v (with_digits v is).1
    go false is some = absurd (cc)

-- ---- the words of a use

pub record IsName (s : Setting) (word : Word) (v : Option Word) : Type 0 where
  pub dash : begins_with_dash word ≡ true
  pub no_flag : is_flag word ≡ false
  pub name : names s word ≡ true
  pub option : named word ≡ Some s
  pub value : value_part word ≡ v

name-apart : (s : Setting) → IsName s (written s) None
name-apart Workers = record { dash = refl; no_flag = refl; name = refl; option = refl; value = refl }
name-apart Limit = record { dash = refl; no_flag = refl; name = refl; option = refl; value = refl }
name-apart Steps = record { dash = refl; no_flag = refl; name = refl; option = refl; value = refl }
name-apart Demo = record { dash = refl; no_flag = refl; name = refl; option = refl; value = refl }

name-joined : (s : Setting) (v : Word) → IsName s (written s ++ 61 ∷ v) (Some v)
name-joined Workers v = record { dash = refl; no_flag = refl; name = refl; option = refl; value = refl }
name-joined Limit v = record { dash = refl; no_flag = refl; name = refl; option = refl; value = refl }
name-joined Steps v = record { dash = refl; no_flag = refl; name = refl; option = refl; value = refl }
name-joined Demo v = record { dash = refl; no_flag = refl; name = refl; option = refl; value = refl }

fine-joined : (plain : Bool) (before : List Word) (word : Word) (after : List Word) (s : Setting) (v : Word)
    → IsName s word (Some v)
    → has_setting s before ≡ false → is_some (number (most plain s) v) ≡ true → mistake plain before word after ≡ None
fine-joined plain before word after s v is once fits = rw (is.dash, is.no_flag, is.option, once, is.value, fits) refl

fine-bare : (plain : Bool) (before : List Word) (word : Word) (after : List Word) (s : Setting) → IsName s word None
    → has_setting s before ≡ false → begins_with_value after ≡ true → mistake plain before word after ≡ None
fine-bare plain before word after s is once begins = rw (is.dash, is.no_flag, is.option, once, is.value, begins) refl

fine-value : (plain : Bool) (before : List Word) (v : Word) (after : List Word) (s : Setting) → wanted before ≡ Some s
    → is_some (number (most plain s) v) ≡ true → mistake plain before v after ≡ None
fine-value plain before v after s wants fits = let dash = number-dashless (most plain s) v fits in rw
    (dash, wants, fits) refl

fine-flag : (plain : Bool) (before : List Word) (after : List Word) → has_flag before ≡ false
    → mistake plain before (codes "--plain") after ≡ None
fine-flag plain before after once = ap (λ (b : Bool). cond b (Some (Repeated (length before))) None) once

-- ---- what stands once

or_right : (a b : Bool) → b ≡ true → (a || b) ≡ true
or_right true b e = refl
or_right false b e = e

more : (p : Word → Bool) (before : List Word) (word : Word) → list_any p before ≡ false → p word ≡ false
    → list_any p (before ++ word ∷ []) ≡ false
more p before word a b = list_any-append p before (word ∷ []) ∙ ap₂ (λ (x y : Bool). x || (y || false)) a b

same_use : (s t : Setting) (us : List Use) → same s t ≡ true → list_any (is_use_of t) us ≡ list_any (is_use_of s) us
same_use s t us e = ap (λ n. list_any (λ u. go n u) us) (sym ((bytes_eq-Decides (name_of s) (name_of t)).0 e)) ∙ refl
  where
    go : Word → Use → Bool
    go n flag = false
    go n (apart r v) = bytes_eq (name_of r) n
    go n (joined r v) = bytes_eq (name_of r) n

-- an option that no use behind is one of is another than those that are used there
other_name : (s t : Setting) (us : List Use) → list_any (is_use_of s) us ≡ false → list_any (is_use_of t) us ≡ true
    → same s t ≡ false
other_name s t us none some = go (same s t) refl
  where
    go : (b : Bool) → same s t ≡ b → b ≡ false
    go false e = refl
    go true e = let clash : true ≡ false = sym some ∙ same_use s t us e ∙ none in absurd (cc)

-- what the words before leave for the uses behind
pub record Leaves (before : List Word) (us : List Use) : Type 0 where
  pub options : (t : Setting) → list_any (is_use_of t) us ≡ true → has_setting t before ≡ false
  pub the_flag : list_any is_flag_use us ≡ true → has_flag before ≡ false

leaves-value : (before : List Word) (v : Word) (us : List Use) → begins_with_dash v ≡ false → Leaves before us
    → Leaves (before ++ v ∷ []) us
leaves-value before v us dash left = record {
  options = λ t e. more (names t) before v (left.options t e) (names-dashless t v dash);
  the_flag = λ e. more is_flag before v (left.the_flag e) (flag-dashless v dash);
}

-- behind a word that names an option
leaves-option : (before : List Word) (word : Word) (s : Setting) (u : Use) (us : List Use) → names s word ≡ true
    → is_flag word ≡ false
    → list_any (is_use_of s) us ≡ false → Leaves before (u ∷ us) → Leaves (before ++ word ∷ []) us
leaves-option before word s u us name no_flag once left = record {
  options = λ t e. more (names t) before word (left.options t (or_right (is_use_of t u) _ e))
      (names-other s t word name ∙ other_name s t us once e);
  the_flag = λ e. more is_flag before word (left.the_flag (or_right (is_flag_use u) _ e)) no_flag;
}

leaves-flag : (before : List Word) (us : List Use) → list_any is_flag_use us ≡ false → Leaves before (flag ∷ us)
    → Leaves (before ++ codes "--plain" ∷ []) us
leaves-flag before us once left = record {
  options = λ t e. more (names t) before (codes "--plain") (left.options t e) (names-flag t (codes "--plain") refl);
  the_flag = λ e. let clash : true ≡ false = sym e ∙ once in absurd (cc);
}

-- ---- what is written as a line is not refused

no_mistake : (plain : Bool) (us : List Use) (before : List Word) → AreUses plain us → wanted before ≡ None
    → Leaves before us
    → first_mistake plain before (line_of us) ≡ None
no_mistake plain [] before are free left = refl
no_mistake plain (flag ∷ us) before are free left =
    ap₂ (λ (o p : Option WordsRefusal). option_or o p) (fine-flag plain before (line_of us) (left.the_flag refl))
    (no_mistake plain us (before ++ codes "--plain" ∷ []) are.1 (wanted-push before (codes "--plain"))
    (leaves-flag before us are.0 left))
no_mistake plain (joined s v ∷ us) before are free left =
    let word = written s ++ 61 ∷ v in
    let name = name-joined s v in
    let once = left.options s (ap (λ (b : Bool). b || list_any (is_use_of s) us) (same_text (name_of s))) in
    ap₂ (λ (o p : Option WordsRefusal). option_or o p)
    (fine-joined plain before word (line_of us) s v name once are.0)
    (no_mistake plain us (before ++ word ∷ []) are.2 (wanted-push before word ∙ wants-joined word v name.value)
    (leaves-option before word s (joined s v) us name.name name.no_flag are.1 left))
no_mistake plain (apart s v ∷ us) before are free left =
    let word = written s in
    let name = name-apart s in
    let dash = number-dashless (most plain s) v are.0 in
    let once = left.options s (ap (λ (b : Bool). b || list_any (is_use_of s) us) (same_text (name_of s))) in
    let wants_it : wanted (before ++ word ∷ []) ≡ Some s =
    wanted-push before word
    ∙ ap₂ (λ (o : Option Word) (p : Option Setting). cond (is_some o) None p) name.value name.option in
    let first = fine-bare plain before word (v ∷ line_of us) s name once (ap not dash) in
    let second = fine-value plain (before ++ word ∷ []) v (line_of us) s wants_it are.0 in
    let rest = no_mistake plain us ((before ++ word ∷ []) ++ v ∷ []) are.2 (wanted-push (before ++ word ∷ []) v
    ∙ wants-dashless v dash)
    (leaves-value (before ++ word ∷ []) v us dash
    (leaves-option before word s (apart s v) us name.name name.no_flag are.1 left)) in
    ap₂ (λ (o p : Option WordsRefusal). option_or o p) first
    (ap₂ (λ (o p : Option WordsRefusal). option_or o p) second rest)

-- ---- and has the values that are written

value_is : (plain : Bool) (us : List Use) → AreUses plain us → (t : Setting) → value_of t (line_of us) ≡ value_in t us
value_is plain [] are t = refl
value_is plain (flag ∷ us) are t =
    ap (λ (b : Bool). cond b (value_at (codes "--plain") (line_of us)) (value_of t (line_of us)))
    (names-flag t (codes "--plain") refl)
    ∙ value_is plain us are.1 t
value_is plain (joined s v ∷ us) are t =
    let word = written s ++ 61 ∷ v in
    let name = name-joined s v in
    (λ i. cond (names-other s t word name.name i)
    (option_or (name.value i) (Rattle.elan_cli.specs.Line.first (line_of us))) (value_is plain us are.2 t i))
value_is plain (apart s v ∷ us) are t =
    let word = written s in
    let name = name-apart s in
    let dash = number-dashless (most plain s) v are.0 in
    let rest : value_of t (v ∷ line_of us) ≡ value_in t us =
    ap (λ (b : Bool). cond b (value_at v (line_of us)) (value_of t (line_of us))) (names-dashless t v dash)
    ∙ value_is plain us are.2 t in
    (λ i. cond (names-other s t word name.name i) (option_or (name.value i) (Some v)) (rest i))

pub asked_line : (plain : Bool) (us : List Use) → AreUses (is_plain plain (line_of us)) us
    → options_of plain (line_of us) ≡ Some (asked_by (is_plain plain (line_of us)) us)
unfolding options_of
asked_line plain us are =
    let p = is_plain plain (line_of us) in
    let left : Leaves [] us = record { options = λ t e. refl; the_flag = λ e. refl } in
    let value = value_is p us are in
    ap (λ (o : Option WordsRefusal). cond (is_some o) None (Some (read p (line_of us))))
    (no_mistake p us [] are refl left)
    ∙ (λ i. Some (record {
      workers = unwrap_or (option_and_then (number (most p Workers)) (value Workers i)) 1;
      limit = unwrap_or (option_and_then (number (most p Limit)) (value Limit i)) 1000000;
      steps = unwrap_or (option_and_then (number (most p Steps)) (value Steps i))
          (Rattle.elan_cli.specs.Settings.usual_steps p);
      plain = p;
      demo = option_and_then (number (most p Demo)) (value Demo i);
    }))

-- ---- what is accepted is written as a line

equals_is : (b : ℕ) → is_equals b ≡ true → b ≡ 61
equals_is b e = (Decides-eqb b 61).0 e

name_part-more : (b : ℕ) (bs : Word) → is_equals b ≡ false → name_part (b ∷ bs) ≡ b ∷ name_part bs
name_part-more b bs e =
    let far : position_or_len is_equals (b ∷ bs) ≡ suc (position_or_len is_equals bs) = rw e (omega arith) in
    ap (λ n. take n (b ∷ bs)) far

name_part-here : (b : ℕ) (bs : Word) → is_equals b ≡ true → name_part (b ∷ bs) ≡ []
name_part-here b bs e = rw e refl

value_part-here : (b : ℕ) (bs : Word) → is_equals b ≡ true → value_part (b ∷ bs) ≡ Some bs
value_part-here b bs e = rw e refl

cut-joined : (word v : Word) → value_part word ≡ Some v → word ≡ name_part word ++ 61 ∷ v
cut-joined [] v e = absurd (cc)
cut-joined (b ∷ bs) v e = go (cut-joined bs v) (is_equals b) refl
  where
    go : (value_part bs ≡ Some v → bs ≡ name_part bs ++ 61 ∷ v) → (q : Bool) → is_equals b ≡ q
        → b ∷ bs ≡ name_part (b ∷ bs) ++ 61 ∷ v
    go later true is =
        let all : Some bs ≡ Some v = sym (value_part-here b bs is) ∙ e in
        let tail : bs ≡ v = cc in
        ap₂ (λ (x : ℕ) (xs : Word). x ∷ xs) (equals_is b is) tail
        ∙ ap (λ xs. xs ++ 61 ∷ v) (sym (name_part-here b bs is))
    go later false is =
        ap (λ xs. b ∷ xs) (later (sym (value_part-more b bs is) ∙ e))
        ∙ ap (λ xs. xs ++ 61 ∷ v) (sym (name_part-more b bs is))

cut-apart : (word : Word) → value_part word ≡ None → name_part word ≡ word
cut-apart [] e = refl
cut-apart (b ∷ bs) e = go (cut-apart bs) (is_equals b) refl
  where
    go : (value_part bs ≡ None → name_part bs ≡ bs) → (q : Bool) → is_equals b ≡ q → name_part (b ∷ bs) ≡ b ∷ bs
    go later true is = let bad : Some bs ≡ None = sym (value_part-here b bs is) ∙ e in absurd (cc)
    go later false is = name_part-more b bs is ∙ ap (λ xs. b ∷ xs) (later (sym (value_part-more b bs is) ∙ e))

in_front : (p : Word → Bool) (xs : List Word) (w : Word) → list_any p (xs ++ w ∷ []) ≡ false
    → (list_any p xs ≡ false) × (p w ≡ false)
in_front p xs w e =
    let both = neither (list_any p xs) (p w || false) (sym (list_any-append p xs (w ∷ [])) ∙ e) in
    (both.0, (neither (p w) false both.1).0)

leaves-front : (before : List Word) (w : Word) (us : List Use) → Leaves (before ++ w ∷ []) us → Leaves before us
leaves-front before w us left = record {
  options = λ t e. (in_front (names t) before w (left.options t e)).0;
  the_flag = λ e. (in_front is_flag before w (left.the_flag e)).0;
}

-- what a test that fails shows of a use that would pass it
must_fail : (b : Bool) → (b ≡ true → ⊥) → b ≡ false
must_fail true never = absurd (never refl)
must_fail false never = refl

alone : (before : List Word) (word : Word) (s : Setting) (us : List Use) → names s word ≡ true
    → Leaves (before ++ word ∷ []) us
    → list_any (is_use_of s) us ≡ false
alone before word s us name left = must_fail _ (λ e.
    let none = (in_front (names s) before word (left.options s e)).1 in
    let clash : true ≡ false = sym name ∙ none in cc)

alone-flag : (before : List Word) (word : Word) (us : List Use) → is_flag word ≡ true
    → Leaves (before ++ word ∷ []) us → list_any is_flag_use us ≡ false
alone-flag before word us is left = must_fail _ (λ e.
    let none = (in_front is_flag before word (left.the_flag e)).1 in
    let clash : true ≡ false = sym is ∙ none in cc)

same_setting : (s t : Setting) (ws : List Word) → same s t ≡ true → has_setting t ws ≡ has_setting s ws
same_setting s t ws e =
    ap (λ n. list_any (λ w. bytes_eq (name_part w) (45 ∷ 45 ∷ n)) ws)
    (sym ((bytes_eq-Decides (name_of s) (name_of t)).0 e))

either_true : (a b : Bool) → (a || b) ≡ true → a ≡ false → b ≡ true
either_true true b e f = absurd (cc)
either_true false b e f = e

options-before : (before : List Word) (word : Word) (s : Setting) (us : List Use) → has_setting s before ≡ false
    → Leaves (before ++ word ∷ []) us → (t : Setting) → (same s t || list_any (is_use_of t) us) ≡ true
    → has_setting t before ≡ false
options-before before word s us once left t e = go (same s t) refl
  where
    go : (b : Bool) → same s t ≡ b → has_setting t before ≡ false
    go true is = same_setting s t before is ∙ once
    go false is = (in_front (names t) before word (left.options t (either_true (same s t) _ e is))).0

-- the words are those of a line
pub record Spelled (plain : Bool) (before after : List Word) : Type 0 where
  pub us : List Use
  pub is : after ≡ line_of us
  pub are : AreUses plain us
  pub left : Leaves before us

abbrev Fewer : Bool → ℕ → Type 0
Fewer plain n = (before after : List Word) → length after ≤ n → wanted before ≡ None
    → first_mistake plain before after ≡ None → Spelled plain before after

spelled-flag : (plain : Bool) (n : ℕ) → Fewer plain n → (before : List Word) (word : Word) (rest : List Word)
    → length rest ≤ n
    → is_flag word ≡ true → mistake_in_flag before ≡ None → first_mistake plain (before ++ word ∷ []) rest ≡ None
    → Spelled plain before (word ∷ rest)
spelled-flag plain n fewer before word rest small is fine later =
    let r = fewer (before ++ word ∷ []) rest small (wanted-push before word ∙ wants-flag word is) later in
    record {
      us = flag ∷ r.us;
      is = ap₂ (λ (w : Word) (ws : List Word). w ∷ ws) (flag_is word is) r.is;
      are = (alone-flag before word r.us is r.left, r.are);
      left = record {
        options = λ t e. (in_front (names t) before word (r.left.options t e)).0;
        the_flag = λ e. (cond_some (has_flag before) _ None fine).0;
      };
    }

spelled-joined : (plain : Bool) (n : ℕ) → Fewer plain n
    → (before : List Word) (s : Setting) (word v : Word) (rest : List Word) → length rest ≤ n
    → names s word ≡ true → value_part word ≡ Some v → has_setting s before ≡ false
    → mistake_in_value plain (length before) s v ≡ None
    → first_mistake plain (before ++ word ∷ []) rest ≡ None → Spelled plain before (word ∷ rest)
spelled-joined plain n fewer before s word v rest small name holds once fine later =
    let r = fewer (before ++ word ∷ []) rest small (wanted-push before word ∙ wants-joined word v holds) later in
    record {
      us = joined s v ∷ r.us;
      is = ap₂ (λ (w : Word) (ws : List Word). w ∷ ws) (cut-joined word v holds
          ∙ ap (λ w. w ++ 61 ∷ v) (name_is s word name)) r.is;
      are = (cond_none (is_some (number (most plain s) v)) _ fine, alone before word s r.us name r.left, r.are);
      left = record {
        options = options-before before word s r.us once r.left;
        the_flag = λ e. (in_front is_flag before word (r.left.the_flag e)).0;
      };
    }

spelled-apart : (plain : Bool) (n : ℕ) → Fewer plain n
    → (before : List Word) (s : Setting) (word : Word) (rest : List Word) → length rest ≤ n
    → names s word ≡ true → named word ≡ Some s → value_part word ≡ None → has_setting s before ≡ false
    → begins_with_value rest ≡ true
    → first_mistake plain (before ++ word ∷ []) rest ≡ None → Spelled plain before (word ∷ rest)
spelled-apart plain n fewer before s word [] small name option holds once begins later = absurd (cc)
spelled-apart plain n fewer before s word (v ∷ rest) small name option holds once begins later =
    let dash = not_true (begins_with_dash v) begins in
    let split = or_none (mistake plain (before ++ word ∷ []) v rest) _ later in
    let wants_it : wanted (before ++ word ∷ []) ≡ Some s =
    wanted-push before word
    ∙ ap₂ (λ (o : Option Word) (p : Option Setting). cond (is_some o) None p) holds option in
    let value_of_s : valued (before ++ word ∷ []) v ≡ Some s =
    ap₂ (λ (b : Bool) (o : Option Setting). cond b None o) dash wants_it in
    let fine : mistake_in_value plain (length (before ++ word ∷ [])) s v ≡ None =
    sym (ap (λ o. option_map_or (λ t. mistake_in_value plain (length (before ++ word ∷ [])) t v) o
    (mistake_in_name plain (before ++ word ∷ []) v rest)) value_of_s) ∙ split.0 in
    let r = fewer ((before ++ word ∷ []) ++ v ∷ []) rest (omega arith)
    (wanted-push (before ++ word ∷ []) v ∙ wants-dashless v dash) split.1 in
    let left = leaves-front (before ++ word ∷ []) v r.us r.left in
    record {
      us = apart s v ∷ r.us;
      is = ap₂ (λ (w : Word) (ws : List Word). w ∷ v ∷ ws) (sym (cut-apart word holds) ∙ name_is s word name) r.is;
      are = (cond_none (is_some (number (most plain s) v)) _ fine, alone before word s r.us name left, r.are);
      left = record {
        options = options-before before word s r.us once left;
        the_flag = λ e. (in_front is_flag before word (left.the_flag e)).0;
      };
    }

spelled-word : (plain : Bool) (n : ℕ) → Fewer plain n → (before : List Word) (word : Word) (rest : List Word)
    → length rest ≤ n
    → mistake_in_name plain before word rest ≡ None → first_mistake plain (before ++ word ∷ []) rest ≡ None
    → Spelled plain before (word ∷ rest)
spelled-word plain n fewer before word rest small none later = go (is_flag word) refl (named word) refl none
  where
    with_value : (s : Setting) → named word ≡ Some s → has_setting s before ≡ false → (o : Option Word)
        → value_part word ≡ o
        → option_map_or (mistake_in_value plain (length before) s) o (mistake_without_value (length before) rest)
        ≡ None → Spelled plain before (word ∷ rest)
    with_value s option once (Some v) holds fine =
        spelled-joined plain n fewer before s word v rest small (named-names word s option) holds once fine later
    with_value s option once None holds fine =
        spelled-apart plain n fewer before s word rest small (named-names word s option) option holds once
        (cond_none (begins_with_value rest) _ fine) later

    go : (b : Bool) → is_flag word ≡ b → (o : Option Setting) → named word ≡ o
        → cond b (mistake_in_flag before)
        (option_map_or (λ s. mistake_in_setting plain before s word rest) o (Some (Unknown (length before))))
        ≡ None
        → Spelled plain before (word ∷ rest)
    go true is o option fine = spelled-flag plain n fewer before word rest small is fine later
    go false is None option fine = absurd (cc)
    go false is (Some s) option fine =
        let split = cond_some (has_setting s before) _ _ fine in
        with_value s option split.0 (value_part word) refl split.1

spelled : (plain : Bool) (n : ℕ) → Fewer plain n
spelled plain n before [] small free none =
    record {
      us = [];
      is = refl;
      are = tt;
      left = record {
        options = λ t e. absurd (cc);
        the_flag = λ e. absurd
            (cc);
      };
    }
spelled plain zero before (word ∷ rest) small free none = absurd (omega arith)
spelled plain (suc n) before (word ∷ rest) small free none =
    let split = or_none (mistake plain before word rest) _ none in
    let fine : mistake_in_name plain before word rest ≡ None =
    sym (ap (λ o. option_map_or (λ s. mistake_in_value plain (length before) s word) o
    (mistake_in_name plain before word rest))
    (valued-none before word free)) ∙ split.0 in
    spelled-word plain n (spelled plain n) before word rest (omega arith) fine split.1

pub accepted_line : (plain : Bool) (words : List Word) (o : Options) → options_of plain words ≡ Some o
    → (us : List Use) × (words ≡ line_of us) × AreUses (is_plain plain words) us
unfolding options_of
accepted_line plain words o is = go (first_mistake (is_plain plain words) [] words) refl is
  where
    go : (r : Option WordsRefusal) → first_mistake (is_plain plain words) [] words ≡ r
        → cond (is_some r) None (Some (read (is_plain plain words) words)) ≡ Some o
        → (us : List Use) × (words ≡ line_of us) × AreUses (is_plain plain words) us
    go (Some e) refused e2 = absurd (cc)
    go None fine e2 =
        let s = spelled (is_plain plain words) (length words) [] words (omega arith) refl fine in (s.us, s.is, s.are)
