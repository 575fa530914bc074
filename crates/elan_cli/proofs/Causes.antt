-- The first mistake explained.
use Rattle.std.proofs.Common.{◌≡◌, ◌∙◌, ℕ, Bool, true, false, cond, List, [], ◌∷◌, ◌++◌, length, refl, sym}
use Rattle.std.proofs.Common.{ap, ap₂, append-nil, append_assoc, subst, Option, Some, None, is_some}
use Rattle.std.specs.Option.{option_map_or, option_or}
use Rattle.elan_cli.specs.Words.{Word, number, value_part}
use Rattle.elan_cli.specs.Settings.{is_flag, most, named, wants}
use Rattle.elan_cli.specs.Line.{begins_with_value, first_mistake, has_flag, has_setting, mistake, mistake_in_flag}
use Rattle.elan_cli.specs.Line.{mistake_in_name, mistake_in_setting, mistake_in_value, mistake_without_value, valued}
use Rattle.elan_cli.specs.Refusals.{HoldsValue, IsFirstWrong, IsRepeated, IsWrong, flag_again, option_again, part}
use Rattle.elan_cli.specs.Refusals.{whole}
use Rattle.elan_cli.specs.declared.fault.WordsRefusal.{WordsRefusal}
use Rattle.elan_cli.specs.declared.fault.WordsRefusal.TheVariants.{Unknown, Repeated, NoValue, OutOfRange, NoMemory}
use Rattle.elan_cli.specs.declared.setting.Setting.{Setting}
use Rattle.elan_cli.proofs.NameLemmas.{named-names}

module _ (plain : Bool) (before : List Word) (word : Word) (after : List Word) where
  abbrev Wrong : WordsRefusal → Type 0
  Wrong = IsWrong plain before word after

  in-value : (e : WordsRefusal) (s : Setting) (v : Word) → HoldsValue before word s v
      → mistake_in_value plain (length before) s v ≡ Some e → Wrong e
  in-value e s v holds is = go (number (most plain s) v) refl e is
    where
      go : (o : Option ℕ) → number (most plain s) v ≡ o → (x : WordsRefusal)
          → cond (is_some o) None (Some (OutOfRange (length before))) ≡ Some x → Wrong x
      go (Some n) none x e2 = absurd (cc)
      go None none (Unknown k) e2 = absurd (cc)
      go None none (Repeated k) e2 = absurd (cc)
      go None none (NoValue k) e2 = absurd (cc)
      go None none NoMemory e2 = absurd (cc)
      go None none (OutOfRange k) e2 =
          let same : k ≡ length before = cc in
          (same, record { setting = s; value = v; holds = holds; no_number = none })

  repeated : (e : WordsRefusal) → IsRepeated before word → Some (Repeated (length before)) ≡ Some e → Wrong e
  repeated (Unknown k) r is = absurd (cc)
  repeated (NoValue k) r is = absurd (cc)
  repeated (OutOfRange k) r is = absurd (cc)
  repeated NoMemory r is = absurd (cc)
  repeated (Repeated k) r is = let same : k ≡ length before = cc in (same, r)

  lacking : (e : WordsRefusal) (s : Setting) → wants word ≡ Some s → begins_with_value after ≡ false
      → Some (NoValue (length before)) ≡ Some e → Wrong e
  lacking (Unknown k) s w b is = absurd (cc)
  lacking (Repeated k) s w b is = absurd (cc)
  lacking (OutOfRange k) s w b is = absurd (cc)
  lacking NoMemory s w b is = absurd (cc)
  lacking (NoValue k) s w b is =
      let same : k ≡ length before = cc in (same, record { setting = s; is_option = w; no_value = b })

  unknown : (e : WordsRefusal) → valued before word ≡ None → is_flag word ≡ false → named word ≡ None
      → Some (Unknown (length before)) ≡ Some e → Wrong e
  unknown (Repeated k) v f n is = absurd (cc)
  unknown (NoValue k) v f n is = absurd (cc)
  unknown (OutOfRange k) v f n is = absurd (cc)
  unknown NoMemory v f n is = absurd (cc)
  unknown (Unknown k) v f n is =
      let same : k ≡ length before = cc in (same, record { no_value = v; no_flag = f; no_option = n })

  in-flag : (e : WordsRefusal) → is_flag word ≡ true → mistake_in_flag before ≡ Some e → Wrong e
  in-flag e flag is = go (has_flag before) refl is
    where
      go : (b : Bool) → has_flag before ≡ b → cond b (Some (Repeated (length before))) None ≡ Some e → Wrong e
      go true had e2 = repeated e (flag_again flag had) e2
      go false had e2 = absurd (cc)

  in-setting : (e : WordsRefusal) (s : Setting) → named word ≡ Some s
      → mistake_in_setting plain before s word after ≡ Some e → Wrong e
  in-setting e s name is = go (has_setting s before) refl is
    where
      without : value_part word ≡ None → (b : Bool) → begins_with_value after ≡ b
          → cond b None (Some (NoValue (length before))) ≡ Some e → Wrong e
      without v true begins e2 = absurd (cc)
      without v false begins e2 = lacking e s (ap (λ (o : Option Word). cond (is_some o) None (named word)) v
          ∙ name) begins e2

      of : (o : Option Word) → value_part word ≡ o
          → option_map_or (mistake_in_value plain (length before) s) o (mistake_without_value (length before) after)
          ≡ Some e → Wrong e
      of (Some v) holds e2 = in-value e s v (part (named-names word s name) holds) e2
      of None holds e2 = without holds (begins_with_value after) refl e2

      go : (b : Bool) → has_setting s before ≡ b
          → cond b (Some (Repeated (length before)))
          (option_map_or (mistake_in_value plain (length before) s) (value_part word)
          (mistake_without_value (length before) after)) ≡ Some e → Wrong e
      go true had e2 = repeated e (option_again s (named-names word s name) had) e2
      go false had e2 = of (value_part word) refl e2

  in-name : (e : WordsRefusal) → valued before word ≡ None → mistake_in_name plain before word after ≡ Some e
      → Wrong e
  in-name e free is = go (is_flag word) refl (named word) refl is
    where
      go : (b : Bool) → is_flag word ≡ b → (o : Option Setting) → named word ≡ o
          → cond b (mistake_in_flag before)
          (option_map_or (λ s. mistake_in_setting plain before s word after) o (Some (Unknown (length before))))
          ≡ Some e → Wrong e
      go true flag o name e2 = in-flag e flag e2
      go false flag None name e2 = unknown e free flag name e2
      go false flag (Some s) name e2 = in-setting e s name e2

  explained : (e : WordsRefusal) → mistake plain before word after ≡ Some e → Wrong e
  explained e is = go (valued before word) refl is
    where
      go : (o : Option Setting) → valued before word ≡ o
          → option_map_or (λ s. mistake_in_value plain (length before) s word) o
          (mistake_in_name plain before word after) ≡ Some e → Wrong e
      go (Some s) value e2 = in-value e s word (whole value refl) e2
      go None value e2 = in-name e value e2

-- ---- the first of them

record Found (plain : Bool) (start after : List Word) (e : WordsRefusal) : Type 0 where
  mid : List Word
  word : Word
  rest : List Word
  cut : after ≡ mid ++ word ∷ rest
  is : mistake plain (start ++ mid) word rest ≡ Some e
  none : (front : List Word) (other : Word) (back : List Word) → mid ≡ front ++ other ∷ back
      → mistake plain (start ++ front) other (back ++ word ∷ rest) ≡ None

nothing-before : {P : Type 0} (front : List Word) (other : Word) (back : List Word) → [] ≡ front ++ other ∷ back → P
nothing-before [] other back e = absurd (cc)
nothing-before (x ∷ front) other back e = absurd (cc)

found : (plain : Bool) (start after : List Word) (e : WordsRefusal) → first_mistake plain start after ≡ Some e
    → Found plain start after e
found plain start [] e is = absurd (cc)
found plain start (x ∷ xs) e is = go (found plain (start ++ x ∷ []) xs e) (mistake plain start x xs) refl is
  where
    more : mistake plain start x xs ≡ None → Found plain (start ++ x ∷ []) xs e → Found plain start (x ∷ xs) e
    more none later = record {
      mid = x ∷ later.mid;
      word = later.word;
      rest = later.rest;
      cut = ap (λ ws. x ∷ ws) later.cut;
      is = ap (λ ws. mistake plain ws later.word later.rest) (sym (append_assoc start (x ∷ []) later.mid)) ∙ later.is;
      none = before;
    }
      where
        before : (front : List Word) (other : Word) (back : List Word) → x ∷ later.mid ≡ front ++ other ∷ back
            → mistake plain (start ++ front) other (back ++ later.word ∷ later.rest) ≡ None
        before [] other back e2 =
            let same : other ≡ x = cc in
            let tail : back ≡ later.mid = cc in
            ap₂ (λ (w : Word) (ws : List Word). mistake plain ws w (back ++ later.word ∷ later.rest)) same
            (append-nil start)
            ∙ ap (λ ws. mistake plain start x (ws ++ later.word ∷ later.rest)) tail
            ∙ ap (mistake plain start x) (sym later.cut) ∙ none
        before (y ∷ front) other back e2 =
            let same : y ≡ x = cc in
            let tail : later.mid ≡ front ++ other ∷ back = cc in
            ap (λ w. mistake plain (start ++ w ∷ front) other (back ++ later.word ∷ later.rest)) same
            ∙ ap (λ ws. mistake plain ws other (back ++ later.word ∷ later.rest))
            (sym (append_assoc start (x ∷ []) front))
            ∙ later.none front other back tail

    go : (first_mistake plain (start ++ x ∷ []) xs ≡ Some e → Found plain (start ++ x ∷ []) xs e)
        → (o : Option WordsRefusal) → mistake plain start x xs ≡ o
        → option_or o (first_mistake plain (start ++ x ∷ []) xs) ≡ Some e → Found plain start (x ∷ xs) e
    go later None none e2 = more none (later e2)
    go later (Some y) here e2 = record {
      mid = [];
      word = x;
      rest = xs;
      cut = refl;
      is = ap (λ ws. mistake plain ws x xs) (append-nil start) ∙ here ∙ e2;
      none = λ front other back e3. nothing-before front other back e3;
    }

pub first_wrong : (plain : Bool) (words : List Word) (e : WordsRefusal) → first_mistake plain [] words ≡ Some e
    → IsFirstWrong plain words e
first_wrong plain words e is =
    let f = found plain [] words e is in
    record {
      before = f.mid;
      word = f.word;
      after = f.rest;
      cut = f.cut;
      wrong = explained plain f.mid f.word f.rest e f.is;
      none_before = f.none;
    }

-- no word is refused for want of memory
pub named_alone : (plain : Bool) (words : List Word) (e : WordsRefusal) → first_mistake plain [] words ≡ Some e
    → e ≡ NoMemory → first_mistake plain [] words ≡ None
named_alone plain words e is memory =
    let f = first_wrong plain words e is in
    absurd (subst (IsWrong plain f.before f.word f.after) memory f.wrong)
