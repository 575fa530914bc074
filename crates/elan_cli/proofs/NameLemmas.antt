-- What a word names, and how `clap` cuts it.
use Rattle.std.proofs.Common.{◌≡◌, ◌∙◌, ◌+◌, ℕ, Bool, true, false, cond, not, List, [], ◌∷◌, take, drop}
use Rattle.std.proofs.Common.{refl, sym, ap, ap₂, arith, Option, Some, None, codes, nat_eq, ◌&&◌, suc}
use Rattle.std.specs.List.{find, list_any, position_or_len}
use Rattle.std.specs.Str.{bytes_eq}
use Rattle.std.proofs.lemmas.Slice.Eq.{bytes_eq-Decides}
use Rattle.clap.specs.Lexer.{long_of, short_of}
use Rattle.elan_cli.specs.Words.{Word, begins_with_dash, is_equals, name_part, value_part}
use Rattle.elan_cli.specs.Settings.{is_flag, name_of, named, names, wants, written}
use Rattle.elan_cli.specs.declared.setting.Setting.{Setting}
use Rattle.elan_cli.specs.declared.setting.Setting.TheVariants.{Workers, Limit, Steps, Demo}

-- the text `--`
abbrev pub dashes : Word
dashes = 45 ∷ 45 ∷ []

-- ---- a word that does not begin with `-`

dashless : (b : ℕ) (bs : Word) → begins_with_dash (b ∷ bs) ≡ false → nat_eq b 45 ≡ false
dashless b bs e = e

pub names-dashless : (s : Setting) (word : Word) → begins_with_dash word ≡ false → names s word ≡ false
names-dashless s [] e = refl
names-dashless s (b ∷ bs) e = go (is_equals b)
  where
    go : (q : Bool) → bytes_eq (take (cond (not q) (1 + position_or_len is_equals bs) 0) (b ∷ bs)) (written s) ≡ false
    go true = refl
    go false =
        let n = position_or_len is_equals bs in
        let step : 1 + n ≡ suc n = omega arith in
        ap (λ k. bytes_eq (take k (b ∷ bs)) (written s)) step
        ∙ ap (λ q. q && bytes_eq (take n bs) (45 ∷ name_of s)) (dashless b bs e)

pub flag-dashless : (word : Word) → begins_with_dash word ≡ false → is_flag word ≡ false
flag-dashless [] e = refl
flag-dashless (b ∷ bs) e = rw (dashless b bs e) refl

pub dashes-dashless : (word : Word) → begins_with_dash word ≡ false → bytes_eq word dashes ≡ false
dashes-dashless [] e = refl
dashes-dashless (b ∷ bs) e = rw (dashless b bs e) refl

pub long_of-dashless : (word : Word) → begins_with_dash word ≡ false → long_of word ≡ None
long_of-dashless [] e = refl
long_of-dashless (b ∷ bs) e = rw (dashless b bs e) refl

pub short_of-dashless : (word : Word) → begins_with_dash word ≡ false → short_of word ≡ None
short_of-dashless [] e = refl
short_of-dashless (b ∷ bs) e = rw (dashless b bs e) refl

pub named-dashless : (word : Word) → begins_with_dash word ≡ false → named word ≡ None
named-dashless word e =
    rw (
      names-dashless Workers word e,
      names-dashless Limit word e,
      names-dashless Steps word e,
      names-dashless Demo word e,
    ) refl

-- ---- a word that names an option

find-passes : {X : Type 0} (p : X → Bool) (xs : List X) (x : X) → find p xs ≡ Some x → p x ≡ true
find-passes p [] x e = absurd (cc)
find-passes p (y ∷ ys) x e = go (find-passes p ys x) (p y) refl e
  where
    go : (find p ys ≡ Some x → p x ≡ true) → (b : Bool) → p y ≡ b → cond b (Some y) (find p ys) ≡ Some x → p x ≡ true
    go later true is e2 = let same : y ≡ x = cc in ap p (sym same) ∙ is
    go later false is e2 = later e2

pub named-names : (word : Word) (s : Setting) → named word ≡ Some s → names s word ≡ true
named-names word s e = find-passes (λ t. names t word) (Workers ∷ Limit ∷ Steps ∷ Demo ∷ []) s e

pub name_is : (s : Setting) (word : Word) → names s word ≡ true → name_part word ≡ written s
name_is s word e = (bytes_eq-Decides (name_part word) (written s)).0 e

-- what other option the word names
pub names-other : (s t : Setting) (word : Word) → names s word ≡ true
    → names t word ≡ bytes_eq (name_of s) (name_of t)
names-other s t word e = ap (λ n. bytes_eq n (written t)) (name_is s word e)

-- the first byte of a name is that of its word
head_is : (b c : ℕ) (bs t : Word) → name_part (b ∷ bs) ≡ c ∷ t → (is_equals b ≡ false) × (b ≡ c) × (name_part bs ≡ t)
head_is b c bs t e = go (is_equals b) refl e
  where
    go : (q : Bool) → is_equals b ≡ q → take (cond (not q) (1 + position_or_len is_equals bs) 0) (b ∷ bs) ≡ c ∷ t
        → (is_equals b ≡ false) × (b ≡ c) × (name_part bs ≡ t)
    go true is e2 = absurd (cc)
    go false is e2 =
        let step : 1 + position_or_len is_equals bs ≡ suc (position_or_len is_equals bs) = omega arith in
        let e3 : take (suc (position_or_len is_equals bs)) (b ∷ bs) ≡ c ∷ t = rw step at e2 in
        (is, cc, cc)

pub value_part-more : (b : ℕ) (bs : Word) → is_equals b ≡ false → value_part (b ∷ bs) ≡ value_part bs
value_part-more b bs e =
    let far : position_or_len is_equals (b ∷ bs) ≡ suc (position_or_len is_equals bs) = rw e (omega arith) in
    let many : list_any is_equals (b ∷ bs) ≡ list_any is_equals bs = rw e refl in
    let next : suc (position_or_len is_equals bs) + 1 ≡ suc (position_or_len is_equals bs + 1) = omega arith in
    (λ i. cond (many i) (Some (drop (far i + 1) (b ∷ bs))) None)
    ∙ ap (λ n. cond (list_any is_equals bs) (Some (drop n (b ∷ bs))) None) next

-- a word whose name begins with `--`
pub long_of-named : (s : Setting) (word : Word) → names s word ≡ true
    → (long_of word ≡ Some (name_of s, value_part word)) × (bytes_eq word dashes ≡ false)
long_of-named s word e = go word (name_is s word e)
  where
    some_name : (t : Setting) → (b : ℕ) × (bs : Word) × (name_of t ≡ b ∷ bs)
    some_name Workers = (_, _, refl)
    some_name Limit = (_, _, refl)
    some_name Steps = (_, _, refl)
    some_name Demo = (_, _, refl)

    name_is_some : (rest : Word) → name_part rest ≡ name_of s → rest ≡ [] → ⊥
    name_is_some rest e2 none = let n = some_name s in let bad : [] ≡ n.0 ∷ n.1 = sym (ap name_part none) ∙ e2
        ∙ n.2 in cc

    third : (rest : Word) → name_part rest ≡ name_of s → (w : Word) → w ≡ 45 ∷ 45 ∷ rest
        → value_part w ≡ value_part rest
        → (long_of w ≡ Some (name_of s, value_part w)) × (bytes_eq w dashes ≡ false)
    third [] e2 w is v = absurd (name_is_some [] e2 refl)
    third (b ∷ bs) e2 w is v =
        (ap long_of is ∙ ap₂ (λ (n : Word) (o : Option Word). Some (n, o)) e2 (sym v), ap (λ x. bytes_eq x dashes) is)

    go : (w : Word) → name_part w ≡ written s
        → (long_of w ≡ Some (name_of s, value_part w)) × (bytes_eq w dashes ≡ false)
    go [] e2 = absurd (cc)
    go (a ∷ []) e2 =
        let h = head_is a 45 [] (45 ∷ name_of s) e2 in
        let bad : [] ≡ 45 ∷ name_of s = h.2 in cc
    go (a ∷ b ∷ rest) e2 =
        let h = head_is a 45 (b ∷ rest) (45 ∷ name_of s) e2 in
        let k = head_is b 45 rest (name_of s) h.2 in
        third rest k.2 (a ∷ b ∷ rest) (ap₂ (λ (x y : ℕ). x ∷ y ∷ rest) h.1 k.1)
        (value_part-more a (b ∷ rest) h.0 ∙ value_part-more b rest k.0)

-- ---- the flag

pub flag_is : (word : Word) → is_flag word ≡ true → word ≡ codes "--plain"
flag_is word e = (bytes_eq-Decides word (codes "--plain")).0 e

pub names-flag : (s : Setting) (word : Word) → is_flag word ≡ true → names s word ≡ false
names-flag s word e = ap (names s) (flag_is word e) ∙ go s
  where
    go : (t : Setting) → names t (codes "--plain") ≡ false
    go Workers = refl
    go Limit = refl
    go Steps = refl
    go Demo = refl

pub wants-flag : (word : Word) → is_flag word ≡ true → wants word ≡ None
wants-flag word e = ap wants (flag_is word e)

pub long_of-flag : (word : Word) → is_flag word ≡ true → long_of word ≡ Some (codes "plain", None)
long_of-flag word e = ap long_of (flag_is word e)

pub dashes-flag : (word : Word) → is_flag word ≡ true → bytes_eq word dashes ≡ false
dashes-flag word e = ap (λ w. bytes_eq w dashes) (flag_is word e)
