-- Words and the sorts that stand for them, by an index.
use Rattle.std.proofs.Common.{◌≡◌, ◌<◌, ◌≤◌, ◌||◌, ℕ, zero, suc, Bool, true, false, cond, List, [], ◌∷◌, ◌++◌, drop, length, get_or, slice_get, Option, Some, None, is_some, refl, sym, ap, ap₂, ◌∙◌, arith}
use Rattle.std.proofs.lemmas.List.Quantifiers.{position-Some}
use Rattle.std.proofs.lemmas.Option.{slice_get-get_or, slice_get_read}
use Rattle.std.specs.List.{list_any}
use Rattle.std.specs.Str.{bytes_eq}
use Rattle.std.proofs.lemmas.Slice.Eq.{bytes_eq-Decides}
use Rattle.elan_text.specs.declared.name.Name.{Name}
use Rattle.elan_numbers.specs.Numbering.{is_called, number_of, with_name}
use Rattle.elan_modules.specs.Sorts.{value_of, separators}
use Rattle.elan_modules.specs.Replacing.{with_value, counts_of, IsIndex}
use Rattle.elan_modules.proofs.Indexes.{numbered_any}

-- names are compared either way round
flipped : (a b : List ℕ) → bytes_eq a b ≡ bytes_eq b a
flipped a b = go (bytes_eq a b) refl (bytes_eq b a) refl
  where
    go : (x : Bool) → bytes_eq a b ≡ x → (y : Bool) → bytes_eq b a ≡ y → bytes_eq a b ≡ bytes_eq b a
    go true e true f = e ∙ sym f
    go false e false f = e ∙ sym f
    go true e false f = sym ((bytes_eq-Decides b a).1 (sym ((bytes_eq-Decides a b).0 e)) ∙ sym e)
    go false e true f = (bytes_eq-Decides a b).1 (sym ((bytes_eq-Decides b a).0 f)) ∙ sym f

-- ---- a word that has a number

by_number : (word : List ℕ) (known values : List Name) (i : ℕ) (d value : Name) → i < length known
    → is_called word (get_or known i d) ≡ true → ((k : ℕ) → k < i → is_called word (get_or known k d) ≡ false)
    → slice_get values i ≡ Some value → value_of known values word ≡ value.bytes
unfolding value_of
by_number word [] values i d value within here before is = absurd (omega (arith, within))
by_number word (k ∷ known) [] i d value within here before is = absurd cc
by_number word (k ∷ known) (v ∷ values) zero d value within here before is =
    let same : v ≡ value = cc in rw (flipped k.bytes word, here) (ap (λ n. n.bytes) same)
by_number word (k ∷ known) (v ∷ values) (suc i) d value within here before is =
    rw (flipped k.bytes word, before 0 (omega arith))
    (by_number word known values i d value (omega (arith, within)) here (λ j less. before (suc j) (omega (arith, less))) is)

pub value_numbered : (word : List ℕ) (known values : List Name) (i : ℕ) (value : Name) → number_of word known ≡ Some i
    → slice_get values i ≡ Some value → value_of known values word ≡ value.bytes
unfolding number_of
value_numbered word known values i value numbered is =
    let found = position-Some (is_called word) known i value numbered in
    by_number word known values i value value found.0 found.1 found.2 is

pub value_indexed : (word : List ℕ) (known values : List Name) (i : ℕ) (value : Name) → length known ≡ length values
    → number_of word known ≡ Some i → value ≡ get_or values i value → value_of known values word ≡ value.bytes
unfolding number_of
value_indexed word known values i value each numbered is =
    let found = position-Some (is_called word) known i value numbered in
    value_numbered word known values i value numbered
    (slice_get_read values (length values) i value refl (omega (arith, each, found.0)) is)

get_counts : (values : List Name) (i : ℕ) (d : Name) → i < length values
    → get_or (counts_of values) i 0 ≡ separators (get_or values i d).bytes
get_counts [] i d less = absurd (omega (arith, less))
get_counts (v ∷ values) zero d less = refl
get_counts (v ∷ values) (suc i) d less = get_counts values i d (omega (arith, less))

pub counts_indexed : (word : List ℕ) (known values : List Name) (counts : List ℕ) (i : ℕ) → length known ≡ length values
    → counts ≡ counts_of values → number_of word known ≡ Some i
    → get_or counts i 0 ≡ separators (value_of known values word)
unfolding number_of
counts_indexed word known values counts i each are numbered =
    let d : Name = record { bytes = [] } in
    let found = position-Some (is_called word) known i d numbered in
    let less : i < length values = omega (arith, each, found.0) in
    let got : slice_get values i ≡ Some (get_or values i d) = slice_get-get_or values i d less in
    rw (are, value_numbered word known values i (get_or values i d) numbered got) (get_counts values i d less)

-- one that is no parameter
other : (word : List ℕ) (known values : List Name) → list_any (is_called word) known ≡ false
    → value_of known values word ≡ word
unfolding value_of
other word [] values none = refl
other word (k ∷ known) [] none = refl
other word (k ∷ known) (v ∷ values) none = go (is_called word k) refl none (other word known values)
  where
    go : (x : Bool) → is_called word k ≡ x → x || list_any (is_called word) known ≡ false
        → (list_any (is_called word) known ≡ false → value_of known values word ≡ word)
        → cond (bytes_eq k.bytes word) v.bytes (value_of known values word) ≡ word
    go true e none rest = absurd cc
    go false e none rest = rw (flipped k.bytes word, e) (rest none)

pub value_other : (word : List ℕ) (known values : List Name) → number_of word known ≡ None
    → value_of known values word ≡ word
value_other word known values none = other word known values (sym (numbered_any word known) ∙ ap is_some none)

-- ---- one parameter more

-- a pair that never decides may be left out
skip : (word : List ℕ) (known values ps ss : List Name) (p s : Name) → length known ≡ length values
    → bytes_eq p.bytes word ≡ false
    → value_of (known ++ ps) (values ++ ss) word ≡ value_of (known ++ p ∷ ps) (values ++ s ∷ ss) word
unfolding value_of
skip word [] [] ps ss p s each not = rw not refl
skip word [] (v ∷ values) ps ss p s each not = absurd cc
skip word (k ∷ known) [] ps ss p s each not = absurd cc
skip word (k ∷ known) (v ∷ values) ps ss p s each not =
    ap (cond (bytes_eq k.bytes word) v.bytes) (skip word known values ps ss p s (omega (arith, each)) not)

there : (word : List ℕ) (known values ps ss : List Name) (p s : Name) → length known ≡ length values
    → list_any (is_called p.bytes) known ≡ true
    → value_of (known ++ ps) (values ++ ss) word ≡ value_of (known ++ p ∷ ps) (values ++ s ∷ ss) word
unfolding value_of
there word [] values ps ss p s each is = absurd cc
there word (k ∷ known) [] ps ss p s each is = absurd cc
there word (k ∷ known) (v ∷ values) ps ss p s each is =
    go (is_called p.bytes k) refl (bytes_eq k.bytes word) refl is
    (there word known values ps ss p s (omega (arith, each)))
  where
    fewer : length known ≡ length values
    fewer = omega (arith, each)

    go : (x : Bool) → bytes_eq p.bytes k.bytes ≡ x → (y : Bool) → bytes_eq k.bytes word ≡ y
        → x || list_any (is_called p.bytes) known ≡ true
        → (list_any (is_called p.bytes) known ≡ true → value_of (known ++ ps) (values ++ ss) word
        ≡ value_of (known ++ p ∷ ps) (values ++ s ∷ ss) word)
        → cond (bytes_eq k.bytes word) v.bytes (value_of (known ++ ps) (values ++ ss) word)
        ≡ cond (bytes_eq k.bytes word) v.bytes (value_of (known ++ p ∷ ps) (values ++ s ∷ ss) word)
    go x e true f is rest = rw f refl
    go true e false f is rest = rw f (skip word known values ps ss p s fewer
        (ap (λ b. bytes_eq b word) ((bytes_eq-Decides p.bytes k.bytes).0 e) ∙ f))
    go false e false f is rest = rw f (rest is)

append_assoc : (xs ys : List Name) (x : Name) → (xs ++ x ∷ []) ++ ys ≡ xs ++ x ∷ ys
append_assoc [] ys x = refl
append_assoc (y ∷ xs) ys x = ap (λ zs. y ∷ zs) (append_assoc xs ys x)

pub value_next : (word : List ℕ) (known values ps ss : List Name) (p s : Name) → length known ≡ length values
    → value_of (with_name known p.bytes ++ ps) (with_value known p values s ++ ss) word
    ≡ value_of (known ++ p ∷ ps) (values ++ s ∷ ss) word
value_next word known values ps ss p s each = go (list_any (is_called p.bytes) known) refl
  where
    go : (x : Bool) → list_any (is_called p.bytes) known ≡ x
        → value_of (with_name known p.bytes ++ ps) (with_value known p values s ++ ss) word
        ≡ value_of (known ++ p ∷ ps) (values ++ s ∷ ss) word
    go true is = rw is (there word known values ps ss p s each is)
    go false is = rw (is, append_assoc known ps p, append_assoc values ss s) refl

pub each_next : (known values : List Name) (p s : Name) → length known ≡ length values
    → length (with_name known p.bytes) ≡ length (with_value known p values s)
each_next known values p s each = go (list_any (is_called p.bytes) known) refl
  where
    longer : (xs ys : List Name) (x y : Name) → length xs ≡ length ys → length (xs ++ x ∷ []) ≡ length (ys ++ y ∷ [])
    longer [] [] x y e = refl
    longer [] (b ∷ ys) x y e = absurd cc
    longer (a ∷ xs) [] x y e = absurd cc
    longer (a ∷ xs) (b ∷ ys) x y e = ap suc (longer xs ys x y (omega (arith, e)))

    go : (x : Bool) → list_any (is_called p.bytes) known ≡ x
        → length (with_name known p.bytes) ≡ length (with_value known p values s)
    go true is = rw is each
    go false is = rw is (longer known values p s each)

-- ---- no parameter, or no sort

past : (word : List ℕ) (known values ps ss : List Name) → length known ≡ length values → value_of ps ss word ≡ word
    → value_of (known ++ ps) (values ++ ss) word ≡ value_of known values word
unfolding value_of
past word [] [] ps ss each is = is
past word [] (v ∷ values) ps ss each is = absurd cc
past word (k ∷ known) [] ps ss each is = absurd cc
past word (k ∷ known) (v ∷ values) ps ss each is =
    ap (cond (bytes_eq k.bytes word) v.bytes) (past word known values ps ss (omega (arith, each)) is)

pub value_past : (word : List ℕ) (known values ss : List Name) → length known ≡ length values
    → value_of known values word ≡ value_of (known ++ []) (values ++ ss) word
unfolding value_of
value_past word known values ss each = sym (past word known values [] ss each refl)

pub value_short : (word : List ℕ) (known values ps : List Name) → length known ≡ length values
    → value_of known values word ≡ value_of (known ++ ps) (values ++ []) word
unfolding value_of
value_short word known values ps each = sym (past word known values ps [] each (none ps))
  where
    none : (ps : List Name) → value_of ps [] word ≡ word
    none [] = refl
    none (p ∷ ps) = refl

-- ---- whether a parameter is there

module _ (known values : List Name) (p s : Name) (found : Option ℕ) (numbered : found ≡ number_of p.bytes known) where
  is_there : list_any (is_called p.bytes) known ≡ is_some found
  is_there = sym (numbered_any p.bytes known) ∙ ap is_some (sym numbered)

  pub name_kept : is_some found ≡ true → known ≡ with_name known p.bytes
  name_kept is = rw (is_there, is) refl

  pub value_kept : is_some found ≡ true → values ≡ with_value known p values s
  value_kept is = rw (is_there, is) refl

  pub value_added : is_some found ≡ false → values ++ s ∷ [] ≡ with_value known p values s
  value_added is = rw (is_there, is) refl

-- ---- the whole list of pairs

module _ (parameters sorts known values left rest : List Name) (each : length known ≡ length values)
    (all : (word : List ℕ) → value_of (known ++ left) (values ++ rest) word ≡ value_of parameters sorts word) where
  -- no parameter is left
  pub index_past : length left < 1 → IsIndex parameters sorts known values
  index_past few = record { each = each; same = λ word. go left few word ∙ all word }
    where
      go : (ps : List Name) → length ps < 1 → (word : List ℕ)
          → value_of known values word ≡ value_of (known ++ ps) (values ++ rest) word
      go [] few word = value_past word known values rest each
      go (p ∷ ps) few word = absurd (omega (arith, few))

  -- no sort is left
  pub index_short : length rest < 1 → IsIndex parameters sorts known values
  index_short few = record { each = each; same = λ word. go rest few word ∙ all word }
    where
      go : (ss : List Name) → length ss < 1 → (word : List ℕ)
          → value_of known values word ≡ value_of (known ++ left) (values ++ ss) word
      go [] few word = value_short word known values left each
      go (s ∷ ss) few word = absurd (omega (arith, few))

-- the first pair was added
pub index_next : (parameters sorts known values more_known more_values left rest others more : List Name) (p s : Name)
    → p ≡ get_or left 0 p → 1 ≤ length left → s ≡ get_or rest 0 s → 1 ≤ length rest → others ≡ drop 1 left
    → more ≡ drop 1 rest → more_known ≡ with_name known p.bytes → more_values ≡ with_value known p values s
    → length known ≡ length values
    → ((word : List ℕ) → value_of (known ++ left) (values ++ rest) word ≡ value_of parameters sorts word)
    → (word : List ℕ) → value_of (more_known ++ others) (more_values ++ more) word ≡ value_of parameters sorts word
index_next parameters sorts known values more_known more_values [] rest others more p s is_p some is_s any o m k v each all word =
    absurd (omega (arith, some))
index_next parameters sorts known values more_known more_values (x ∷ xs) [] others more p s is_p some is_s any o m k v each all word =
    absurd (omega (arith, any))
index_next parameters sorts known values more_known more_values (x ∷ xs) (y ∷ ys) others more p s is_p some is_s any o m k v each all word =
    rw (k, v, o, m) (value_next word known values xs ys p s each
    ∙ ap₂ (λ a b. value_of (known ++ a ∷ xs) (values ++ b ∷ ys) word) is_p is_s ∙ all word)
