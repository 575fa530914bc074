-- Names and instances by their keys.
use Rattle.std.proofs.Common.{◌≡◌, ℕ, suc, ◌+◌, length, not, nat_lt, ltb-true, ltb-false, lt-ltb, le-ltb, arith, Bool, true, false, ◌&&◌, ◌||◌, cond, List, [], ◌∷◌, ◌++◌, is_some, Option, Some, None, nat_eq, refl, sym, ap, ap₂, ◌∙◌}
use Rattle.std.specs.Prelude.{MatchOption}
use Rattle.std.specs.List.{list_any, position, prefix_len}
use Rattle.std.proofs.lemmas.List.Folds.{list_any-append}
use Rattle.std.proofs.lemmas.Slice.Eq.{bytes_eq-Decides}
use Rattle.std.specs.Str.{bytes_eq}
use Rattle.elan_text.specs.declared.name.Name.{Name}
use Rattle.elan_numbers.specs.Numbering.{is_called, number_of, with_name}
use Rattle.elan_modules.specs.declared.flat.Instance.{Instance}
use Rattle.elan_modules.specs.declared.walk.Reference.{Reference}
use Rattle.elan_modules.specs.Modules.{standard_of}
use Rattle.elan_modules.specs.Visits.{same_names, is_instance, is_taken, is_some as is_standard}
use Rattle.elan_modules.specs.Walking.{marked, marked_all, key_of, has_key, IsIndexed}

-- a value is found exactly where there is one
shorter : {A : Type 0} (p : A → Bool) (xs : List A) → nat_lt (prefix_len (λ x. not (p x)) xs) (length xs) ≡ list_any p xs
shorter p [] = refl
shorter p (x ∷ xs) = go (p x) refl (shorter p xs)
  where
    n : ℕ
    n = prefix_len (λ y. not (p y)) xs

    more : (b : Bool) → nat_lt n (length xs) ≡ b → nat_lt (1 + n) (suc (length xs)) ≡ b
    more true is = lt-ltb (1 + n) (suc (length xs)) (omega (arith, ltb-true n (length xs) is))
    more false is = le-ltb (1 + n) (suc (length xs)) (omega (arith, ltb-false n (length xs) is))

    go : (d : Bool) → p x ≡ d → nat_lt n (length xs) ≡ list_any p xs
        → nat_lt (cond (not (p x)) (1 + n) 0) (suc (length xs)) ≡ p x || list_any p xs
    go true e is = rw e (lt-ltb 0 (suc (length xs)) (omega arith))
    go false e is = rw e (more (list_any p xs) is)

placed : {A : Type 0} (p : A → Bool) (xs : List A) → is_some (position p xs) ≡ list_any p xs
placed p xs = go (nat_lt (prefix_len (λ x. not (p x)) xs) (length xs)) refl ∙ shorter p xs
  where
    go : (d : Bool) → nat_lt (prefix_len (λ x. not (p x)) xs) (length xs) ≡ d → is_some (position p xs) ≡ nat_lt (prefix_len (λ x. not (p x)) xs) (length xs)
    go true e = rw e refl
    go false e = rw e refl

-- a name has a number exactly where it is among the names
pub numbered_any : (bytes : List ℕ) (names : List Name) → is_some (number_of bytes names) ≡ list_any (is_called bytes) names
unfolding number_of
numbered_any bytes names = placed (is_called bytes) names

-- a name that has a number is taken
pub numbered_is : (before : List Name) (name : List ℕ) (found : Option ℕ) → found ≡ number_of name before → is_some found ≡ true
    → is_taken before name ≡ true
numbered_is before name found is some =
    let there : list_any (is_called name) before ≡ true = sym (numbered_any name before) ∙ sym (ap is_some is) ∙ some in
    rw there refl

-- one that has none is where it is that of a built-in module
pub not_numbered_is : (before : List Name) (name : List ℕ) (found : Option ℕ) → found ≡ number_of name before → is_some found ≡ false
    → is_taken before name ≡ is_standard (standard_of name)
not_numbered_is before name found is some =
    let none : list_any (is_called name) before ≡ false = sym (numbered_any name before) ∙ sym (ap is_some is) ∙ some in
    rw none refl

-- a name that is not taken comes behind those before it
pub named_next : (before : List Name) (name : List ℕ) → is_taken before name ≡ false
    → with_name before name ≡ before ++ record { bytes = name } ∷ []
named_next before name free = go (list_any (is_called name) before) refl
  where
    go : (d : Bool) → list_any (is_called name) before ≡ d → with_name before name ≡ before ++ record { bytes = name } ∷ []
    go true is = let taken : is_taken before name ≡ true = rw is refl in absurd cc
    go false is = rw is refl

-- ---- keys tell instances apart

and_assoc : (a b c : Bool) → a && (b && c) ≡ (a && b) && c
and_assoc true b c = refl
and_assoc false b c = refl

-- names that are marked, each before further bytes, are the same where the names and the further bytes are
marked_same : (a b x y : List ℕ) → bytes_eq (marked a ++ x) (marked b ++ y) ≡ bytes_eq a b && bytes_eq x y
marked_same [] [] x y = refl
marked_same [] (b ∷ bs) x y = refl
marked_same (a ∷ more) [] x y = refl
marked_same (a ∷ more) (b ∷ bs) x y =
    ap (λ z. nat_eq a b && z) (marked_same more bs x y) ∙ and_assoc (nat_eq a b) (bytes_eq more bs) (bytes_eq x y)

-- marked bytes are not none
not_none : (a x : List ℕ) → bytes_eq [] (marked a ++ x) ≡ false
not_none [] x = refl
not_none (a ∷ more) x = refl

none_not : (a x : List ℕ) → bytes_eq (marked a ++ x) [] ≡ false
none_not [] x = refl
none_not (a ∷ more) x = refl

all_same : (xs ys : List Name) → bytes_eq (marked_all xs) (marked_all ys) ≡ same_names xs ys
all_same [] [] = refl
all_same [] (y ∷ ys) = not_none y.bytes (marked_all ys)
all_same (x ∷ xs) [] = none_not x.bytes (marked_all xs)
all_same (x ∷ xs) (y ∷ ys) =
    marked_same x.bytes y.bytes (marked_all xs) (marked_all ys) ∙ ap (λ z. bytes_eq x.bytes y.bytes && z) (all_same xs ys)

-- an instance has the key of a reference exactly where it is the one that the reference names
pub keyed_is : (r : Reference) (i : Instance) → has_key (key_of r.name r.args) i ≡ is_instance r i
keyed_is r i = marked_same r.name.bytes i.name.bytes (marked_all r.args) (marked_all i.args)
    ∙ ap (λ z. bytes_eq r.name.bytes i.name.bytes && z) (all_same r.args i.args)

any_same : {A : Type 0} (p q : A → Bool) (xs : List A) → ((x : A) → p x ≡ q x) → list_any p xs ≡ list_any q xs
any_same p q [] e = refl
any_same p q (x ∷ xs) e = ap₂ (λ a b. a || b) (e x) (any_same p q xs e)

-- the keys tell whether the instance of a reference is finished
pub found_is : (keys : List Name) (done : List Instance) (r : Reference) → IsIndexed keys done
    → is_some (number_of (key_of r.name r.args) keys) ≡ list_any (is_instance r) done
found_is keys done r indexed =
    numbered_any (key_of r.name r.args) keys ∙ indexed (key_of r.name r.args)
    ∙ any_same (has_key (key_of r.name r.args)) (is_instance r) done (keyed_is r)

-- ---- one instance more, and one fewer

or_known : (a b : Bool) → (b ≡ true → a ≡ true) → a ≡ a || b
or_known true b h = refl
or_known false false h = refl
or_known false true h = h refl

any_append : {A : Type 0} (p : A → Bool) (xs : List A) (x : A) → list_any p (xs ++ x ∷ []) ≡ list_any p xs || p x
any_append p xs x = list_any-append p xs (x ∷ []) ∙ ap (λ z. list_any p xs || z) (or_false (p x))
  where
    or_false : (a : Bool) → a || false ≡ a
    or_false true = refl
    or_false false = refl

-- with its key the instances are found by their keys again
pub indexed_more : (keys : List Name) (done : List Instance) (i : Instance) → IsIndexed keys done
    → IsIndexed (with_name keys (key_of i.name i.args)) (done ++ i ∷ [])
indexed_more keys done i indexed key =
    go (list_any (is_called (key_of i.name i.args)) keys) refl
  where
    here : List ℕ
    here = key_of i.name i.args

    all : list_any (has_key key) (done ++ i ∷ []) ≡ list_any (is_called key) keys || bytes_eq key here
    all = any_append (has_key key) done i ∙ ap (λ z. z || bytes_eq key here) (sym (indexed key))

    there : list_any (is_called here) keys ≡ true → bytes_eq key here ≡ true → list_any (is_called key) keys ≡ true
    there is same = let e : key ≡ here = (bytes_eq-Decides key here).0 same in rw e is

    go : (d : Bool) → list_any (is_called here) keys ≡ d
        → list_any (is_called key) (with_name keys here) ≡ list_any (has_key key) (done ++ i ∷ [])
    go true is = rw is (or_known (list_any (is_called key) keys) (bytes_eq key here) (there is) ∙ sym all)
    go false is = rw is (any_append (is_called key) keys (record { bytes = here }) ∙ sym all)

front_is : {A : Type 0} (xs ys : List A) (x y : A) → xs ++ x ∷ [] ≡ ys ++ y ∷ [] → xs ≡ ys
front_is [] [] x y e = refl
front_is [] (b ∷ ys) x y e = absurd (not_none-list ys y cc)
  where
    not_none-list : {A : Type 0} (zs : List A) (z : A) → [] ≡ zs ++ z ∷ [] → ⊥
    not_none-list [] z n = absurd cc
    not_none-list (c ∷ zs) z n = absurd cc
front_is (a ∷ xs) [] x y e = absurd (not_none-list xs x cc)
  where
    not_none-list : {A : Type 0} (zs : List A) (z : A) → zs ++ z ∷ [] ≡ [] → ⊥
    not_none-list [] z n = absurd cc
    not_none-list (c ∷ zs) z n = absurd cc
front_is (a ∷ xs) (b ∷ ys) x y e = let head : a ≡ b = cc in let tail : xs ++ x ∷ [] ≡ ys ++ y ∷ [] = cc in
    ap₂ (λ h t. h ∷ t) head (front_is xs ys x y tail)

-- what held before the last instance holds without it
pub popped : (P : List Instance → Type 0) (done old less : List Instance) (i : Instance) (last : Option Instance) → P done
    → old ≡ done ++ i ∷ [] → MatchOption last ((old ≡ []) × (less ≡ [])) (λ j. old ≡ less ++ j ∷ []) → P less
popped P done old less i (Some j) holds is e = rw (front_is less done j i (sym e ∙ is)) holds
popped P [] old less i None holds is e = absurd cc
popped P (x ∷ done) old less i None holds is e = absurd cc
