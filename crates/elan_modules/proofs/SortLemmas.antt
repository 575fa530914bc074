-- Words of spans, and how many names there are in them.
use Rattle.std.proofs.Common.{◌≡◌, ℕ, suc, ◌+◌, ◌||◌, ◌==◌, Bool, true, false, cond, List, [], ◌∷◌, ◌++◌, drop, map, length, slice_range, refl, ap, sym, ◌∙◌, arith}
use Rattle.std.proofs.lemmas.List.{drop-map, take_rest}
use Rattle.elan_modules.specs.Sorts.{names_in, separators}

-- the words behind the first ones are those of the tokens behind them
pub drop_words : {A B : Type 0} (f : A → B) (n : ℕ) (xs : List A) → map f (slice_range xs n (length xs)) ≡ drop n (map f xs)
drop_words f n xs = ap (map f) (take_rest xs n) ∙ sym (drop-map f n xs)

-- ---- names

-- there is one name more than separators
pub names_are : (bs : List ℕ) → names_in bs ≡ suc (separators bs)
unfolding names_in separators
names_are [] = refl
names_are (b ∷ bs) = go (b == 91 || b == 44) (names_are bs)
  where
    go : (d : Bool) → names_in bs ≡ suc (separators bs)
        → cond d (suc (names_in bs)) (names_in bs) ≡ suc (cond d (suc (separators bs)) (separators bs))
    go true e = ap suc e
    go false e = e

pub separators_append : (a b : List ℕ) → separators (a ++ b) ≡ separators a + separators b
unfolding separators
separators_append [] b = omega arith
separators_append (x ∷ a) b = go (x == 91 || x == 44) (separators_append a b)
  where
    go : (d : Bool) → separators (a ++ b) ≡ separators a + separators b
        → cond d (suc (separators (a ++ b))) (separators (a ++ b)) ≡ cond d (suc (separators a)) (separators a) + separators b
    go true e = omega (arith, e)
    go false e = e
