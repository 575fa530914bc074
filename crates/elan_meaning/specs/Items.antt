-- Lists of items and of entries, and how lists are put together.
use Rattle.std.specs.Prelude.{ℕ, Bool, if◌then◌else◌, List, [], ◌∷◌, ◌++◌}
use Rattle.elan_terms.specs.declared.tree.Term.{Term}
use Rattle.elan_meaning.specs.declared.item.Entry.{Entry}
use Rattle.elan_meaning.specs.declared.item.Entry.TheVariants.{At, Stop}
use Rattle.elan_meaning.specs.declared.item.Item.{Item}
use Rattle.elan_meaning.specs.declared.item.Item.TheVariants.{Res, Mark}

-- each result replaced by its list, and each mark kept, in order
abbrev pub on_results : List Item → (Term → ℕ → List Item) → List Item
on_results [] k = []
on_results (Res t m ∷ is) k = k t m ++ on_results is k
on_results (Mark c ∷ is) k = Mark c ∷ on_results is k

-- the first list, or the second where the first is empty
abbrev pub or_else : List Item → List Item → List Item
or_else [] js = js
or_else (i ∷ is) js = i ∷ is

-- the first list that is not empty
abbrev pub first_of : List (List Item) → List Item
first_of [] = []
first_of (is ∷ more) = or_else is (first_of more)

-- the first item alone
abbrev pub head : List Item → List Item
head [] = []
head (i ∷ is) = i ∷ []

-- the first item alone where only one is wanted, and else all
unfoldable pub chosen : Bool → List Item → List Item
chosen one is = if one then head is else is

-- the first item, or another where there is none
abbrev pub first_or : List Item → Item → Item
first_or [] j = j
first_or (i ∷ is) j = i

-- ---- entries: terms in a row with the steps left, or a mark

-- each item's terms put before those of the entries that follow it
abbrev pub before : Term → List Entry → List Entry
before t [] = []
before t (At ts m ∷ es) = At (t ∷ ts) m ∷ before t es
before t (Stop c ∷ es) = Stop c ∷ before t es

-- each result replaced by its entries, and each mark kept, in order
abbrev pub rows_of : List Item → (Term → ℕ → List Entry) → List Entry
rows_of [] k = []
rows_of (Res t m ∷ is) k = k t m ++ rows_of is k
rows_of (Mark c ∷ is) k = Stop c ∷ rows_of is k

-- each row replaced by its items, and each mark kept, in order
abbrev pub items_of : List Entry → (List Term → ℕ → List Item) → List Item
items_of [] k = []
items_of (At ts m ∷ es) k = k ts m ++ items_of es k
items_of (Stop c ∷ es) k = Mark c ∷ items_of es k

-- ---- one item and one entry

-- the item of a row, or the mark
abbrev pub one_of : Entry → (List Term → ℕ → Item) → Item
one_of (At ts m) k = k ts m
one_of (Stop c) k = Mark c

-- the entry of a result, or the mark
abbrev pub row_of : Item → (Term → ℕ → Entry) → Entry
row_of (Res t m) k = k t m
row_of (Mark c) k = Stop c

-- a term put before those of the entry that follows it
abbrev pub after : Term → Entry → Entry
after t (At ts m) = At (t ∷ ts) m
after t (Stop c) = Stop c

-- ---- names of functions that are handed on, by which a proof search knows them

-- an argument's result before those of the arguments that come after it
unfoldable pub then_after : (ℕ → Entry) → Term → ℕ → Entry
then_after k u m = after u (k m)

-- an argument's result before each row of the arguments that come after it
unfoldable pub then_before : (ℕ → List Entry) → Term → ℕ → List Entry
then_before k u m = before u (k m)

-- what follows a match, whose values come after those that are bound
unfoldable pub matched : (List Term → ℕ → List Entry) → List Term → ℕ → List Term → List Entry
matched rest a n b = rest (a ++ b) n

-- ---- one after the other, with the steps running on

-- arguments under an assignment from left to right, each with the steps that the one before left
abbrev pub in_turn : List (List Term → ℕ → Item) → List Term → ℕ → Entry
in_turn [] a n = At [] n
in_turn (f ∷ fs) a n = row_of (f a n) (then_after (in_turn fs a))

-- arguments from left to right, each with all its items: the rows of results, each mark on its own
abbrev pub rows : List (ℕ → List Item) → ℕ → List Entry
rows [] n = At [] n ∷ []
rows (f ∷ fs) n = rows_of (f n) (then_before (rows fs))

-- each strategy on the argument of its place
abbrev pub paired : List (Term → ℕ → List Item) → List Term → List (ℕ → List Item)
paired [] us = []
paired (f ∷ fs) [] = []
paired (f ∷ fs) (u ∷ us) = f u ∷ paired fs us

-- one strategy after the other, each on each result
abbrev pub sequence : List (Term → ℕ → List Item) → Term → ℕ → List Item
sequence [] t n = Res t n ∷ []
sequence (f ∷ fs) t n = on_results (f t n) (sequence fs)
