-- Which symbols are in two sets: by trying all of them.
use Rattle.std.proofs.Common.{◌≡◌, Bool, true, false, ◌&&◌, ◌||◌, List, [], ◌∷◌, refl, sym, subst, rules}
use Rattle.std.specs.Prelude.{not}
use denote.Enum.Bare.{same_true, true_same}
use Rattle.elan_forms.proofs.Takes.{Separate, Within}
use Rattle.elan_phrases.specs.declared.symbol.Symbol.{Symbol}
use Rattle.elan_phrases.specs.declared.symbol.Symbol.TheVariants.{Module, Import, Sort, Operators, Rules, Strategies, For, Global, Local, End, Where, If, Lpl, Number, Arrow, Becomes, Comma, Semicolon, Colon, LeftRound, RightRound, LeftSquare, RightSquare, Hole, Star, Plus, Sign, Id, Fail, Dk, Dc, First, Repeat, Iterate, Normalise, One, Implicit, Pri, AssocLeft, AssocRight, Ac, Description, Query, Of, Result, Start, With, Name}
use Rattle.elan_phrases.specs.contracts.symbol.Symbol.{the_type}
use Rattle.elan_phrases.specs.Symbols.{same_symbol}

-- all symbols
abbrev pub all_symbols : List Symbol
all_symbols =
    Module ∷ Import ∷ Sort ∷ Operators ∷ Rules ∷ Strategies ∷ For ∷ Global ∷ Local ∷ End ∷ Where ∷ If ∷ Lpl ∷ Number
    ∷ Arrow ∷ Becomes ∷ Comma ∷ Semicolon ∷ Colon ∷ LeftRound ∷ RightRound ∷ LeftSquare ∷ RightSquare ∷ Hole ∷ Star
    ∷ Plus ∷ Sign ∷ Id ∷ Fail ∷ Dk ∷ Dc ∷ First ∷ Repeat ∷ Iterate ∷ Normalise ∷ One ∷ Implicit ∷ Pri ∷ AssocLeft
    ∷ AssocRight ∷ Ac ∷ Description ∷ Query ∷ Of ∷ Result ∷ Start ∷ With
    ∷ Name ∷ []

-- the test holds of each of these
abbrev pub holds_of : (Symbol → Bool) → List Symbol → Bool
holds_of test [] = true
holds_of test (s ∷ ss) = test s && holds_of test ss

-- one of these is the symbol
is_among : Symbol → List Symbol → Bool
is_among x [] = false
is_among x (s ∷ ss) = same_symbol x s || is_among x ss

-- the test holds of every symbol
abbrev pub every : (Symbol → Bool) → Bool
every test = holds_of test all_symbols

and_left : (x y : Bool) → x && y ≡ true → x ≡ true
and_left true y e = refl
and_left false y e = e

and_right : (x y : Bool) → x && y ≡ true → y ≡ true
and_right true y e = e
and_right false y e = absurd cc

all_are_among : (x : Symbol) → is_among x all_symbols ≡ true
unfolding is_among same_symbol
all_are_among Module = refl
all_are_among _ = refl

at_each : (test : Symbol → Bool) (x : Symbol) (ss : List Symbol) → holds_of test ss ≡ true → is_among x ss ≡ true →
    test x ≡ true
unfolding is_among same_symbol
at_each test x [] h e = absurd cc
at_each test x (s ∷ ss) h e = go (at_each test x ss (and_right (test s) (holds_of test ss) h)) (same_symbol x s) refl e
  where
    go : (is_among x ss ≡ true → test x ≡ true) → (d : Bool) → same_symbol x s ≡ d → d || is_among x ss ≡ true →
        test x ≡ true
    go later true same e2 = subst (λ z. test z ≡ true) (sym (same_true the_type (search rules) x s same))
        (and_left (test s) (holds_of test ss) h)
    go later false same e2 = later e2

every_at : (test : Symbol → Bool) → every test ≡ true → (x : Symbol) → test x ≡ true
every_at test h x = at_each test x all_symbols h (all_are_among x)

pub same_is : (x : Symbol) → same_symbol x x ≡ true
unfolding same_symbol
same_is x = true_same the_type x x refl

-- no symbol is in both
abbrev pub never_both : (Symbol → Bool) → (Symbol → Bool) → Bool
never_both p q = every (λ s. not (p s && q s))

-- each symbol of the first is in the second
abbrev pub always_in : (Symbol → Bool) → (Symbol → Bool) → Bool
always_in p q = every (λ s. not (p s) || q s)

pub separate : {p q : Symbol → Bool} → never_both p q ≡ true → Separate p q
separate {p} {q} h = record { never = λ s ps qs. go (p s) (q s) ps qs (every_at (λ x. not (p x && q x)) h s) }
  where
    go : (x y : Bool) → x ≡ true → y ≡ true → not (x && y) ≡ true → ⊥
    go true true px qy e = absurd cc
    go true false px qy e = absurd cc
    go false y px qy e = absurd cc

pub within : {p q : Symbol → Bool} → always_in p q ≡ true → Within p q
within {p} {q} h = record { also = λ s ps. go (p s) (q s) ps (every_at (λ x. not (p x) || q x) h s) }
  where
    go : (x y : Bool) → x ≡ true → not x || y ≡ true → y ≡ true
    go true y px e = e
    go false y px e = absurd cc
