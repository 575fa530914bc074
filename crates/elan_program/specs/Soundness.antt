-- When a signature is sound.
use Rattle.std.specs.Prelude.{ℕ, zero, suc, ◌^◌, Bool, true, false, not, ◌&&◌, ◌==◌, if◌then◌else◌, nat_lt, Option, Some, None, List, [], ◌∷◌, length}
use Rattle.std.specs.List.{list_all, list_any, filter, flat_map}
use Rattle.elan_terms.specs.declared.tree.SortId.{SortId}
use Rattle.elan_terms.specs.Match.{is_sort}
use Rattle.elan_program.specs.declared.signature.Builtin.{Builtin}
use Rattle.elan_program.specs.declared.signature.Builtin.TheVariants as by
use Rattle.elan_program.specs.declared.signature.Piece.{Piece}
use Rattle.elan_program.specs.declared.signature.Piece.TheVariants.{Hole, Word}
use Rattle.elan_program.specs.declared.signature.Operator.{Operator}
use Rattle.elan_program.specs.declared.signature.Truth.{Truth}
use Rattle.elan_program.specs.declared.signature.Signature.{Signature}
use Rattle.elan_program.specs.Signature.{builtin_at}
use Rattle.elan_program.specs.Spelling.{is_spelled}

-- ---- sorts

-- numbers of sorts, operators, rules and named strategies are below this
abbrev pub most : ℕ
most = 2 ^ 32

-- whether there is a sort of this number
abbrev pub has_sort_id : Signature → SortId → Bool
has_sort_id g s = nat_lt s.0 (length g.sorts)

-- whether two numbers name one sort
abbrev pub same_sort : SortId → SortId → Bool
same_sort s t = s.0 == t.0

-- the sort of truth values, if there is one
abbrev pub truth_sort : Option Truth → Option SortId
truth_sort None = None
truth_sort (Some truth) = Some truth.sort

-- ---- spellings

-- how many arguments a spelling has
abbrev pub holes : List Piece → ℕ
holes [] = 0
holes (Hole ∷ pieces) = suc (holes pieces)
holes (Word name ∷ pieces) = holes pieces

-- whether each word of a spelling is one that a spelling may have
abbrev pub are_spelled : List Piece → Bool
are_spelled [] = true
are_spelled (Hole ∷ pieces) = are_spelled pieces
are_spelled (Word name ∷ pieces) = is_spelled name.bytes && are_spelled pieces

-- whether a list has at least one element
abbrev pub is_some_list : {A : Type 0} → List A → Bool
is_some_list [] = false
is_some_list (x ∷ xs) = true

-- a spelling has at least one piece, as many holes as the operator has arguments, and only words that it may have
unfoldable pub is_spelling_of : Operator → Bool
is_spelling_of o = is_some_list o.pieces && (holes o.pieces == length o.args && are_spelled o.pieces)

-- ---- argument sorts

-- no arguments
abbrev pub no_args : List SortId → Bool
no_args [] = true
no_args (s ∷ ss) = false

-- one argument, whose sort passes the test
abbrev pub one_arg : (SortId → Bool) → List SortId → Bool
one_arg p (s ∷ []) = p s
one_arg p _ = false

-- two arguments, whose sorts pass the test
abbrev pub two_args : (SortId → Bool) → List SortId → Bool
two_args p (s ∷ t ∷ []) = p s && p t
two_args p _ = false

-- two arguments of one sort
abbrev pub two_same : List SortId → Bool
two_same (s ∷ t ∷ []) = same_sort s t
two_same _ = false

-- an associative and commutative operator has two arguments of its own sort
abbrev pub ac_fits : Operator → Bool
ac_fits o = if o.ac then two_args (same_sort o.sort) o.args else true

-- ---- built-in operators

-- whether a built-in operation has arguments of these sorts
unfoldable pub takes : Signature → Builtin → List SortId → Bool
takes g by.Yes = no_args
takes g by.No = no_args
takes g by.Not = one_arg (is_sort (truth_sort g.truth))
takes g by.And = two_args (is_sort (truth_sort g.truth))
takes g by.Or = two_args (is_sort (truth_sort g.truth))
takes g by.Same = two_same
takes g by.Differ = two_same
takes g _ = two_args (is_sort g.int)

-- whether a built-in operation makes something of this sort: the arithmetic ones make integers, all others truth values
unfoldable pub makes : Signature → Builtin → SortId → Bool
makes g by.Add = is_sort g.int
makes g by.Sub = is_sort g.int
makes g by.Mul = is_sort g.int
makes g by.Div = is_sort g.int
makes g by.Mod = is_sort g.int
makes g _ = is_sort (truth_sort g.truth)

-- a built-in operator is not associative and commutative, and has the sorts of its operation
abbrev pub builtin_fits : Signature → Operator → Option Builtin → Bool
builtin_fits g o None = true
builtin_fits g o (Some b) = not o.ac && (takes g b o.args && makes g b o.sort)

-- whether these are the constant `true`
abbrev pub is_yes : Option Builtin → Bool
is_yes (Some by.Yes) = true
is_yes _ = false

-- whether these are the constant `false`
abbrev pub is_no : Option Builtin → Bool
is_no (Some by.No) = true
is_no _ = false

-- the two operators of the truth values are the built-in constants of their sort, where there are truth values
abbrev pub truth_fits : Signature → Option Truth → Bool
truth_fits g None = true
truth_fits g (Some truth) = has_sort_id g truth.sort && (is_yes (builtin_at g truth.yes) && is_no (builtin_at g truth.no))

-- the sort of integers is one of the sorts, where there are integers
abbrev pub int_fits : Signature → Option SortId → Bool
int_fits g None = true
int_fits g (Some s) = has_sort_id g s

-- ---- injections

-- an operator whose spelling is one hole leads from its argument's sort to its own
abbrev pub leads : List Piece → List SortId → SortId → List (ℕ × ℕ)
leads (Hole ∷ []) (s ∷ []) t = (s.0, t.0) ∷ []
leads _ _ t = []

-- from where to where the injections lead
unfoldable pub injections : Signature → List (ℕ × ℕ)
injections g = flat_map (λ o. leads o.pieces o.args o.sort) g.operators

-- the injections at whose end one of the others begins
unfoldable pub led_on : List (ℕ × ℕ) → List (ℕ × ℕ) → List (ℕ × ℕ)
led_on others = filter (λ i. list_any (λ j. j.0 == i.1) others)

-- the injections with which a chain of n + 1 injections begins
abbrev pub chains : List (ℕ × ℕ) → ℕ → List (ℕ × ℕ)
chains all zero = all
chains all (suc n) = led_on (chains all n) all

-- No chain of injections is longer than there are sorts. A chain that comes back to where it began has no end, and a
-- chain that is longer than there are sorts has come back to a sort.
unfoldable pub has_no_cycle : Signature → Bool
has_no_cycle g = not (is_some_list (chains (injections g) (length g.sorts)))

-- ---- signatures

-- an operator's spelling, its sorts and its operation fit together
unfoldable pub is_sound_operator : Signature → Operator → Bool
is_sound_operator g o =
    (is_spelling_of o && (list_all (has_sort_id g) o.args && has_sort_id g o.sort))
    && (ac_fits o && builtin_fits g o o.builtin)

-- There are fewer than 4,294,967,296 sorts and operators, all numbers are in range, each operator is sound, the constants
-- of the truth values are the built-in ones, and the injections have no cycle.
unfoldable pub is_sound : Signature → Bool
is_sound g =
    (nat_lt (length g.sorts) most && nat_lt (length g.operators) most)
    && (list_all (is_sound_operator g) g.operators && (int_fits g g.int && (truth_fits g g.truth && has_no_cycle g)))
