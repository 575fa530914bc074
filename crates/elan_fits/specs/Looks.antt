-- What can be known of the next variable's value when the first variables have values. Only private functions speak of it.
use Rattle.std.specs.Prelude.{◌≡◌, ℕ, suc, ◌+◌, ◌==◌, if◌then◌else◌, Bool, true, false, Option, Some, None, List, [], ◌∷◌, map, IsTrue}
use Rattle.std.specs.List.{flat_map}
use Rattle.elan_terms.specs.declared.tree.OpId.{OpId}
use Rattle.elan_terms.specs.declared.tree.SortId.{SortId}
use Rattle.elan_terms.specs.declared.tree.Term.{Term}
use Rattle.elan_terms.specs.declared.tree.Pattern.{Pattern}
use Rattle.elan_terms.specs.Trees.{app_term}
use Rattle.elan_terms.specs.Term.{same, arms_under, node}
use Rattle.elan_terms.specs.Match.{bound, instance}
use Rattle.elan_terms.specs.Valid.{IsValid}
use Rattle.elan_terms.specs.Canonical.{is_headed, IsCanonical}
use Rattle.elan_laws.specs.Parts.{times}
use Rattle.elan_fits.specs.declared.look.Look.{Look}
use Rattle.elan_fits.specs.declared.look.Look.TheVariants as look
use Rattle.elan_fits.specs.declared.look.Prefix.{Prefix}

-- the value of a variable, if it is one of the first
abbrev pub known : List (ℕ × SortId) → List Term → ℕ → Option Term
known [] ts x = None
known (v ∷ vs) [] x = None
known (v ∷ vs) (t ∷ ts) x = if v.0 == x then Some t else known vs ts x

-- whether the next variable may have this value
abbrev pub admits : Look → Term → Bool
admits look.Never u = false
admits (look.Only w) u = same w u
admits look.Any u = true

-- the variables that have values keep them
abbrev pub Keeps : Prefix → (ℕ → Term) → Type 0
Keeps a value = (x : ℕ) (u : Term) → known a.variables.now a.values.now x ≡ Some u → value x ≡ u

-- and the next variable gets this one
abbrev pub GoesOn : Prefix → (ℕ → Term) → Term → Type 0
GoesOn a value u = Keeps a value × (known a.variables.now a.values.now a.next ≡ None → value a.next ≡ u)

-- where a fact holds of all values of which the next variable's is a valid canonical term, that one is admitted
unfoldable pub Tells : Prefix → Look → ((ℕ → Term) → Type 0) → Type 0
Tells a l Fact = (value : ℕ → Term) (u : Term) → GoesOn a value u → IsValid a.shapes.now u → IsCanonical a.shapes.now u
    → Fact value → IsTrue (admits l u)

-- the pattern is the term under these values
unfoldable pub Makes : Prefix → Pattern → Term → (ℕ → Term) → Type 0
Makes a p t value = instance a.shapes.now value p ≡ t

-- each of the patterns is one of the terms, in order
unfoldable pub MakeEach : Prefix → List Pattern → List Term → (ℕ → Term) → Type 0
MakeEach a ps ts value = map (instance a.shapes.now value) ps ≡ ts

-- what patterns bring under an operator
abbrev pub arms_of : Prefix → OpId → List Pattern → (ℕ → Term) → List Term
arms_of a op ps value = flat_map (arms_under op) (map (instance a.shapes.now value) ps)

-- the patterns bring these terms under an operator, in any order
unfoldable pub Bring : Prefix → OpId → List Pattern → List Term → (ℕ → Term) → Type 0
Bring a op ps ts value = (x : Term) → times x ts ≡ times x (arms_of a op ps value)

-- all variables of the patterns have values
unfoldable pub AreFixed : Prefix → List Pattern → Type 0
AreFixed a ps = (value : ℕ → Term) → Keeps a value
    → map (instance a.shapes.now value) ps ≡ map (instance a.shapes.now (bound a.variables.now a.values.now)) ps

-- the same of one pattern
unfoldable pub IsFixed : Prefix → Pattern → Type 0
IsFixed a p = (value : ℕ → Term) → Keeps a value
    → instance a.shapes.now value p ≡ instance a.shapes.now (bound a.variables.now a.values.now) p

-- an operator over the patterns is the operator over the terms
unfoldable pub MakeNode : Prefix → OpId → List Pattern → List Term → (ℕ → Term) → Type 0
MakeNode a op ps ts value = node a.shapes.now op (map (instance a.shapes.now value) ps) ≡ app_term op ts

-- what a variable brings under an operator is all that is left
unfoldable pub Rest : OpId → ℕ → List Term → (ℕ → Term) → Type 0
Rest op x ts value = (y : Term) → times y ts ≡ times y (arms_under op (value x))

-- whatever the values, the operator does not head the pattern
unfoldable pub IsApart : Prefix → OpId → Pattern → Type 0
IsApart a op p = (value : ℕ → Term) → is_headed op (instance a.shapes.now value p) ≡ false

-- none where there are no terms, else the first
abbrev pub IsAlone : Look → List Term → Type 0
IsAlone l [] = l ≡ look.Never
IsAlone l (t ∷ ts) = l ≡ look.Only t

-- ---- terms struck from a list

-- how many terms stand before the first that is this one
abbrev pub first_same : Term → List Term → ℕ
first_same t [] = 0
first_same t (u ∷ us) = if same t u then 0 else suc (first_same t us)

-- some terms, and those that are left, are what there was
unfoldable pub Struck : List Term → List Term → List Term → Type 0
Struck before some after = (x : Term) → times x before ≡ times x some + times x after

-- some terms are not all there
unfoldable pub Lacks : List Term → List Term → Type 0
Lacks before some = (rest : List Term) → Struck before some rest → ⊥
