-- What the name of a strategy stands for, among all rules, definitions and operators of a program.
use Rattle.std.specs.Prelude.{ℕ, ◌+◌, ◌==◌, Bool, true, false, ◌&&◌, ◌||◌, if◌then◌else◌, nat_lt, Option, Some, None, Result, Ok, Err, List, [], ◌∷◌, ◌++◌, take, codes}
use Rattle.std.specs.List.{list_any}
use Rattle.std.specs.Option.{option_map}
use Rattle.std.specs.Str.{bytes_eq}
use Rattle.elan_text.specs.declared.name.Name.{Name}
use Rattle.elan_text.specs.declared.refusal.Code.{Code}
use Rattle.elan_text.specs.declared.refusal.Code.TheVariants.{E07, E16, E20, E22}
use Rattle.elan_terms.specs.declared.tree.SortId.{SortId}
use Rattle.elan_program.specs.declared.signature.Operator.{Operator}
use Rattle.elan_program.specs.declared.signature.Piece.{Piece}
use Rattle.elan_program.specs.declared.signature.Piece.TheVariants.{Hole, Word as APiece}
use Rattle.elan_program.specs.declared.strategy.Strategy.{Strategy}
use Rattle.elan_program.specs.declared.strategy.StrategyNode.TheVariants as made
use Rattle.elan_program.specs.Soundness.{same_sort}
use Rattle.elan_names.specs.declared.heads.Label.{Label}
use Rattle.elan_names.specs.declared.heads.Head.{Head}
use Rattle.elan_names.specs.declared.heads.Names.{Names}
use Rattle.elan_names.specs.declared.heads.Target.{Target}
use Rattle.elan_names.specs.declared.heads.Target.TheVariants.{Definition, Operator as AnOperator}

-- the bytes of a word
abbrev pub Word : Type 0
Word = List ℕ

-- a number, where a test passed
abbrev pub where_passed : Bool → ℕ → List ℕ
where_passed true n = n ∷ []
where_passed false n = []

-- the numbers of those that pass a test, where the first of all has this number
abbrev pub places : {A : Type 0} → (A → Bool) → ℕ → List A → List ℕ
places p n [] = []
places p n (x ∷ xs) = where_passed (p x) n ++ places p (n + 1) xs

-- the first that passes a test, with its number, where the first of all has this number
abbrev pub first : {A : Type 0} → (A → Bool) → ℕ → List A → Option (ℕ × A)
first p n [] = None
first p n (x ∷ xs) = if p x then Some (n, x) else first p (n + 1) xs

-- ---- which rules and definitions have a name

-- a name has these bytes
abbrev pub is_word : Word → Name → Bool
is_word word name = bytes_eq name.bytes word

-- there is a name, and it has these bytes
abbrev pub is_label : Word → Option Name → Bool
is_label word None = false
is_label word (Some name) = is_word word name

-- a rule has this label
abbrev pub is_labelled : Word → Label → Bool
is_labelled word l = is_label word l.name

-- a rule has this label and this sort
abbrev pub is_rule_of : Word → SortId → Label → Bool
is_rule_of word sort l = is_labelled word l && same_sort l.sort sort

-- a definition has this name
abbrev pub is_head : Word → Head → Bool
is_head word h = is_word word h.name

-- a definition has this name and this sort
abbrev pub is_head_of : Word → SortId → Head → Bool
is_head_of word sort h = is_head word h && same_sort h.sort sort

-- a definition has parameters
abbrev pub has_parameters : Head → Bool
has_parameters h = nat_lt 0 h.parameters

-- a definition with parameters has this name
abbrev pub is_wide_head : Word → Head → Bool
is_wide_head word h = is_head word h && has_parameters h

-- a definition with parameters has this name and this sort
abbrev pub is_wide_head_of : Word → SortId → Head → Bool
is_wide_head_of word sort h = is_head_of word sort h && has_parameters h

-- a definition or a rule has this name, for whatever sort
abbrev pub is_anywhere : Names → Word → Bool
is_anywhere names word = list_any (is_head word) names.heads || list_any (is_labelled word) names.labels

-- whether a definition among so many first ones, or a rule, has this name and this sort
abbrev pub is_taken : Names → ℕ → SortId → Word → Bool
is_taken names before sort word =
    list_any (is_head_of word sort) (take before names.heads) || list_any (is_rule_of word sort) names.labels

-- why a name means nothing at a sort: it is for another one, or there is none
abbrev pub missing : Bool → Code
missing true = E22
missing false = E20

-- ---- a name alone

-- the rules of these numbers, or a refusal where there is none
abbrev pub rules_or : List ℕ → Code → Result Strategy Code
rules_or [] code = Err code
rules_or (n ∷ ns) code = Ok (record { node = made.Label (n ∷ ns) })

-- a definition that has no parameters, or else what comes behind definitions
abbrev pub call_or : Option (ℕ × Head) → Result Strategy Code → Result Strategy Code
call_or None other = other
call_or (Some d) other = if has_parameters d.1 then Err E07 else Ok (record { node = made.Call d.0 [] })

-- A name alone is the first definition of that name for the sort, which must have no parameters; or else the rules of
-- that label for it.
unfoldable pub named : Names → SortId → Word → Result Strategy Code
named names sort word =
    call_or (first (is_head_of word sort) 0 names.heads)
    (rules_or (places (is_rule_of word sort) 0 names.labels) (missing (is_anywhere names word)))

-- ---- a name over strategies in parentheses

-- whether a word piece is this sign
abbrev pub is_mark : Word → Name → Bool
is_mark sign mark = bytes_eq mark.bytes sign

-- how many holes there are, where `,` stands between them and `)` behind them
abbrev pub closing : List Piece → Option ℕ
closing (Hole ∷ APiece mark ∷ []) = if is_mark (codes ")") mark then Some 1 else None
closing (Hole ∷ APiece mark ∷ p ∷ ps) =
    if is_mark (codes ",") mark then option_map (λ n. n + 1) (closing (p ∷ ps)) else None
closing _ = None

-- the name of a spelling that is a name, `(`, holes with `,` between them, and `)`; and how many holes there are
abbrev pub prefix_of : List Piece → Option (Word × ℕ)
prefix_of (APiece name ∷ APiece mark ∷ ps) =
    if is_mark (codes "(") mark then option_map (λ n. (name.bytes, n)) (closing ps) else None
prefix_of _ = None

-- the same of an operator, where it is not associative and commutative
abbrev pub prefix_at : Operator → Option (Word × ℕ)
prefix_at o = if o.ac then None else prefix_of o.pieces

-- a prefix is there, of this name and with so many holes
abbrev pub is_prefix : Word → ℕ → Option (Word × ℕ) → Bool
is_prefix word n None = false
is_prefix word n (Some p) = bytes_eq p.0 word && p.1 == n

-- an operator is spelled so
abbrev pub is_prefixed : Word → ℕ → Operator → Bool
is_prefixed word n o = is_prefix word n (prefix_at o)

-- the same, and it makes terms of this sort
abbrev pub is_prefixed_of : Word → ℕ → SortId → Operator → Bool
is_prefixed_of word n sort o = is_prefixed word n o && same_sort o.sort sort

-- the operator of these numbers, where there is one number
abbrev pub operator_or : List ℕ → Code → Result Target Code
operator_or [] code = Err code
operator_or (k ∷ []) code = Ok (AnOperator (record { 0 = k }))
operator_or (k ∷ j ∷ more) code = Err E16

-- a definition, where it has so many parameters, or else what comes behind definitions
abbrev pub definition_or : ℕ → Option (ℕ × Head) → Result Target Code → Result Target Code
definition_or n None other = other
definition_or n (Some d) other = if d.1.parameters == n then Ok (Definition d.0) else Err E07

-- a definition with parameters, or an operator with so many holes, has this name, for whatever sort
abbrev pub is_applied_anywhere : Names → List Operator → Word → ℕ → Bool
is_applied_anywhere names operators word n =
    list_any (is_wide_head word) names.heads || list_any (is_prefixed word n) operators

-- A name over so many strategies is the first definition of that name for the sort that has parameters, which must be so
-- many; or else the only operator of the sort that is spelled so.
unfoldable pub applied : Names → List Operator → SortId → Word → ℕ → Result Target Code
applied names operators sort word n =
    definition_or n (first (is_wide_head_of word sort) 0 names.heads)
    (operator_or (places (is_prefixed_of word n sort) 0 operators) (missing (is_applied_anywhere names operators word n)))
