-- What is known of the arguments of a node of an associative and commutative operator.
use Rattle.std.specs.Prelude.{◌≡◌, ℕ, ◌+◌, ◌≤◌, ◌<◌, Bool, ◌&&◌, is_some, nat_lt, not, Option, Some, None, List, [], ◌∷◌, ◌++◌, if◌then◌else◌}
use Rattle.std.specs.List.{All, filter, list_any, Contains}
use Rattle.boxcar.specs.Table.{Where}
use Rattle.elan_terms.specs.declared.tree.OpId.{OpId}
use Rattle.elan_terms.specs.declared.tree.SortId.{SortId}
use Rattle.elan_terms.specs.declared.tree.Term.{Term}
use Rattle.elan_terms.specs.declared.tree.Pattern.{Pattern}
use Rattle.elan_terms.specs.declared.tree.PatternNode as pattern
use Rattle.elan_terms.specs.declared.tree.Shapes.{Shapes}
use Rattle.elan_terms.specs.Term.{depth}
use Rattle.elan_terms.specs.Match.{instance}
use Rattle.elan_terms.specs.Ascending.{Ascends}
use Rattle.elan_laws.specs.Parts.{times}
use Rattle.elan_table.specs.Rows.{terms}
use Rattle.elan_arms.specs.Arms.{is_variable, apart_node, times_brought}
use Rattle.elan_shares.specs.declared.share.Places.{Places}
use Rattle.elan_shares.specs.Shares.{IsShare}
use Rattle.elan_look.specs.declared.count.Counts.{Counts}
use Rattle.elan_look.specs.declared.low.Low.{Low}
use Rattle.elan_look.specs.declared.sight.Sight.{Sight}
use Rattle.elan_look.specs.Sights.{is_given, is_sought, seeks}
use Rattle.elan_look.specs.Tells.{Knows, Agrees, Allows, IsTaken}

module _ {N : Type 0} where
  -- ---- patterns

  -- those patterns, of a pattern that gives way to its own where the operator heads it, whose values are all known
  abbrev pub settled_of : Sight N → OpId → Pattern → List Pattern
  settled_of s op p = filter (is_given s) (apart_node op p.node)

  -- the others of them
  abbrev pub loose_of : Sight N → OpId → Pattern → List Pattern
  loose_of s op p = filter (λ q. not (is_given s q)) (apart_node op p.node)

  -- the same of a list of patterns
  abbrev pub settled : Sight N → OpId → List Pattern → List Pattern
  settled s op [] = []
  settled s op (p ∷ ps) = settled_of s op p ++ settled s op ps

  abbrev pub loose : Sight N → OpId → List Pattern → List Pattern
  loose s op [] = []
  loose s op (p ∷ ps) = loose_of s op p ++ loose s op ps

  -- whether the sought variable, its value not known, stands inside one of these patterns
  abbrev pub seeks_inside : Sight N → List Pattern → Bool
  seeks_inside s = list_any (λ p. not (is_variable p) && seeks s p)

  -- ---- arguments that are taken away

  -- each term stands among the terms as often as the patterns bring it and as it is left
  pub record AreLeft (shapes : Shapes) (s : Sight N) (op : OpId) (ps : List Pattern) (us ws : List Term) : Type 0 where
    pub all : (value : ℕ → Term) → Knows s value → (u : Term) → times u us ≡ times_brought shapes value op u ps + times u ws
    pub ascend : Ascends ws

  -- what is found is left when those that the patterns bring are taken away; nothing is found where they are not all there
  abbrev pub TakesAway : Shapes → Sight N → OpId → List Pattern → List Term → Option (List (Where Term)) → Type 0
  TakesAway shapes s op ps us None = (value : ℕ → Term) → Agrees shapes s value → ((u : Term) → times_brought shapes value op u ps ≤ times u us) → ⊥
  TakesAway shapes s op ps us (Some ws) = AreLeft shapes s op ps us (terms ws)

  -- what is found is what the pattern is with the known values; nothing is found where the pattern is none of the terms
  abbrev pub FindsIn : Shapes → Sight N → Pattern → List Term → Option (Where Term) → Type 0
  FindsIn shapes s p us None = (value : ℕ → Term) → Agrees shapes s value → Contains us (instance shapes value p) → ⊥
  FindsIn shapes s p us (Some row) = (value : ℕ → Term) → Knows s value → instance shapes value p ≡ row.value

  -- ---- arguments that are left

  -- one more of its kind
  abbrev pub one_more : Sight N → pattern.PatternNode → Counts → Counts
  one_more s (pattern.Var x sort) c = if is_sought s x then record c { sought = c.sought + 1 } else record c { free = c.free + 1 }
  one_more s (pattern.Int z) c = record c { others = c.others + 1 }
  one_more s (pattern.App' op shape row) c = record c { others = c.others + 1 }

  -- how many of the patterns are of each kind, and as many as there were
  abbrev pub counted : Sight N → List Pattern → Counts → Counts
  counted s [] c = c
  counted s (p ∷ ps) c = counted s ps (one_more s p.node c)

-- nothing is counted yet
abbrev pub none_counted : Counts
none_counted = record { sought = 0; free = 0; others = 0 }

-- the terms are as many as patterns need: one for each, and no other where no pattern is a variable
abbrev pub MayServe : Counts → ℕ → Type 0
MayServe c many = (c.sought + c.free + c.others ≤ many) × (c.sought + c.free ≡ 0 → c.others ≡ many)

-- each term stands among the terms as often as the patterns bring it
unfoldable pub Serve : Shapes → OpId → List Pattern → List Term → (ℕ → Term) → Type 0
Serve shapes op ps us value = (u : Term) → times u us ≡ times_brought shapes value op u ps

-- each term stands among the terms at least as often as the patterns bring it
unfoldable pub AreThere : Shapes → OpId → List Pattern → List Term → (ℕ → Term) → Type 0
AreThere shapes op ps us value = (u : Term) → times_brought shapes value op u ps ≤ times u us

-- the pattern is one of the terms
unfoldable pub IsAmong : Shapes → Pattern → List Term → (ℕ → Term) → Type 0
IsAmong shapes p us value = Contains us (instance shapes value p)

-- ---- what the sought variable takes of the arguments that are left

-- each of the terms may stand under an operator
abbrev pub AreShallow : List Term → Type 0
AreShallow = All (λ t. depth t < 2000)

-- the patterns that were counted, as places
abbrev pub places_of : Counts → Places
places_of c = record { sought = c.sought; free = c.free; others = c.others }

-- the variable that is sought, if there is one, may take the term at its places, of which there is at least one
abbrev pub MayTake : Shapes → OpId → List Term → Counts → Option (ℕ × SortId) → Option (Where Term) → Term → Type 0
MayTake shapes op us c None floor u = Unit {0}
MayTake shapes op us c (Some v) floor u = 0 < c.sought → IsShare shapes op us (places_of c) v.1 floor u

module _ {N : Type 0} where
  -- the bound allows all terms that the sought variable may take
  pub record BoundsShare (shapes : Shapes) (s : Sight N) (op : OpId) (us : List Term) (c : Counts) (low : Low N) : Type 0 where
    pub least : (u : Term) → MayTake shapes op us c s.sought s.floor u → Allows low u
    pub taken : IsTaken shapes s low

  -- whether there is a variable that is sought, and it has a place
  abbrev pub has_place : Sight N → Counts → Bool
  has_place s c = is_some s.sought && nat_lt 0 c.sought
