-- Ways along edges.
use Rattle.std.proofs.Common.{ℕ, List}
use Rattle.std.specs.List.{Contains}
use Rattle.elan_cycles.specs.declared.edge.Edge.{Edge}
use Rattle.elan_cycles.specs.Edges.{Path, here, along, edge}

-- one way after another
pub path-joined : {edges : List Edge} {a b c : ℕ} → Path edges a b → Path edges b c → Path edges a c
path-joined here q = q
path-joined (along h p) q = along h (path-joined p q)

-- an edge behind a way
pub path-longer : {edges : List Edge} {a b c : ℕ} → Path edges a b → Contains edges (edge b c) → Path edges a c
path-longer p h = path-joined p (along h here)
