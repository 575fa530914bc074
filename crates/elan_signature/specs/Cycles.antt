-- Injections that lie on a cycle: others lead from the sort to which one leads back to the sort from which it leads.
use Rattle.std.specs.Prelude.{ℕ, Bool, Option, Some, None, Ok, Err, List, map, slice_get}
use Rattle.std.specs.List.{find}
use Rattle.elan_text.specs.declared.refusal.Code.TheVariants.{E13}
use Rattle.elan_text.specs.declared.refusal.Refusal.{Refusal}
use Rattle.elan_cycles.specs.declared.edge.Edge.{Edge}
use Rattle.elan_cycles.specs.Search.{comes_back}
use Rattle.elan_signature.specs.declared.done.Injection.{Injection}
use Rattle.elan_signature.specs.Outcomes.{Checked}

-- an injection is an edge between sorts
abbrev pub edge_of : Injection → Edge
edge_of i = record { from = i.from.0; to = i.to.0 }

-- whether an injection lies on a cycle of these
abbrev pub is_on_cycle : List Injection → Injection → Bool
is_on_cycle all i = comes_back (map edge_of all) (edge_of i)

-- the element of a number, if both are there
abbrev pub element_at : {A : Type 0} → List A → Option ℕ → Option A
element_at xs None = None
element_at xs (Some n) = slice_get xs n

-- the first injection that lies on a cycle
abbrev pub first_on_cycle : List Injection → Option Injection
first_on_cycle all = find (is_on_cycle all) all

-- the refusal of an injection on a cycle
abbrev pub cycle_at : Injection → Refusal
cycle_at i = record { code = E13; at = i.at; «module» = i.«module» }

-- an injection on a cycle is refused
abbrev pub refused_cycle : Option Injection → Checked
refused_cycle None = Ok tt
refused_cycle (Some i) = Err (cycle_at i)

-- no injection lies on a cycle, or the first one that does is refused
unfoldable pub look_cycles : List Injection → Checked
look_cycles all = refused_cycle (first_on_cycle all)
