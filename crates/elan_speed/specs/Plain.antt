-- The operators that are measured.
use Rattle.std.specs.Prelude.{false, Some, [], ◌∷◌}
use Rattle.elan_terms.specs.declared.tree.Shapes.{Shapes}

-- one operator of two arguments, not commutative, and one sort for all, that of the integers
abbrev pub plain : Shapes
plain = record {
  shapes = record { args = record { 0 = 0 } ∷ record { 0 = 0 } ∷ []; sort = record { 0 = 0 }; ac = false } ∷ [];
  int = Some (record { 0 = 0 });
}
