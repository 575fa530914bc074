-- A reading has a token at least.
use Rattle.std.proofs.Common.{◌≡◌, ◌+◌, ◌<◌, ◌≤◌, Bool, true, List, ◌++◌, length, arith}
use Rattle.std.proofs.lemmas.List.{length-append}
use Rattle.elan_terms.specs.declared.tree.SortId.{SortId}
use Rattle.elan_terms.specs.declared.tree.Pattern.{Pattern}
use Rattle.elan_program.specs.declared.signature.Piece.{Piece}
use Rattle.elan_program.specs.declared.signature.Operator.{Operator}
use Rattle.elan_program.specs.declared.signature.Signature.{Signature}
use Rattle.elan_program.specs.Soundness.{is_sound}
use Rattle.elan_reading.specs.declared.lexeme.Lexeme.{Lexeme}
use Rattle.elan_reading.specs.declared.lexeme.Variable.{Variable}
use Rattle.elan_reading.specs.declared.edge.Position.{Position}
use Rattle.elan_reading.specs.declared.edge.Position.TheVariants.{First, Later}
use Rattle.elan_reading.specs.Readings.{Reads, Fills, variable, number, minus, operator, injection, group, done, word, hole}
use Rattle.elan_reading.proofs.Sound.{SoundOperator, sound_at, some_pieces}

module _ (g : Signature) (variables : List Variable) (sound : is_sound g ≡ true) where
  -- each piece takes a token
  filled : (o : Operator) (position : Position) (ps : List Piece) (ss : List SortId) (run : List Lexeme) (ts : List Pattern)
      → Fills g variables o position ps ss run ts → length ps ≤ length run
  filled _ _ _ _ _ _ (done o position) = omega arith
  filled _ _ _ _ _ _ (word o position name ps ss token run ts e f) = let h : length ps ≤ length run = filled o Later ps ss run ts f in omega arith
  filled _ _ _ _ _ _ (hole o position ps s ss part run t grouped ts some r a f) =
      let h : length ps ≤ length run = filled o Later ps ss run ts f in
      let l : length (part ++ run) ≡ length part + length run = length-append part run in omega arith

  pub taken : (s : SortId) (run : List Lexeme) (t : Pattern) (grouped : Bool) → Reads g variables s run t grouped → 0 < length run
  taken _ _ _ _ (variable v among) = omega arith
  taken _ _ _ _ (number s ds int) = omega arith
  taken _ _ _ _ (minus s ds int) = omega arith
  taken _ _ _ _ (operator op o run ts e i f) =
      let h : length o.pieces ≤ length run = filled o First o.pieces o.args run ts f in
      let k : SoundOperator o = sound_at g sound op.0 o e in
      let p : 0 < length o.pieces = some_pieces o.pieces k.some in omega arith
  taken _ _ _ _ (injection op o s run t grouped e i a r) = taken s run t grouped r
  taken _ _ _ _ (group s run t grouped r) = omega arith
