-- When what is asked of a program is valid for it.
use Rattle.std.specs.Prelude.{◌≡◌, ℕ, true, Some, [], slice_get}
use Rattle.elan_terms.specs.Match.{occurrences}
use Rattle.elan_program.specs.declared.strategy.Scope.TheVariants.{Outside}
use Rattle.elan_program.specs.Signature.{shapes_of}
use Rattle.elan_program.specs.Patterns.{pattern_sort}
use Rattle.elan_program.specs.Validity.{is_valid_strategy, is_valid}
use Rattle.elan_program.specs.declared.signature.Signature.{Signature}
use Rattle.elan_modules.specs.declared.flat.Flat.{Flat}
use Rattle.elan_modules.specs.declared.flat.LoadedText.{LoadedText}
use Rattle.elan_clauses.specs.Texts.{Reader}
use Rattle.elan_clauses.specs.Offered.{ReadsWell}
use Rattle.elan_check.specs.declared.prepared.Prepared.{Prepared}
use Rattle.elan_check.specs.Walk.{stream_of}

-- each text of a flat program is read well, the stream too
pub record ReadsAll (read : Reader) (g : Signature) (flat : Flat) : Type 0 where
  pub texts : (i : ℕ) (text : LoadedText) → slice_get flat.texts i ≡ Some text → ReadsWell read g text
  pub stream : ReadsWell read g (stream_of flat.texts)

-- The program is valid, and what is asked of it is valid for it: the strategy at the query's sort, outside of bodies, and a
-- query of that sort without variables.
pub record IsPrepared (p : Prepared) : Type 0 where
  pub program : is_valid p.program ≡ true
  pub start : is_valid_strategy p.program Outside p.start p.sort ≡ true
  pub query : pattern_sort (shapes_of p.program.signature) p.query ≡ Some p.sort
  pub ground : occurrences p.query ≡ []
