-- Parameters with the sorts that stand for them, and the index by which a sort is found.
use Rattle.std.specs.Prelude.{◌≡◌, ℕ, cond, List, [], ◌∷◌, ◌++◌, length, map}
use Rattle.std.specs.List.{list_any}
use Rattle.elan_text.specs.declared.name.Name.{Name}
use Rattle.elan_numbers.specs.Numbering.{is_called}
use Rattle.elan_modules.specs.Sorts.{value_of, separators}

-- the parameters of a module and the sorts that stand for them, each in order
pub record Replacing : Type 0 where
  pub parameters : List Name
  pub sorts : List Name

-- these parameters with these sorts
abbrev pub replacing : List Name → List Name → Replacing
replacing parameters sorts = record { parameters = parameters; sorts = sorts }

-- the sorts of the parameters that differ, with that of one more, unless the parameter is there
abbrev pub with_value : List Name → Name → List Name → Name → List Name
with_value known parameter values sort =
    cond (list_any (is_called parameter.bytes) known) values (values ++ sort ∷ [])

-- each word has the same sort by the parameters that differ
pub record IsIndex (parameters sorts known values : List Name) : Type 0 where
  pub each : length known ≡ length values
  pub same : (word : List ℕ) → value_of known values word ≡ value_of parameters sorts word

-- how many `[` and `,` each of these names has
abbrev pub counts_of : List Name → List ℕ
counts_of names = map (λ (name : Name). separators name.bytes) names

-- the same, where the separators of each sort were counted
pub record IsCounted (parameters sorts known values : List Name) (counts : List ℕ) : Type 0 where
  pub index : IsIndex parameters sorts known values
  pub counted : counts ≡ counts_of values
