-- The checked program of a flat program, or its first refusal.
use Rattle.std.specs.Prelude.{ℕ, ◌+◌, if◌then◌else◌, nat_le, None, Ok, Err, List, [], ◌∷◌, ◌++◌, length, map}
use Rattle.std.specs.List.{flat_map}
use Rattle.elan_text.specs.declared.refusal.Code.TheVariants.{E14, E22}
use Rattle.elan_terms.specs.declared.tree.SortId.{SortId}
use Rattle.elan_program.specs.declared.signature.Signature.{Signature}
use Rattle.elan_program.specs.Soundness.{same_sort}
use Rattle.elan_names.specs.declared.heads.Names.{Names}
use Rattle.elan_names.specs.Resolved.{next}
use Rattle.elan_modules.specs.declared.flat.Flat.{Flat}
use Rattle.elan_modules.specs.declared.flat.LoadedText.{LoadedText}
use Rattle.elan_syntax.specs.declared.parts.RuleOutline.{RuleOutline}
use Rattle.elan_syntax.specs.declared.parts.Definition.{Definition as DefinitionOutline}
use Rattle.elan_program.specs.declared.program.Rule.{Rule}
use Rattle.elan_program.specs.declared.program.Named.{Named}
use Rattle.elan_check.specs.declared.prepared.Asked.{Asked}
use Rattle.elan_check.specs.declared.prepared.Prepared.{Prepared}
use Rattle.elan_check.specs.declared.steps.Done.{Done}
use Rattle.elan_reading.specs.declared.lexeme.Variable.{Variable}
use Rattle.elan_reading.specs.declared.sought.Sought.TheVariants.{Sort}
use Rattle.elan_clauses.specs.Refusals.{Checked, refusal_at}
use Rattle.elan_check.specs.Laid.{Part, RulesFor, StrategiesFor, Scene, laid, names_of, sort_at}
use Rattle.elan_clauses.specs.Texts.{Reader, text_as}
use Rattle.elan_clauses.specs.Rules.{checked_rule, numbered_rule, checked_definition, none_seen, second_of, once_or, strategy_in}

-- ---- the steps of the walk

-- what is looked at, one after the other
pub data Task : Type 0 where
  -- the names of a section's variables, by their tokens
  Declares : LoadedText → List ℕ → Task
  -- a rule of a sort, in a section with these variables
  ARule : LoadedText → SortId → List Variable → RuleOutline → Task
  -- a definition for a sort
  ADefinition : LoadedText → SortId → DefinitionOutline → Task

-- the tasks of a section
abbrev pub tasks_in : Part → List Task
tasks_in (RulesFor text sort tokens variables rules) = Declares text tokens ∷ map (ARule text sort variables) rules
tasks_in (StrategiesFor text sort definitions) = map (ADefinition text sort) definitions

-- how many rules and definitions there may be together
abbrev pub most_rules : ℕ
most_rules = 8192

-- no more rules and definitions may come, or else what follows
abbrev pub within : {A : Type 0} → Done → LoadedText → ℕ → Checked A → Checked A
within done text at more =
    if nat_le most_rules (length done.rules + length done.named) then Err (refusal_at text at E14) else more

-- what was checked with a rule more
abbrev pub with_rule : Done → Rule → Done
with_rule done r = record { rules = done.rules ++ r ∷ []; named = done.named }

-- what was checked with a definition more
abbrev pub with_named : Done → Named → Done
with_named done n = record { rules = done.rules; named = done.named ++ n ∷ [] }

module _ (read : Reader) (g : Signature) (names : Names) where
  -- one step
  abbrev pub checked_task : Done → Task → Checked Done
  checked_task done (Declares text tokens) = once_or text (second_of text none_seen tokens) (Ok done)
  checked_task done (ARule text sort variables r) =
      within done text r.at
      (next (checked_rule read g names text variables sort r) (λ found. Ok (with_rule done (numbered_rule found))))
  checked_task done (ADefinition text sort d) =
      within done text d.at
      (next (checked_definition read g names text (length done.named) sort d) (λ n. Ok (with_named done n)))

  -- one step after the other
  abbrev pub checked_tasks : Done → List Task → Checked Done
  checked_tasks done [] = Ok done
  checked_tasks done (t ∷ ts) = next (checked_task done t) (λ more. checked_tasks more ts)

-- ---- the whole

-- nothing was checked yet
abbrev pub nothing : Done
nothing = record { rules = []; named = [] }

-- the stream, in which the `LPL` text and the query stand
abbrev pub stream_of : List LoadedText → LoadedText
stream_of [] = record { «module» = None; bytes = []; tokens = []; modules = [] }
stream_of (text ∷ texts) = text

-- the stream as a module without parameters
abbrev pub scene_of : Flat → Scene
scene_of flat = record { text = stream_of flat.texts; parameters = []; args = [] }

-- the result sort is the query sort, or else it is refused
abbrev pub same_or : {A : Type 0} → Flat → SortId → SortId → Checked A → Checked A
same_or flat sort result more =
    if same_sort result sort then more else Err (refusal_at (stream_of flat.texts) flat.lpl.result_sort.first E22)

-- the query sort, which is the result sort
abbrev pub asked_sort : Flat → Signature → Checked SortId
asked_sort flat g =
    next (sort_at g (scene_of flat) flat.lpl.query_sort) (λ sort.
    next (sort_at g (scene_of flat) flat.lpl.result_sort) (λ result.
    next (same_or {A = Unit {0}} flat sort result (Ok tt)) (λ _. Ok sort)))

-- the start strategy at a sort, and then the query, which has no variables
abbrev pub asked_at : Reader → Flat → Signature → Names → SortId → Checked Asked
asked_at read flat g names sort =
    next (strategy_in g names (stream_of flat.texts) None sort flat.lpl.start) (λ start.
    next (text_as read g (stream_of flat.texts) [] (Sort sort) flat.query) (λ query.
    Ok (record { start = start; query = query; sort = sort })))

-- What is asked: the two sorts of the `LPL` text are one, then the start strategy is read, and then the query.
abbrev pub asked : Reader → Flat → Signature → Names → Checked Asked
asked read flat g names = next (asked_sort flat g) (asked_at read flat g names)

-- what was checked as a program with what is asked of it
abbrev pub prepared : Signature → Done → Asked → Prepared
prepared g done a = record {
  program = record { signature = g; rules = done.rules; named = done.named };
  start = a.start;
  query = a.query;
  sort = a.sort;
}

-- what is checked, section by section, and what is asked, where these names are known
abbrev pub done_with : Reader → Flat → Signature → Names → List Part → Checked (Done × Asked)
done_with read flat g names parts =
    next (checked_tasks read g names nothing (flat_map tasks_in parts)) (λ done.
    next (asked read flat g names) (λ a. Ok (done, a)))

-- the same: the names of all rules and definitions are known before the first step
abbrev pub done_and_asked : Reader → Flat → Signature → List Part → Checked (Done × Asked)
done_and_asked read flat g parts = done_with read flat g (names_of parts) parts

-- the same of a flat program: first each section has its sorts
unfoldable pub checked_whole : Reader → Flat → Signature → Checked (Done × Asked)
checked_whole read flat g = next (laid g flat) (done_and_asked read flat g)

-- The checked program of a flat program, or its first refusal. First each section has its sorts; then each variable
-- declaration, rule and definition is checked in the order of the sections; and last what is asked.
unfoldable pub checked : Reader → Flat → Signature → Checked Prepared
checked read flat g = next (checked_whole read flat g) (λ found. Ok (prepared g found.0 found.1))
