-- The lines that a run writes: how the program is called, a refusal of the stream, a report, and what is written in its place
-- for a generated input.
use Rattle.std.specs.Prelude.{ℕ, Option, Some, None, List, codes, take}
use Rattle.elan_text.specs.declared.refusal.Code.{Code}
use Rattle.elan_text.specs.declared.refusal.Place.{Place}
use Rattle.elan_program.specs.declared.signature.Signature.{Signature}
use Rattle.elan_meaning.specs.declared.item.Item.{Item}
use Rattle.elan_demo.specs.Demo.{summary, summary_text}
use Rattle.elan_print.specs.Refusals as refusals
use Rattle.elan_print.specs.Reports as reports

-- how the program is called
abbrev pub usage_line : List ℕ
usage_line = codes "usage: elan [--workers W] [--limit L] [--steps N] [--plain] [--demo K]\n"

-- the line of a refusal of the stream, whose place lies in no loaded text
abbrev pub refusal_line : Code → Place → List ℕ
refusal_line code at = refusals.refusal_line (record { code = code; at = at; «module» = None })

-- the report of the first items up to the limit
abbrev pub report : Signature → ℕ → List Item → List ℕ
report g limit items = reports.report g (take limit items) limit

-- what is written of items: the report, or its summary where the input is generated from a number
abbrev pub shown : Option ℕ → Signature → ℕ → List Item → List ℕ
shown None g limit items = report g limit items
shown (Some number) g limit items = summary_text (summary (take limit items) (report g limit items))
