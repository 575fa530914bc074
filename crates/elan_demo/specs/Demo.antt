-- The generated input, and the summary of a report.
use Rattle.std.specs.Prelude.{ℕ, zero, suc, ◌+◌, List, [], ◌∷◌, ◌++◌, length, codes, decimal}
use Rattle.elan_meaning.specs.declared.item.Item.{Item}
use Rattle.elan_meaning.specs.declared.item.Item.TheVariants.{Res, Mark}
use Rattle.elan_demo.specs.declared.size.Summary.{Summary}

-- ---- the generated input

-- the lines in front of the rules that are counted
unfoldable pub opening : List ℕ
opening = codes "module demo\nimport global int; end\noperators global\nsum(@) : (int) int;\nend\nrules for int\nn : int;\nglobal\n[] sum(0) => 0 end\n[] sum(n) => n + sum(n - 1) if n > 0 end\n"

-- the rule that adds the sum up to k
unfoldable pub rule : ℕ → List ℕ
rule k = codes "[r] n => n + sum(" ++ decimal k ++ codes ") end\n"

-- the rules from k on, so many of them
abbrev pub rules : ℕ → ℕ → List ℕ
rules k zero = []
rules k (suc m) = rule k ++ rules (k + 1) m

-- the lines behind the rules
unfoldable pub closing : List ℕ
closing = codes "end\nend\nLPL demo description\nquery of sort int\nresult of sort int\nimport demo\nstart with (r;r) query\nend\n0 end\n"

-- the program, the start strategy and the query for a number: one rule for each number from 1 up to it
abbrev pub demo_input : ℕ → List ℕ
demo_input n = opening ++ rules 1 n ++ closing

-- ---- the summary

-- how many items are marks
unfoldable pub marks_in : List Item → ℕ
marks_in [] = 0
marks_in (Res t m ∷ is) = marks_in is
marks_in (Mark cause ∷ is) = marks_in is + 1

-- how many items there are, how many of them are marks, and how long the report is
abbrev pub summary : List Item → List ℕ → Summary
summary is report = record { items = length is; marks = marks_in is; bytes = length report }

-- the three lines of a summary
unfoldable pub summary_text : Summary → List ℕ
summary_text s =
    codes "items " ++ decimal s.items ++ codes "\nmarks " ++ decimal s.marks ++ codes "\nbytes " ++ decimal s.bytes ++ codes "\n"
