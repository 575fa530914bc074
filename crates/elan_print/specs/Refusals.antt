-- The line of a refusal.
use Rattle.std.specs.Prelude.{ℕ, Option, Some, None, List, [], ◌++◌, codes, decimal}
use Rattle.elan_text.specs.declared.name.Name.{Name}
use Rattle.elan_text.specs.declared.refusal.Code.{Code}
use Rattle.elan_text.specs.declared.refusal.Code.TheVariants.{E01, E02, E03, E04, E05, E06, E07, E08, E09, E10, E11, E12, E13, E14, E15, E16, E17, E18, E19, E20, E21, E22}
use Rattle.elan_text.specs.declared.refusal.Refusal.{Refusal}

-- the name of a code
abbrev pub code_name : Code → List ℕ
code_name E01 = codes "E01"
code_name E02 = codes "E02"
code_name E03 = codes "E03"
code_name E04 = codes "E04"
code_name E05 = codes "E05"
code_name E06 = codes "E06"
code_name E07 = codes "E07"
code_name E08 = codes "E08"
code_name E09 = codes "E09"
code_name E10 = codes "E10"
code_name E11 = codes "E11"
code_name E12 = codes "E12"
code_name E13 = codes "E13"
code_name E14 = codes "E14"
code_name E15 = codes "E15"
code_name E16 = codes "E16"
code_name E17 = codes "E17"
code_name E18 = codes "E18"
code_name E19 = codes "E19"
code_name E20 = codes "E20"
code_name E21 = codes "E21"
code_name E22 = codes "E22"

-- what a code says
abbrev pub code_words : Code → List ℕ
code_words E01 = codes "input too long"
code_words E02 = codes "bad byte"
code_words E03 = codes "comment not closed"
code_words E04 = codes "number out of range"
code_words E05 = codes "unexpected token"
code_words E06 = codes "unknown module"
code_words E07 = codes "wrong number of arguments"
code_words E08 = codes "import cycle"
code_words E09 = codes "module twice"
code_words E10 = codes "unknown sort"
code_words E11 = codes "holes and sorts differ"
code_words E12 = codes "AC operator of another form"
code_words E13 = codes "injection cycle"
code_words E14 = codes "too many"
code_words E15 = codes "no reading"
code_words E16 = codes "two readings"
code_words E17 = codes "too many tokens"
code_words E18 = codes "unbound variable"
code_words E19 = codes "variable bound twice"
code_words E20 = codes "unknown strategy"
code_words E21 = codes "name twice"
code_words E22 = codes "strategy of another sort"

-- where the place lies in a loaded text, the module's name
abbrev pub module_words : Option Name → List ℕ
module_words None = []
module_words (Some name) = codes " in module " ++ name.bytes

-- the code, its place, its words and its module
unfoldable pub refusal_line : Refusal → List ℕ
refusal_line r =
    codes "error " ++ code_name r.code ++ codes " " ++ decimal r.at.line ++ codes ":" ++ decimal r.at.column ++ codes " " ++ code_words r.code
    ++ module_words r.module ++ codes "\n"
