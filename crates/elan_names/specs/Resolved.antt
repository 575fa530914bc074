-- A strategy as it is written, read at a sort, or its first refusal from the left.
use Rattle.std.specs.Prelude.{ℕ, Bool, if◌then◌else◌, Option, Some, None, Result, Ok, Err, List, [], ◌∷◌, ◌++◌, length, slice_get}
use Rattle.std.specs.Option.{option_map}
use Rattle.std.specs.Str.{bytes_eq}
use Rattle.elan_text.specs.declared.refusal.Code.{Code}
use Rattle.elan_text.specs.declared.refusal.Code.TheVariants.{E22}
use Rattle.elan_terms.specs.declared.tree.SortId.{SortId}
use Rattle.elan_lexer.specs.declared.token.Token.{Token}
use Rattle.elan_lexer.specs.Text.{token_text}
use Rattle.elan_program.specs.declared.signature.Operator.{Operator}
use Rattle.elan_program.specs.Soundness.{same_sort}
use Rattle.elan_names.specs.declared.fault.Fault.{Fault}
use Rattle.elan_names.specs.declared.heads.Names.{Names}
use Rattle.elan_names.specs.declared.heads.Target.{Target}
use Rattle.elan_names.specs.declared.heads.Target.TheVariants.{Definition, Operator as AnOperator}
use Rattle.elan_phrases.specs.declared.plan.Plan.{Plan}
use Rattle.elan_phrases.specs.declared.plan.PlanNode.TheOpen.{PlanNode-F as layer}
use Rattle.elan_program.specs.declared.strategy.Strategy.{Strategy}
use Rattle.elan_program.specs.declared.strategy.StrategyNode.{StrategyNode}
use Rattle.elan_program.specs.declared.strategy.StrategyNode.TheVariants as made
use Rattle.elan_names.specs.declared.site.Body.{Body as LentBody}
use Rattle.elan_names.specs.declared.site.Site.{Site as LentSite}
use Rattle.elan_phrases.specs.Plans.{Layer, fold_plan}
use Rattle.elan_names.specs.Names.{Word, first, named, applied}

-- the definition in whose body a strategy stands: its parameters, by the numbers of their tokens, and its sort
pub record Body : Type 0 where
  pub parameters : List ℕ
  pub sort : SortId

-- where a strategy stands: in this text, in a program with these names and operators, and in this body, if it is in one
pub record Site : Type 0 where
  pub bytes : List ℕ
  pub tokens : List Token
  pub names : Names
  pub operators : List Operator
  pub body : Option Body

-- a body, as it is lent
abbrev pub seen_body : LentBody → Body
seen_body b = record { parameters = b.parameters.now; sort = b.sort }

-- a site, as it is lent
abbrev pub seen : LentSite → Site
seen s = record {
  bytes = s.bytes.now;
  tokens = s.tokens.now;
  names = s.known.names.now;
  operators = s.known.operators.now;
  body = option_map seen_body s.body;
}

-- the bytes of a token, or none where there is none
abbrev pub word_of : List ℕ → Option Token → Word
word_of bytes None = []
word_of bytes (Some token) = token_text bytes token

-- the bytes of the token of a number
abbrev pub word_at : Site → ℕ → Word
word_at sc number = word_of sc.bytes (slice_get sc.tokens number)

-- what comes next, or the refusal
abbrev pub next : {A B F : Type 0} → Result A F → (A → Result B F) → Result B F
next (Ok a) more = more a
next (Err f) more = Err f

-- a code is refused at this token
abbrev pub refused_at : {A : Type 0} → ℕ → Result A Code → Result A Fault
refused_at token (Ok a) = Ok a
refused_at token (Err code) = Err (record { code = code; token = token })

-- a strategy of this kind
abbrev pub made_so : StrategyNode → Result Strategy Fault
made_so node = Ok (record { node = node })

-- ---- several strategies

-- what a strategy is at each sort
abbrev pub AtSort : Type 0
AtSort = SortId → Result Strategy Fault

-- strategies at one sort, from left to right, behind those before them
abbrev pub all_at : SortId → List Strategy → List AtSort → Result (List Strategy) Fault
all_at sort before [] = Ok before
all_at sort before (r ∷ rs) = next (r sort) (λ s. all_at sort (before ++ s ∷ []) rs)

-- strategies at a sort each, from left to right, behind those before them
abbrev pub each_at : List SortId → List Strategy → List AtSort → Result (List Strategy) Fault
each_at (sort ∷ sorts) before (r ∷ rs) = next (r sort) (λ s. each_at sorts (before ++ s ∷ []) rs)
each_at _ before _ = Ok before

-- ---- names

-- a name is this parameter of the body around it, which has this sort; or else it is what comes behind parameters
abbrev pub parameter_or : SortId → SortId → Option ℕ → Result Strategy Code → Result Strategy Code
parameter_or own sort None other = other
parameter_or own sort (Some p) other = if same_sort own sort then Ok (record { node = made.Param p }) else Err E22

-- whether the token of a parameter is this word
abbrev pub is_parameter : Site → Word → ℕ → Bool
is_parameter sc word number = bytes_eq (word_at sc number) word

-- the number of the parameter of this name, which is the first that has it
abbrev pub parameter_of : Site → Word → List ℕ → Option ℕ
parameter_of sc word parameters = option_map (λ p. p.0) (first (is_parameter sc word) 0 parameters)

-- a name alone, in this body or in none
abbrev pub name_in : Site → SortId → Word → Option Body → Result Strategy Code
name_in sc sort word None = named sc.names sort word
name_in sc sort word (Some body) =
    parameter_or body.sort sort (parameter_of sc word body.parameters) (named sc.names sort word)

-- a name alone
unfoldable pub name_at : Site → SortId → Word → Result Strategy Code
name_at sc sort word = name_in sc sort word sc.body

-- the sorts of the arguments of an operator, if it is there
abbrev pub sorts_of : Option Operator → List SortId
sorts_of None = []
sorts_of (Some o) = o.args

-- a definition over strategies of its sort, or an operator over strategies of the sorts of its arguments
abbrev pub over : Site → SortId → List AtSort → Target → Result Strategy Fault
over sc sort rs (Definition d) = next (all_at sort [] rs) (λ ss. made_so (made.Call d ss))
over sc sort rs (AnOperator f) = next (each_at (sorts_of (slice_get sc.operators f.0)) [] rs) (λ ss. made_so (made.Cong f ss))

-- what the name at a token stands for over so many strategies
unfoldable pub target_at : Site → ℕ → SortId → List AtSort → Result Target Fault
target_at sc t sort rs = refused_at t (applied sc.names sc.operators sort (word_at sc t) (length rs))

-- what the name at a token is over these strategies
abbrev pub applied_at : Site → ℕ → SortId → List AtSort → Result Strategy Fault
applied_at sc t sort rs = next (target_at sc t sort rs) (over sc sort rs)

-- ---- a strategy

-- one level of a strategy, where it is known what each strategy inside is at each sort
abbrev pub at_level : Site → Layer AtSort → AtSort
at_level sc layer.Id sort = made_so made.Id
at_level sc layer.Fail sort = made_so made.Fail
at_level sc (layer.Name t) sort = refused_at t (name_at sc sort (word_at sc t))
at_level sc (layer.Applied t rs) sort = applied_at sc t sort rs
at_level sc (layer.Seq rs) sort = next (all_at sort [] rs) (λ ss. made_so (made.Seq ss))
at_level sc (layer.All rs) sort = next (all_at sort [] rs) (λ ss. made_so (made.All ss))
at_level sc (layer.First one rs) sort = next (all_at sort [] rs) (λ ss. made_so (made.First one ss))
at_level sc (layer.Repeat r) sort = next (r sort) (λ s. made_so (made.Repeat s))
at_level sc (layer.Iterate r) sort = next (r sort) (λ s. made_so (made.Iterate s))
at_level sc (layer.IteratePlus r) sort = next (r sort) (λ s. made_so (made.IteratePlus s))
at_level sc (layer.Normalise r) sort = next (r sort) (λ s. made_so (made.Normalise sort s))

-- the strategy of a plan at a sort, or its first refusal
unfoldable pub resolved : Site → Plan → AtSort
resolved sc = fold_plan (at_level sc)
