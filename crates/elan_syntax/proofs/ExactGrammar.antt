-- The rules of the grammar are read exactly.
use Rattle.std.proofs.Common.{◌≡◌, ℕ, Bool, ◌||◌, List, [], ◌∷◌, ◌++◌, Option, None, refl}
use Rattle.elan_forms.specs.Form.{◌>>=◌, ◌>>◌, pure, either}
use Rattle.elan_forms.proofs.Exact.{or_left, or_right}
use Rattle.elan_forms.proofs.Takes.{Takes, Stands, May, Separate, Within, none, both, so, takes_more, may_silent, may_pure, then_stands, then_may, may_then_stands, may_then_may, stands_then_stands, stands_then_may, stands_either, then_next, then_last, takes_either, may_either, may_optional, takes_spanned, may_loop, apart_none, none_apart, none_within, within_itself}
use Rattle.elan_phrases.specs.declared.span.Span.{Span}
use Rattle.elan_phrases.specs.declared.symbol.Symbol.{Symbol}
use Rattle.elan_phrases.specs.declared.symbol.Symbol.TheVariants.{Module, Import, Sort, Operators, Rules, Strategies, For, Where, If, End, Arrow, Becomes, Comma, Semicolon, Colon, LeftRound, RightRound, LeftSquare, RightSquare, Pri, Ac, AssocLeft, AssocRight, Implicit, Name}
use Rattle.elan_phrases.specs.declared.symbol.Importer.TheVariants.{AModule}
use Rattle.elan_phrases.specs.Symbols.{Seen, same_symbol, one, a, names, labels, choices, visibilities, spelled, in_text}
use Rattle.elan_phrases.specs.Beginnings.{begins_another_name, begins_imported, begins_declared, begins_ruled, begins_clause, begins_mark, begins_defined, begins_section}
use Rattle.elan_phrases.specs.Tokens.{taken, sign, number_of, span, name, visibility}
use Rattle.elan_phrases.proofs.SymbolSets.{separate, within}
use Rattle.elan_phrases.proofs.ExactTokens.{kind, sign_takes, taken_takes, number_takes, span_takes, name_number_takes, visibility_takes, small_number_takes, fresh_takes}
use Rattle.elan_phrases.proofs.ExactTexts.{text_takes}
use Rattle.elan_phrases.proofs.ExactSorts.{sort_span_takes, more_sorts_may, references_takes, closing_arguments_stands}
use Rattle.elan_phrases.proofs.ExactStrategies.{strategy_plan_takes, some_strategy_may}
use Rattle.elan_syntax.specs.declared.parts.Section.{Section}
use Rattle.elan_syntax.specs.declared.parts.OpDecl.{OpDecl}
use Rattle.elan_syntax.specs.declared.parts.Vars.{Vars}
use Rattle.elan_syntax.specs.declared.parts.RuleOutline.{RuleOutline}
use Rattle.elan_syntax.specs.declared.parts.ClauseOutline.{ClauseOutline}
use Rattle.elan_syntax.specs.declared.parts.Definition.{Definition}
use Rattle.elan_syntax.specs.declared.parts.Attributes.{Attributes}
use Rattle.elan_syntax.specs.declared.attributes.Attribute.{Attribute}
use Rattle.elan_syntax.specs.declared.attributes.Attribute.TheVariants.{Priority, Associativity, AcMark}
use Rattle.elan_syntax.specs.declared.parameters.Parameters.{Parameters}
use Rattle.elan_syntax.specs.Grammar.{import_list, one_import, more_imports, imports, sorts, priority, associativity, ac_mark, no_attributes, attribute, begins_side, begins_attribute, one_of, two_of, some_attributes, more_spelled, spelling, argument_sorts, declaration, declared, more_declared, operators, another_name, more_names, vars, more_vars, where_clause, if_clause, clause_rule, more_clauses, bracket, sides, rule, ruled, more_ruled, bare_rule_first, ruled_sort, ruled_bracket, vars_first, visibility_first, behind_ruled, rules_for, rules, one_label, more_labels, formals, some_formals, definition_behind, definition, mark, defined, more_defined, definition_first, defined_sort, defined_bracket, mark_first, behind_defined, strategies_for, strategies, parameter, no_parameters, more_parameters, parameters, section_rule, sections, module_behind, module_of}

module _ (m : ℕ) where
  -- ---- imports

  import_list_takes : (found : List Span) → Takes kind m names none (import_list found)
  unfolding import_list same_symbol names
  import_list_takes found =
      then_stands (references_takes m AModule found) (λ found. so (then_last (sign_takes m Semicolon) (λ _. may_pure)))
      (separate refl)

  pub one_import_takes : (found : List Span) → Takes kind m begins_imported none (one_import found)
  unfolding one_import visibility visibilities names
  one_import_takes found = takes_either (λ t. refl) (then_next (visibility_takes m) (λ _. so (import_list_takes found)))
      (import_list_takes found) (separate refl)

  more_imports_may : (found : List Span) → May kind m begins_imported begins_imported (more_imports found)
  unfolding more_imports
  more_imports_may found = may_loop one_import_takes apart_none within_itself none_within found

  imports_takes : Takes kind m (one Import) none imports
  unfolding imports same_symbol names visibilities
  imports_takes =
      then_next (sign_takes m Import) (λ _.
      may_then_stands (more_imports_may []) (λ found. so (then_last (sign_takes m End) (λ _. may_pure)))
      (separate refl))

  -- ---- sorts

  sorts_takes : Takes kind m (one Sort) none sorts
  unfolding sorts same_symbol names
  sorts_takes =
      then_next (sign_takes m Sort) (λ _.
      may_then_stands (more_sorts_may m []) (λ found.
      so (then_next (sign_takes m Semicolon) (λ _. so (then_last (sign_takes m End) (λ _. may_pure)))))
      (separate refl))

  -- ---- attributes of operators

  priority_takes : Takes kind m (one Pri) none priority
  unfolding priority
  priority_takes = then_next (sign_takes m Pri) (λ _. so (small_number_takes m))

  associativity_takes : Takes kind m begins_side none associativity
  unfolding associativity same_symbol
  associativity_takes = takes_either (λ t. refl) (then_last (sign_takes m AssocLeft) (λ _. may_pure))
      (then_last (sign_takes m AssocRight) (λ _. may_pure)) (separate refl)

  ac_mark_takes : Takes kind m (one LeftRound) none ac_mark
  unfolding ac_mark
  ac_mark_takes = then_next (sign_takes m LeftRound) (λ _. so (then_next (sign_takes m Ac) (λ _. so
      (sign_takes m RightRound))))

  pub attribute_takes : (x : Attribute) (before : Attributes) → Takes kind m (begins_attribute x) none (attribute x before)
  attribute_takes Priority before = then_last priority_takes (λ _. may_pure)
  attribute_takes Associativity before = then_last associativity_takes (λ _. may_pure)
  attribute_takes AcMark before = then_last ac_mark_takes (λ _. may_pure)

  attribute_first : (x : Attribute) (before : Attributes) (t : Seen) →
      (attribute x before).first t ≡ begins_attribute x t.symbol
  unfolding priority associativity ac_mark
  attribute_first Priority before t = refl
  attribute_first Associativity before t = refl
  attribute_first AcMark before t = refl

  one_of_may : (x : Attribute) (before : Attributes) →
      May kind m (both (begins_attribute x) none) (begins_attribute x) (one_of x before)
  unfolding one_of
  one_of_may x before = may_either (attribute_first x before) (so (takes_more none_within (attribute_takes x before)))
      may_pure none_apart within_itself

  abbrev begins_two : Attribute → Attribute → Symbol → Bool
  begins_two x y s = begins_attribute x s || begins_attribute y s

  first_in : (x y : Attribute) → Within (begins_attribute x) (begins_two x y)
  first_in x y = record { also = λ s e. or_left (begins_attribute x s) (begins_attribute y s) e }

  second_in : (x y : Attribute) → Within (begins_attribute y) (begins_two x y)
  second_in x y = record { also = λ s e. or_right (begins_attribute x s) (begins_attribute y s) e }

  two_of_may : (x y : Attribute) (before : Attributes) → Separate (both (begins_attribute y) none) (begins_attribute x) →
      May kind m (both (begins_attribute x) (both (begins_attribute y) none)) (begins_two x y) (two_of x y before)
  unfolding two_of
  two_of_may x y before apart =
      may_either (attribute_first x before)
      (so (takes_more (second_in x y) (then_last (attribute_takes x before) (one_of_may y))))
      (may_either (attribute_first y before)
      (so (takes_more (first_in x y) (then_last (attribute_takes y before) (one_of_may x)))) may_pure none_apart
      (second_in x y)) apart (first_in x y)

  abbrev begins_attributes : Symbol → Bool
  begins_attributes s = one Pri s || (begins_side s || one LeftRound s)

  some_attributes_may : May kind m (both (begins_attribute Priority) (both (begins_attribute Associativity) (both
      (begins_attribute AcMark) none))) begins_attributes some_attributes
  unfolding some_attributes priority associativity ac_mark same_symbol
  some_attributes_may =
      may_either (λ t. refl)
      (so (takes_more (within refl) (then_last (attribute_takes Priority no_attributes) (λ found.
      two_of_may Associativity AcMark found (separate refl)))))
      (may_either (λ t. refl)
      (so (takes_more (within refl) (then_last (attribute_takes Associativity no_attributes) (λ found.
      two_of_may Priority AcMark found (separate refl)))))
      (may_either (λ t. refl)
      (so (takes_more (within refl) (then_last (attribute_takes AcMark no_attributes) (λ found.
      two_of_may Priority Associativity found (separate refl))))) may_pure none_apart (within refl))
      (separate refl) (within refl))
      (separate refl) (within refl)

  -- ---- operators

  pub one_spelled_takes : Takes kind m spelled none (taken (a spelled))
  unfolding spelled names
  one_spelled_takes = taken_takes m spelled Name refl

  more_spelled_may : May kind m spelled spelled more_spelled
  unfolding more_spelled
  more_spelled_may = may_loop (λ _. one_spelled_takes) apart_none within_itself none_within tt

  spelling_takes : Takes kind m spelled spelled spelling
  unfolding spelling
  spelling_takes = takes_spanned span (then_last one_spelled_takes (λ _. more_spelled_may))

  argument_sorts_takes : Takes kind m (one LeftRound) none argument_sorts
  unfolding argument_sorts same_symbol names
  argument_sorts_takes =
      then_next (sign_takes m LeftRound) (λ _.
      may_then_stands (more_sorts_may m []) (λ found. so (then_last (sign_takes m RightRound) (λ _. may_pure)))
      (separate refl))

  some_argument_sorts_may : May kind m (both (one LeftRound) none) (one LeftRound) (either argument_sorts (pure []))
  unfolding argument_sorts
  some_argument_sorts_may = may_either (λ t. refl) (so (takes_more none_within argument_sorts_takes)) may_pure
      none_apart within_itself

  declaration_takes : Takes kind m spelled none declaration
  unfolding declaration same_symbol spelled names
  declaration_takes =
      then_stands spelling_takes (λ spelling.
      so (then_next (sign_takes m Colon) (λ _.
      may_then_stands some_argument_sorts_may (λ args.
      so (then_stands (sort_span_takes m) (λ sort.
      may_then_stands some_attributes_may (λ _. so (then_last (sign_takes m Semicolon) (λ _. may_pure)))
      (separate refl))
      (separate refl)))
      (separate refl))))
      (separate refl)

  pub declared_takes : (found : List OpDecl) → Takes kind m begins_declared none (declared found)
  unfolding declared visibility spelled names visibilities
  declared_takes found = takes_either (λ t. refl) (then_last (visibility_takes m) (λ _. may_pure))
      (then_last declaration_takes (λ _. may_pure)) (separate refl)

  more_declared_may : (found : List OpDecl) → May kind m begins_declared begins_declared (more_declared found)
  unfolding more_declared
  more_declared_may found = may_loop declared_takes apart_none within_itself none_within found

  operators_takes : Takes kind m (one Operators) none operators
  unfolding operators same_symbol spelled names visibilities
  operators_takes =
      then_next (sign_takes m Operators) (λ _.
      may_then_stands (more_declared_may []) (λ found. so (then_last (sign_takes m End) (λ _. may_pure)))
      (separate refl))

  -- ---- variables

  another_name_takes : Takes kind m begins_another_name none another_name
  unfolding another_name same_symbol names
  another_name_takes = takes_either (λ t. refl) (then_next (sign_takes m Comma) (λ _. so (name_number_takes m)))
      (name_number_takes m) (separate refl)

  pub one_name_takes : (found : List ℕ) →
      Takes kind m begins_another_name none (another_name >>= (λ n. pure (found ++ n ∷ [])))
  one_name_takes found = then_last another_name_takes (λ _. may_pure)

  more_names_may : (found : List ℕ) → May kind m begins_another_name begins_another_name (more_names found)
  unfolding more_names
  more_names_may found = may_loop one_name_takes apart_none within_itself none_within found

  pub vars_takes : Takes kind m names none vars
  unfolding vars same_symbol names
  vars_takes =
      then_next (name_number_takes m) (λ first.
      may_then_stands (more_names_may (first ∷ [])) (λ found.
      so (then_next (sign_takes m Colon) (λ _.
      so (then_stands (sort_span_takes m) (λ sort. so (then_last (sign_takes m Semicolon) (λ _. may_pure)))
      (separate refl)))))
      (separate refl))

  pub one_vars_takes : (found : List Vars) → Takes kind m names none (vars >>= (λ v. pure (found ++ v ∷ [])))
  one_vars_takes found = then_last vars_takes (λ _. may_pure)

  pub more_vars_may : (found : List Vars) → May kind m names names (more_vars found)
  unfolding more_vars
  more_vars_may found = may_loop one_vars_takes apart_none within_itself none_within found

  -- ---- rules

  where_clause_takes : Takes kind m (one Where) in_text where_clause
  unfolding where_clause same_symbol in_text labels names choices
  where_clause_takes =
      then_next (sign_takes m Where) (λ _.
      so (then_stands (text_takes m) (λ left.
      so (then_next (sign_takes m Becomes) (λ _.
      so (then_next (sign_takes m LeftRound) (λ _.
      may_then_stands (some_strategy_may m) (λ by.
      so (then_next (sign_takes m RightRound) (λ _.
      so (then_may (text_takes m) (λ of. may_pure) none_apart within_itself))))
      (separate refl))))))
      (separate refl)))

  if_clause_takes : Takes kind m (one If) in_text if_clause
  unfolding if_clause
  if_clause_takes = then_next (sign_takes m If) (λ _. so (then_may (text_takes m) (λ _. may_pure) none_apart
      within_itself))

  clause_takes : Takes kind m begins_clause in_text clause_rule
  unfolding clause_rule where_clause same_symbol
  clause_takes = takes_either (λ t. refl) where_clause_takes if_clause_takes (separate refl)

  pub one_clause_takes : (found : List ClauseOutline) →
      Takes kind m begins_clause in_text (clause_rule >>= (λ c. pure (found ++ c ∷ [])))
  one_clause_takes found = then_may clause_takes (λ _. may_pure) none_apart within_itself

  more_clauses_may : (found : List ClauseOutline) →
      May kind m begins_clause (λ s. begins_clause s || in_text s) (more_clauses found)
  unfolding more_clauses same_symbol in_text names
  more_clauses_may found = may_loop one_clause_takes (separate refl) (within refl) (within refl) found

  bracket_takes : Takes kind m (one LeftSquare) none bracket
  unfolding same_symbol
  bracket_takes = number_takes m (one LeftSquare) LeftSquare refl

  sides_takes : (at : ℕ) (label : Option ℕ) → Takes kind m in_text none (sides at label)
  unfolding sides same_symbol in_text names
  sides_takes at label =
      then_stands (text_takes m) (λ left.
      so (then_next (sign_takes m Arrow) (λ _.
      so (then_stands (text_takes m) (λ right.
      may_then_stands (more_clauses_may []) (λ clauses. so (then_last (sign_takes m End) (λ _. may_pure)))
      (separate refl))
      (separate refl)))))
      (separate refl)

  rule_takes : Takes kind m (one LeftSquare) none rule
  unfolding rule same_symbol labels names
  rule_takes =
      then_next bracket_takes (λ at.
      may_then_stands (may_optional (λ t. refl) (number_takes m labels Name refl) none_within within_itself) (λ label.
      so (then_next (sign_takes m RightSquare) (λ _. so (sides_takes at label))))
      (separate refl))

  pub ruled_takes : (found : List RuleOutline) → Takes kind m begins_ruled none (ruled found)
  unfolding ruled visibility same_symbol visibilities
  ruled_takes found = takes_either (λ t. refl) (then_last (visibility_takes m) (λ _. may_pure))
      (then_last rule_takes (λ _. may_pure)) (separate refl)

  more_ruled_may : (found : List RuleOutline) → May kind m begins_ruled begins_ruled (more_ruled found)
  unfolding more_ruled
  more_ruled_may found = may_loop ruled_takes apart_none within_itself none_within found

  abbrev after_rules : Symbol → Bool
  after_rules s = names s || begins_ruled s

  bare_rule_first_takes : (name : Span) (at : ℕ) → Takes kind m (one RightSquare) begins_ruled (bare_rule_first name at)
  unfolding bare_rule_first
  bare_rule_first_takes name at =
      then_next (sign_takes m RightSquare) (λ _.
      so (then_last (sides_takes at None) (λ first.
      may_then_may (more_ruled_may (first ∷ [])) (λ found. may_pure) none_apart within_itself)))

  ruled_sort_stands : (name : Span) → Stands kind m names after_rules (ruled_sort name)
  unfolding ruled_sort same_symbol names visibilities
  ruled_sort_stands name =
      stands_then_may (closing_arguments_stands m) (λ _.
      may_then_may (may_silent {value = λ n. n}) (λ past.
      may_then_may (more_vars_may []) (λ variables.
      may_then_may (more_ruled_may []) (λ found. may_pure) none_apart (within refl))
      (separate refl) (within refl)) apart_none none_within) apart_none none_within

  ruled_bracket_takes : (name : Span) → Takes kind m (one LeftSquare) after_rules (ruled_bracket name)
  unfolding ruled_bracket bare_rule_first same_symbol names visibilities
  ruled_bracket_takes name =
      then_next bracket_takes (λ at.
      stands_either (λ t. refl) (so (takes_more (within refl) (bare_rule_first_takes name at))) (ruled_sort_stands name)
      (separate refl))

  vars_first_takes : (name : Span) → Takes kind m names after_rules (vars_first name)
  unfolding vars_first same_symbol names visibilities
  vars_first_takes name =
      then_last vars_takes (λ first.
      may_then_may (more_vars_may (first ∷ [])) (λ variables.
      may_then_may (more_ruled_may []) (λ found. may_pure) none_apart (within refl))
      (separate refl) (within refl))

  visibility_first_takes : (name : Span) → Takes kind m visibilities begins_ruled (visibility_first name)
  unfolding visibility_first
  visibility_first_takes name = then_last (visibility_takes m) (λ _. may_then_may (more_ruled_may [])
      (λ found. may_pure) none_apart within_itself)

  behind_ruled_may : (name : Span) → May kind m (both (one LeftSquare) (both names (both visibilities none)))
      after_rules (behind_ruled name)
  unfolding behind_ruled ruled_bracket vars_first vars visibility_first visibility same_symbol names visibilities
  behind_ruled_may name =
      may_either (λ t. refl) (so (ruled_bracket_takes name))
      (may_either (λ t. refl) (so (vars_first_takes name))
      (may_either (λ t. refl) (so (takes_more (within refl) (visibility_first_takes name))) may_pure none_apart
      (within refl))
      (separate refl) (within refl))
      (separate refl) (within refl)

  rules_for_takes : Takes kind m names after_rules rules_for
  unfolding rules_for names
  rules_for_takes = then_last (span_takes m names Name refl) behind_ruled_may

  rules_takes : Takes kind m (one Rules) none rules
  unfolding rules same_symbol names visibilities
  rules_takes =
      then_next (sign_takes m Rules) (λ _.
      so (then_next (sign_takes m For) (λ _.
      so (then_stands rules_for_takes (λ found. so (then_last (sign_takes m End) (λ _. may_pure))) (separate refl)))))

  -- ---- strategies

  one_label_takes : (found : List ℕ) → Takes kind m labels none (one_label found)
  unfolding labels names
  one_label_takes found = then_last (number_takes m labels Name refl) (λ _. may_pure)

  pub label_turn_takes : (found : List ℕ) → Takes kind m (one Comma) none (sign Comma >> one_label found)
  label_turn_takes found = then_next (sign_takes m Comma) (λ _. so (one_label_takes found))

  more_labels_may : (found : List ℕ) → May kind m (one Comma) (one Comma) (more_labels found)
  unfolding more_labels
  more_labels_may found = may_loop label_turn_takes apart_none within_itself none_within found

  formals_takes : Takes kind m (one LeftRound) none formals
  unfolding formals same_symbol
  formals_takes =
      then_next (sign_takes m LeftRound) (λ _.
      so (then_next (one_label_takes []) (λ first.
      may_then_stands (more_labels_may first) (λ found. so (then_last (sign_takes m RightRound) (λ _. may_pure)))
      (separate refl))))

  some_formals_may : May kind m (both (one LeftRound) none) (one LeftRound) some_formals
  unfolding formals
  some_formals_may = may_either (λ t. refl) (so (takes_more none_within formals_takes)) may_pure none_apart
      within_itself

  definition_behind_takes : (at : ℕ) → Takes kind m (one RightSquare) none (definition_behind at)
  unfolding definition_behind same_symbol labels names
  definition_behind_takes at =
      then_next (sign_takes m RightSquare) (λ _.
      so (then_next (number_takes m labels Name refl) (λ name.
      may_then_stands some_formals_may (λ parameters.
      so (then_next (sign_takes m Arrow) (λ _.
      so (then_stands (strategy_plan_takes m) (λ by. so (then_last (sign_takes m End) (λ _. may_pure)))
      (separate refl)))))
      (separate refl))))

  definition_takes : Takes kind m (one LeftSquare) none definition
  unfolding definition
  definition_takes = then_next bracket_takes (λ at. so (definition_behind_takes at))

  mark_takes : Takes kind m begins_mark none mark
  unfolding mark same_symbol visibilities
  mark_takes = taken_takes m begins_mark Implicit refl

  pub defined_takes : (found : List Definition) → Takes kind m begins_defined none (defined found)
  unfolding defined mark same_symbol visibilities
  defined_takes found = takes_either (λ t. refl) (then_last mark_takes (λ _. may_pure))
      (then_last definition_takes (λ _. may_pure)) (separate refl)

  more_defined_may : (found : List Definition) → May kind m begins_defined begins_defined (more_defined found)
  unfolding more_defined
  more_defined_may found = may_loop defined_takes apart_none within_itself none_within found

  definition_first_takes : (name : Span) (at : ℕ) → Takes kind m (one RightSquare) begins_defined
      (definition_first name at)
  unfolding definition_first
  definition_first_takes name at =
      then_last (definition_behind_takes at) (λ first.
      may_then_may (more_defined_may (first ∷ [])) (λ found. may_pure) none_apart within_itself)

  defined_sort_stands : (name : Span) → Stands kind m names begins_defined (defined_sort name)
  unfolding defined_sort
  defined_sort_stands name =
      stands_then_may (closing_arguments_stands m) (λ _.
      may_then_may (may_silent {value = λ n. n}) (λ past.
      may_then_may (more_defined_may []) (λ found. may_pure) none_apart within_itself) apart_none none_within)
      apart_none none_within

  defined_bracket_takes : (name : Span) → Takes kind m (one LeftSquare) begins_defined (defined_bracket name)
  unfolding defined_bracket definition_first definition_behind same_symbol names
  defined_bracket_takes name =
      then_next bracket_takes (λ at.
      stands_either (λ t. refl) (so (definition_first_takes name at)) (defined_sort_stands name) (separate refl))

  mark_first_takes : (name : Span) → Takes kind m begins_mark begins_defined (mark_first name)
  unfolding mark_first
  mark_first_takes name = then_last mark_takes (λ _. may_then_may (more_defined_may []) (λ found. may_pure) none_apart
      within_itself)

  behind_defined_may : (name : Span) → May kind m (both (one LeftSquare) (both begins_mark none)) begins_defined
      (behind_defined name)
  unfolding behind_defined defined_bracket mark_first mark same_symbol visibilities
  behind_defined_may name =
      may_either (λ t. refl) (so (defined_bracket_takes name))
      (may_either (λ t. refl) (so (mark_first_takes name)) may_pure none_apart (within refl))
      (separate refl) (within refl)

  strategies_for_takes : Takes kind m names begins_defined strategies_for
  unfolding strategies_for names
  strategies_for_takes = then_last (span_takes m names Name refl) behind_defined_may

  strategies_takes : Takes kind m (one Strategies) none strategies
  unfolding strategies same_symbol visibilities
  strategies_takes =
      then_next (sign_takes m Strategies) (λ _.
      so (then_next (sign_takes m For) (λ _.
      so (then_stands strategies_for_takes (λ found. so (then_last (sign_takes m End) (λ _. may_pure)))
      (separate refl)))))

  -- ---- modules

  parameter_stands : (taken : Parameters) → Stands kind m (both none names) none (parameter taken)
  unfolding parameter
  parameter_stands taken = may_then_stands (may_silent {value = λ n. n}) (λ at.
      so (then_last (fresh_takes m taken.names) (λ t. may_pure))) apart_none

  pub one_parameter_takes : (taken : Parameters) → Takes kind m (one Comma) none (sign Comma >> parameter taken)
  one_parameter_takes taken = then_next (sign_takes m Comma) (λ _. parameter_stands taken)

  more_parameters_may : (taken : Parameters) → May kind m (one Comma) (one Comma) (more_parameters taken)
  unfolding more_parameters
  more_parameters_may taken = may_loop one_parameter_takes apart_none within_itself none_within taken

  parameters_takes : Takes kind m (one LeftSquare) none parameters
  unfolding parameters same_symbol
  parameters_takes =
      then_next (sign_takes m LeftSquare) (λ _.
      stands_then_stands (parameter_stands no_parameters) (λ first.
      may_then_stands (more_parameters_may first) (λ found. so (then_last (sign_takes m RightSquare) (λ _. may_pure)))
      (separate refl)) apart_none)

  some_parameters_may : May kind m (both (one LeftSquare) none) (one LeftSquare) (either parameters (pure []))
  unfolding parameters
  some_parameters_may = may_either (λ t. refl) (so (takes_more none_within parameters_takes)) may_pure none_apart
      within_itself

  section_takes : Takes kind m begins_section none section_rule
  unfolding section_rule imports sorts operators rules same_symbol
  section_takes =
      takes_either (λ t. refl) imports_takes
      (takes_either (λ t. refl) sorts_takes
      (takes_either (λ t. refl) operators_takes
      (takes_either (λ t. refl) rules_takes strategies_takes
      (separate refl)) (separate refl)) (separate refl)) (separate refl)

  pub one_section_takes : (found : List Section) →
      Takes kind m begins_section none (section_rule >>= (λ s. pure (found ++ s ∷ [])))
  one_section_takes found = then_last section_takes (λ _. may_pure)

  sections_may : (found : List Section) → May kind m begins_section begins_section (sections found)
  unfolding sections
  sections_may found = may_loop one_section_takes apart_none within_itself none_within found

  module_behind_stands : (name : ℕ) → Stands kind m (both (both (one LeftSquare) none) (both begins_section (one End)))
      none (module_behind name)
  unfolding module_behind same_symbol
  module_behind_stands name =
      may_then_stands some_parameters_may (λ parameters.
      may_then_stands (sections_may []) (λ found. so (then_last (sign_takes m End) (λ _. may_pure))) (separate refl))
      (separate refl)

  pub module_of_takes : (p : Seen → Bool) → Takes kind m names none (number_of p) →
      Takes kind m (one Module) none (module_of p)
  unfolding module_of
  module_of_takes p h = then_next (sign_takes m Module) (λ _. so (then_next h module_behind_stands))

  pub any_module_takes : Takes kind m (one Module) none (module_of (a names))
  any_module_takes = module_of_takes (a names) (name_number_takes m)
