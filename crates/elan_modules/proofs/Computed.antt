-- What a worked walk unfolds to compute tokens, outlines and visits.
use Rattle.std.specs.Prelude.{⊤}
use Rattle.elan_lexer.specs.Bytes.{is_in}
use Rattle.elan_lexer.specs.Cut.{close, slash, number, piece}
use Rattle.elan_lexer.specs.Lex.{lex}
use Rattle.elan_forms.specs.Form.{turns, level, nested}
use Rattle.elan_phrases.specs.Symbols.{same_symbol, reserved_words, strategy_words, placed_words, named_signs, word_symbol, symbol_of, seen, names, labels, choices, imported, visibilities, spelled, in_text, small_numbers, fresh, the_name, is_unreserved}
use Rattle.elan_phrases.specs.Tokens.{name, visibility}
use Rattle.elan_phrases.specs.Texts.{text_token, more_text, text}
use Rattle.elan_phrases.specs.SortExpressions.{more_arguments, arguments, bracketed, sort_body, sort, closing_arguments, sort_span, more_sorts, more_actuals, actuals, reference, more_references, references}
use Rattle.elan_phrases.specs.Strategies.{more_arms, arms, plain, named, inside, all_of, alternatives, choice, repeated, rounds, iterated, normal, step, more_steps, strategy_body, strategy, strategy_plan, some_strategy}
use Rattle.elan_syntax.specs.Grammar.{import_list, one_import, more_imports, imports, sorts, priority, associativity, ac_mark, one_of, two_of, some_attributes, more_spelled, spelling, argument_sorts, declaration, declared, more_declared, operators, another_name, more_names, vars, more_vars, where_clause, if_clause, clause_rule, more_clauses, sides, rule, ruled, more_ruled, bare_rule_first, ruled_sort, ruled_bracket, vars_first, visibility_first, behind_ruled, rules_for, rules, more_labels, formals, definition_behind, definition, mark, defined, more_defined, definition_first, defined_sort, defined_bracket, mark_first, behind_defined, strategies_for, strategies, parameter, more_parameters, parameters, section_rule, sections, module_behind, module_of, more_modules, sort_of, start_with, lpl_imports, lpl, program}
use Rattle.elan_syntax.specs.Outlines.{place_of}
use Rattle.elan_modules.specs.Sorts.{value_of, replaced, names_in, arguments_from}
use Rattle.elan_modules.specs.Modules.{find_in, find, first_long, is_name, opened}
use Rattle.elan_modules.specs.Visits.{located, text_imports, begun, visit_all, visit_step, visit, named_twice, walked}

-- all definitions of the reading of texts and of the walk
unfoldable pub computed : ⊤
unfolding is_in close slash number piece lex turns level nested same_symbol reserved_words strategy_words placed_words named_signs word_symbol symbol_of seen names labels choices imported visibilities spelled in_text small_numbers fresh the_name is_unreserved name visibility text_token more_text text more_arguments arguments bracketed sort_body sort closing_arguments sort_span more_sorts more_actuals actuals reference more_references references more_arms arms plain named inside all_of alternatives choice repeated rounds iterated normal step more_steps strategy_body strategy strategy_plan some_strategy import_list one_import more_imports imports sorts priority associativity ac_mark one_of two_of some_attributes more_spelled spelling argument_sorts declaration declared more_declared operators another_name more_names vars more_vars where_clause if_clause clause_rule more_clauses sides rule ruled more_ruled bare_rule_first ruled_sort ruled_bracket vars_first visibility_first behind_ruled rules_for rules more_labels formals definition_behind definition mark defined more_defined definition_first defined_sort defined_bracket mark_first behind_defined strategies_for strategies parameter more_parameters parameters section_rule sections module_behind module_of more_modules sort_of start_with lpl_imports lpl program place_of value_of replaced names_in arguments_from find_in find first_long is_name opened located text_imports begun visit_all visit_step visit named_twice walked
computed = tt
