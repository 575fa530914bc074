-- Loops, by one turn, and choices of attributes.
use Rattle.std.proofs.Common.{◌≡◌, ℕ, cond, List, [], ◌∷◌, ◌++◌, refl, ap, ◌∙◌}
use Rattle.elan_forms.specs.Whole.{done}
use Rattle.elan_forms.specs.Form.{◌>>=◌, ◌>>◌, after, pure, begins_with}
use Rattle.elan_forms.proofs.Takes.{loop_turn}
use Rattle.elan_phrases.specs.declared.span.Span.{Span}
use Rattle.elan_phrases.specs.declared.symbol.Symbol.TheVariants.{Module, Comma}
use Rattle.elan_phrases.specs.Symbols.{Seen, one, a, names, spelled}
use Rattle.elan_phrases.specs.Beginnings.{begins_another_name, begins_imported, begins_declared, begins_ruled, begins_clause, begins_defined, begins_section}
use Rattle.elan_phrases.specs.Tokens.{taken, sign}
use Rattle.elan_syntax.specs.declared.parts.Section.{Section}
use Rattle.elan_syntax.specs.declared.parts.ModuleOutline.{ModuleOutline}
use Rattle.elan_syntax.specs.declared.parts.OpDecl.{OpDecl}
use Rattle.elan_syntax.specs.declared.parts.Vars.{Vars}
use Rattle.elan_syntax.specs.declared.parts.RuleOutline.{RuleOutline}
use Rattle.elan_syntax.specs.declared.parts.ClauseOutline.{ClauseOutline}
use Rattle.elan_syntax.specs.declared.parts.Definition.{Definition}
use Rattle.elan_syntax.specs.declared.parts.Attributes.{Attributes}
use Rattle.elan_syntax.specs.declared.attributes.Attribute.{Attribute}
use Rattle.elan_syntax.specs.declared.attributes.Attribute.TheVariants.{Priority, Associativity, AcMark}
use Rattle.elan_syntax.specs.declared.parameters.Parameters.{Parameters}
use Rattle.elan_syntax.specs.Grammar.{one_import, more_imports, priority, associativity, ac_mark, attribute, begins_attribute, one_of, two_of, more_spelled, declared, more_declared, another_name, more_names, vars, more_vars, clause_rule, more_clauses, ruled, more_ruled, one_label, more_labels, defined, more_defined, parameter, more_parameters, section_rule, sections, module_of, more_modules}
use Rattle.elan_syntax.proofs.ExactGrammar.{one_import_takes, one_spelled_takes, declared_takes, one_name_takes, one_vars_takes, one_clause_takes, ruled_takes, label_turn_takes, defined_takes, one_parameter_takes, one_section_takes}
use Rattle.elan_syntax.proofs.ExactStreams.{one_module_takes}

-- ---- attributes

first_is : (x : Attribute) (before : Attributes) (ts : List Seen) →
    begins_with (attribute x before).first ts ≡ begins_with (a (begins_attribute x)) ts
unfolding priority associativity ac_mark
first_is Priority before ts = refl
first_is Associativity before ts = refl
first_is AcMark before ts = refl

pub one_of_reads : (x : Attribute) (before : Attributes) (n : ℕ) (ts : List Seen) →
    (one_of x before).read n ts
    ≡ cond (begins_with (a (begins_attribute x)) ts) ((attribute x before).read n ts) (done before n ts)
unfolding one_of
one_of_reads x before n ts = ap (λ d. cond d ((attribute x before).read n ts) (done before n ts)) (first_is x before ts)

pub two_of_reads : (x y : Attribute) (before : Attributes) (n : ℕ) (ts : List Seen) →
    (two_of x y before).read n ts
    ≡ cond (begins_with (a (begins_attribute x)) ts) (after ((attribute x before).read n ts) (one_of y))
    (cond (begins_with (a (begins_attribute y)) ts) (after ((attribute y before).read n ts) (one_of x)) (done before n ts))
unfolding two_of
two_of_reads x y before n ts =
    ap (λ d. cond d (after ((attribute x before).read n ts) (one_of y)) (cond (begins_with (attribute y before).first ts)
    (after ((attribute y before).read n ts) (one_of x)) (done before n ts))) (first_is x before ts)
    ∙ ap (λ d. cond (begins_with (a (begins_attribute x)) ts) (after ((attribute x before).read n ts) (one_of y))
    (cond d (after ((attribute y before).read n ts) (one_of x)) (done before n ts))) (first_is y before ts)

-- ---- loops

pub more_spelled_reads : (n : ℕ) (ts : List Seen) →
    more_spelled.read n ts ≡ cond (begins_with (a spelled) ts) (after ((taken (a spelled)).read n ts) (λ _. more_spelled))
    (done tt n ts)
unfolding more_spelled
more_spelled_reads n ts = loop_turn (λ _. a spelled) (λ _. taken (a spelled)) (λ _. (one_spelled_takes 0).shrinks) tt n ts

pub more_imports_reads : (found : List Span) (n : ℕ) (ts : List Seen) →
    (more_imports found).read n ts ≡ cond (begins_with (a begins_imported) ts) (after ((one_import found).read n ts) more_imports)
    (done found n ts)
unfolding more_imports
more_imports_reads found n ts = loop_turn (λ _. a begins_imported) one_import (λ x. (one_import_takes 0 x).shrinks) found n ts

pub more_declared_reads : (found : List OpDecl) (n : ℕ) (ts : List Seen) →
    (more_declared found).read n ts ≡ cond (begins_with (a begins_declared) ts) (after ((declared found).read n ts) more_declared)
    (done found n ts)
unfolding more_declared
more_declared_reads found n ts = loop_turn (λ _. a begins_declared) declared (λ x. (declared_takes 0 x).shrinks) found n ts

pub more_ruled_reads : (found : List RuleOutline) (n : ℕ) (ts : List Seen) →
    (more_ruled found).read n ts ≡ cond (begins_with (a begins_ruled) ts) (after ((ruled found).read n ts) more_ruled)
    (done found n ts)
unfolding more_ruled
more_ruled_reads found n ts = loop_turn (λ _. a begins_ruled) ruled (λ x. (ruled_takes 0 x).shrinks) found n ts

pub more_defined_reads : (found : List Definition) (n : ℕ) (ts : List Seen) →
    (more_defined found).read n ts ≡ cond (begins_with (a begins_defined) ts) (after ((defined found).read n ts) more_defined)
    (done found n ts)
unfolding more_defined
more_defined_reads found n ts = loop_turn (λ _. a begins_defined) defined (λ x. (defined_takes 0 x).shrinks) found n ts

pub more_labels_reads : (found : List ℕ) (n : ℕ) (ts : List Seen) →
    (more_labels found).read n ts ≡ cond (begins_with (a (one Comma)) ts)
    (after (after ((sign Comma).read n ts) (λ _. one_label found)) more_labels) (done found n ts)
unfolding more_labels
more_labels_reads found n ts = loop_turn (λ _. a (one Comma)) (λ found. sign Comma >> one_label found)
    (λ x. (label_turn_takes 0 x).shrinks) found n ts

pub more_names_reads : (found : List ℕ) (n : ℕ) (ts : List Seen) →
    (more_names found).read n ts ≡ cond (begins_with (a begins_another_name) ts)
    (after (after (another_name.read n ts) (λ x. pure (found ++ x ∷ []))) more_names) (done found n ts)
unfolding more_names
more_names_reads found n ts = loop_turn (λ _. a begins_another_name) (λ found. another_name >>= (λ x. pure (found ++ x ∷ [])))
    (λ x. (one_name_takes 0 x).shrinks) found n ts

pub more_vars_reads : (found : List Vars) (n : ℕ) (ts : List Seen) →
    (more_vars found).read n ts ≡ cond (begins_with (a names) ts)
    (after (after (vars.read n ts) (λ x. pure (found ++ x ∷ []))) more_vars) (done found n ts)
unfolding more_vars
more_vars_reads found n ts = loop_turn (λ _. a names) (λ found. vars >>= (λ x. pure (found ++ x ∷ [])))
    (λ x. (one_vars_takes 0 x).shrinks) found n ts

pub more_clauses_reads : (found : List ClauseOutline) (n : ℕ) (ts : List Seen) →
    (more_clauses found).read n ts ≡ cond (begins_with (a begins_clause) ts)
    (after (after (clause_rule.read n ts) (λ x. pure (found ++ x ∷ []))) more_clauses) (done found n ts)
unfolding more_clauses
more_clauses_reads found n ts = loop_turn (λ _. a begins_clause) (λ found. clause_rule >>= (λ x. pure (found ++ x ∷ [])))
    (λ x. (one_clause_takes 0 x).shrinks) found n ts

pub sections_reads : (found : List Section) (n : ℕ) (ts : List Seen) →
    (sections found).read n ts ≡ cond (begins_with (a begins_section) ts)
    (after (after (section_rule.read n ts) (λ x. pure (found ++ x ∷ []))) sections) (done found n ts)
unfolding sections
sections_reads found n ts = loop_turn (λ _. a begins_section) (λ found. section_rule >>= (λ x. pure (found ++ x ∷ [])))
    (λ x. (one_section_takes 0 x).shrinks) found n ts

pub more_modules_reads : (found : List ModuleOutline) (n : ℕ) (ts : List Seen) →
    (more_modules found).read n ts ≡ cond (begins_with (a (one Module)) ts)
    (after (after ((module_of (a names)).read n ts) (λ x. pure (found ++ x ∷ []))) more_modules) (done found n ts)
unfolding more_modules
more_modules_reads found n ts = loop_turn (λ _. a (one Module)) (λ found. module_of (a names) >>= (λ x. pure (found ++ x ∷ [])))
    (λ x. (one_module_takes 0 x).shrinks) found n ts

pub more_parameters_reads : (taken : Parameters) (n : ℕ) (ts : List Seen) →
    (more_parameters taken).read n ts ≡ cond (begins_with (a (one Comma)) ts)
    (after (after ((sign Comma).read n ts) (λ _. parameter taken)) more_parameters) (done taken n ts)
unfolding more_parameters
more_parameters_reads taken n ts = loop_turn (λ _. a (one Comma)) (λ taken. sign Comma >> parameter taken)
    (λ x. (one_parameter_takes 0 x).shrinks) taken n ts
