-- What the walk makes is a valid program.
use Rattle.std.proofs.Common.{append_assoc, append-nil, length-append, ◌≡◌, refl, sym, ap, subst, ◌∙◌, ℕ, suc, ◌+◌, ◌<◌, ◌≤◌, ◌==◌, Bool, true, false, ◌&&◌, List, [], ◌∷◌, ◌++◌, length, map, arith}
use Rattle.std.proofs.lemmas.Grind.{common_steps, flat_map-append}
use Rattle.std.proofs.lemmas.List.{map-append}
use Rattle.std.proofs.lemmas.List.Folds.{list_all-append}
use Rattle.std.proofs.lemmas.Option.{slice_get_within}
use Rattle.std.specs.Prelude.{Option, Some, None, Ok, Err, if◌then◌else◌, nat_lt, nat_le, zero, slice_get}
use Rattle.std.specs.List.{list_all, flat_map, All}
use Rattle.std.proofs.lemmas.List.Elements.{All-head, All-tail}
use Rattle.std.specs.Option.{option_map}
use Rattle.elan_text.specs.declared.name.Name.{Name}
use Rattle.elan_terms.specs.declared.tree.SortId.{SortId}
use Rattle.elan_terms.specs.Match.{occurrences}
use Rattle.elan_program.specs.declared.signature.Signature.{Signature}
use Rattle.elan_program.specs.Soundness.{most, has_sort_id, is_sound}
use Rattle.elan_names.specs.declared.heads.Label.{Label}
use Rattle.elan_names.specs.declared.heads.Names.{Names}
use Rattle.elan_names.specs.Names.{places}
use Rattle.elan_names.specs.Valid.{IsNamedBy, head_part, named_part}
use Rattle.elan_names.proofs.LeafLemmas.{place_found}
use Rattle.elan_modules.specs.declared.flat.Flat.{Flat}
use Rattle.elan_check.specs.declared.steps.Done.{Done}
use Rattle.elan_modules.specs.declared.flat.Instance.{Instance}
use Rattle.elan_modules.specs.declared.flat.Origin.{Origin}
use Rattle.elan_modules.specs.declared.flat.Origin.TheVariants.{Builtin, Text}
use Rattle.elan_modules.specs.declared.flat.LoadedText.{LoadedText}
use Rattle.elan_phrases.specs.declared.span.Span.{Span}
use Rattle.elan_syntax.specs.declared.parts.Vars.{Vars}
use Rattle.elan_syntax.specs.declared.parts.Section.{Section}
use Rattle.elan_syntax.specs.declared.parts.Section.TheVariants as section
use Rattle.elan_syntax.specs.declared.parts.ModuleOutline.{ModuleOutline}
use Rattle.elan_syntax.specs.declared.parts.RuleOutline.{RuleOutline}
use Rattle.elan_syntax.specs.declared.parts.Definition.{Definition as DefinitionOutline}
use Rattle.elan_program.specs.declared.program.Rule.{Rule}
use Rattle.elan_program.specs.declared.program.Named.{Named}
use Rattle.elan_program.specs.declared.program.Parts.{Parts}
use Rattle.elan_check.specs.declared.prepared.Asked.{Asked}
use Rattle.elan_check.specs.declared.prepared.Prepared.{Prepared}
use Rattle.elan_reading.specs.declared.lexeme.Variable.{Variable}
use Rattle.elan_reading.specs.declared.sought.Sought.TheVariants.{Sort}
use Rattle.elan_modules.specs.Sorts.{written}
use Rattle.elan_text.specs.declared.refusal.Code.TheVariants.{E14}
use Rattle.elan_clauses.specs.Refusals.{Checked, refusal_at}
use Rattle.elan_check.specs.Laid.{Part, RulesFor, StrategiesFor, Scene, first_sort, is_sort_named, sort_or, sort_at, variables_at, declared, variables_of, laid_rules, laid_strategies, laid_section, laid_sections, module_in, module_of, site_of, laid_module, laid_all, laid, labels_in, heads_in, names_of}
use Rattle.elan_clauses.specs.Texts.{Reader, text_as}
use Rattle.elan_clauses.specs.Rules.{numbered_rule, checked_rule, checked_definition, none_seen, second_of, strategy_in}
use Rattle.elan_check.specs.Walk.{Task, Declares, ARule, ADefinition, tasks_in, most_rules, within, checked_task, checked_tasks, nothing, stream_of, asked_sort, asked_at, asked, prepared, done_and_asked, checked_whole, checked}
use Rattle.elan_program.specs.Validity.{is_valid_rule, is_valid_named, is_valid}
use Rattle.elan_check.specs.Validity.{IsPrepared, ReadsAll}
use Rattle.elan_check.specs.Fits.{PartFits, AllFit}
use Rattle.elan_clauses.specs.Readable.{IsReadable}
use Rattle.elan_clauses.specs.Offered.{is_declared, are_declared, ReadsWell, is_few, is_small}
use Rattle.elan_clauses.proofs.NumberLemmas.{left_true, right_true, both_true, nat_same}
use Rattle.elan_clauses.proofs.RuleLemmas.{same_ok, no_ok, went_on}
use Rattle.elan_clauses.proofs.CheckedLemmas.{was_once, strategy_fits, text_fits, rule_valid, named_valid, part_of, rule_sort, named_sort}

-- ---- lists

pub all_get : {A : Type 0} (p : A → Bool) (xs : List A) (k : ℕ) (x : A) → list_all p xs ≡ true → slice_get xs k ≡ Some x → p x ≡ true
all_get p [] k x e g = cc
all_get p (y ∷ ys) zero x e g = ap p (sym (some_same g)) ∙ left_true (p y) (list_all p ys) e
  where
    some_same : {A : Type 0} {a b : A} → Some a ≡ Some b → a ≡ b
    some_same e = cc
all_get p (y ∷ ys) (suc k) x e g = all_get p ys k x (right_true (p y) (list_all p ys) e) g

all_at : {A : Type 0} (P : A → Type 0) (xs : List A) (k : ℕ) (x : A) → All P xs → slice_get xs k ≡ Some x → P x
all_at P [] k x h g = absurd (none_some g)
  where
    none_some : {A : Type 0} {a : A} → None ≡ Some a → ⊥
    none_some e = cc
all_at P (y ∷ ys) zero x h g = subst P (some_same g) (All-head P y ys h)
  where
    some_same : {A : Type 0} {a b : A} → Some a ≡ Some b → a ≡ b
    some_same e = cc
all_at P (y ∷ ys) (suc k) x h g = all_at P ys k x (All-tail P y ys h) g

module _ (g : Signature) where
  -- ---- sorts and variables

  pub sort_there : (site : Scene) (at : Span) (s : SortId) → sort_at g site at ≡ Ok s → has_sort_id g s ≡ true
  unfolding sort_at
  sort_there site at s e = go (places named 0 g.sorts) refl e
    where
      named : Name → Bool
      named = is_sort_named (written site.text site.parameters site.args at)

      below : (k n : ℕ) → k < n → nat_lt k n ≡ true
      below k n lt = grind (arith, common_steps)

      go : (ks : List ℕ) → places named 0 g.sorts ≡ ks → sort_or site at (first_sort ks) ≡ Ok s → has_sort_id g s ≡ true
      go [] f e = absurd (no_ok e)
      go (k ∷ ks) f e =
          let there = place_found named g.sorts [] g.sorts 0 refl refl k ks f in
          ap (has_sort_id g) (sym (same_ok e)) ∙ below k (length g.sorts) (slice_get_within g.sorts k there.0 there.1)

  variables_there : (text : LoadedText) (sort : SortId) (k : ℕ) (ts : List ℕ) → has_sort_id g sort ≡ true → are_declared g k (variables_at text sort k ts) ≡ true
  variables_there text sort k [] h = refl
  variables_there text sort k (t ∷ ts) h = both_true (k == k && has_sort_id g sort) _ (both_true (k == k) (has_sort_id g sort) (nat_same k) h)
      (subst (λ n. are_declared g n (variables_at text sort (k + 1) ts) ≡ true) (sym one) (variables_there text sort (k + 1) ts h))
    where
      one : suc k ≡ k + 1
      one = omega arith

  declared-append : (k : ℕ) (vs us : List Variable) → are_declared g k vs ≡ true → are_declared g (k + length vs) us ≡ true → are_declared g k (vs ++ us) ≡ true
  declared-append k [] us e f = subst (λ n. are_declared g n us ≡ true) none f
    where
      none : k + length {A = Variable} [] ≡ k
      none = omega arith
  declared-append k (v ∷ vs) us e f = both_true (v.number == k && has_sort_id g v.sort) _ (left_true _ (are_declared g (suc k) vs) e)
      (declared-append (suc k) vs us (right_true (v.number == k && has_sort_id g v.sort) _ e) (subst (λ n. are_declared g n us ≡ true) more f))
    where
      more : k + length (v ∷ vs) ≡ suc k + length vs
      more = omega arith

  length-variables_at : (text : LoadedText) (sort : SortId) (k : ℕ) (ts : List ℕ) → length (variables_at text sort k ts) ≡ length ts
  length-variables_at text sort k [] = refl
  length-variables_at text sort k (t ∷ ts) = omega (arith, length-variables_at text sort (k + 1) ts)

  variables_declared : (site : Scene) (before : List Variable) (vs : List Vars) (found : List Variable) → variables_of g site before vs ≡ Ok found
      → are_declared g 0 before ≡ true → (are_declared g 0 found ≡ true) × (length found ≡ length before + length (flat_map (λ (v : Vars). v.names) vs))
  variables_declared site before [] found e d = (ap (are_declared g 0) (sym (same_ok e)) ∙ d, let same : found ≡ before = sym (same_ok e) in omega (arith, ap length same))
  variables_declared site before (v ∷ vs) found e d =
      let one = went_on (declared g site before v) _ found e in
      let sort = went_on (sort_at g site v.sort) _ one.0 one.1.0 in
      let same : before ++ variables_at site.text sort.0 (length before) v.names ≡ one.0 = same_ok sort.1.1 in
      let more = variables_declared site one.0 vs found one.1.1
      (subst (λ x. are_declared g 0 x ≡ true) same (declared-append 0 before (variables_at site.text sort.0 (length before) v.names) d
      (subst (λ n. are_declared g n (variables_at site.text sort.0 (length before) v.names) ≡ true) (from_none (length before))
      (variables_there site.text sort.0 (length before) v.names (sort_there site v.sort sort.0 sort.1.0))))) in (
        more.0,
        omega (
          arith,
          more.1,
          ap length same,
          length-append before (variables_at site.text sort.0 (length before) v.names),
          length-variables_at site.text sort.0 (length before) v.names,
          length-append v.names (flat_map (λ (v : Vars). v.names) vs),
        ),
      )
    where
      from_none : (n : ℕ) → n ≡ 0 + n
      from_none n = omega arith

  -- ---- parts

  module _ (read : Reader) where
    one_more : (ps : List Part) (p : Part) → AllFit read g ps → PartFits read g p → AllFit read g (ps ++ p ∷ [])
    one_more [] p a f = (f, tt)
    one_more (q ∷ qs) p a f = (a.0, one_more qs p a.1 f)

    section_fits : (site : Scene) (before : List Part) (s : Section) (found : List Part) → IsReadable site.text → ReadsWell read g site.text → is_few s ≡ true → AllFit read g before
        → laid_section g site before s ≡ Ok found → AllFit read g found
    section_fits site before (section.Rules sort vars rules) found readable reads few a e =
        let part = went_on (laid_rules g site sort vars rules) _ found e in
        let s = went_on (sort_at g site sort) _ part.0 part.1.0 in
        let vs = went_on (variables_of g site [] vars) _ part.0 s.1.1 in
        let known = variables_declared site [] vars vs.0 vs.1.0 refl in
        subst (AllFit read g) (same_ok part.1.1) (one_more before part.0 a (subst (PartFits read g) (same_ok vs.1.1)
        (readable, (reads, (sort_there site sort s.0 s.1.0, (known.0, ap (λ n. nat_lt n most) (as_many (length vs.0) (length (flat_map (λ (v : Vars). v.names) vars)) known.1) ∙ few))))))
      where
        as_many : (n m : ℕ) → n ≡ 0 + m → n ≡ m
        as_many n m e = omega (arith, e)
    section_fits site before (section.Strategies sort definitions) found readable reads few a e =
        let part = went_on (laid_strategies g site sort definitions) _ found e in
        let s = went_on (sort_at g site sort) _ part.0 part.1.0 in
        subst (AllFit read g) (same_ok part.1.1) (one_more before part.0 a (subst (PartFits read g) (same_ok s.1.1) (sort_there site sort s.0 s.1.0, few)))
    section_fits site before (section.Imports x) found readable reads few a e = subst (AllFit read g) (same_ok e) a
    section_fits site before (section.Sorts x) found readable reads few a e = subst (AllFit read g) (same_ok e) a
    section_fits site before (section.Operators x) found readable reads few a e = subst (AllFit read g) (same_ok e) a

    sections_fit : (site : Scene) (before : List Part) (ss : List Section) (found : List Part) → IsReadable site.text → ReadsWell read g site.text → list_all is_few ss ≡ true → AllFit read g before
        → laid_sections g site before ss ≡ Ok found → AllFit read g found
    sections_fit site before [] found readable reads few a e = subst (AllFit read g) (same_ok e) a
    sections_fit site before (s ∷ ss) found readable reads few a e =
        let one = went_on (laid_section g site before s) _ found e in
        sections_fit site one.0 ss found readable reads (right_true (is_few s) _ few) (section_fits site before s one.0 readable reads (left_true (is_few s) (list_all is_few ss) few) a one.1.0) one.1.1

    module _ (flat : Flat) (small : is_small flat ≡ true) (readable : All IsReadable flat.texts) (reads : (i : ℕ) (text : LoadedText) → slice_get flat.texts i ≡ Some text → ReadsWell read g text) where
      abbrev ModuleFits : Option (LoadedText × ModuleOutline) → Type 0
      ModuleFits None = Unit {0}
      ModuleFits (Some m) = IsReadable m.0 × (ReadsWell read g m.0 × (list_all is_few m.1.sections ≡ true))

      module_fits : (o : Origin) → ModuleFits (module_of flat o)
      unfolding is_small
      module_fits (Builtin built_in) = tt
      module_fits (Text i j) = go (slice_get flat.texts i) refl
        where
          inner : (text : LoadedText) → slice_get flat.texts i ≡ Some text → (m : Option ModuleOutline) → slice_get text.modules j ≡ m → ModuleFits (option_map (λ m. (text, m)) m)
          inner text at None e = tt
          inner text at (Some m) e = (all_at IsReadable flat.texts i text readable at, (reads i text at, all_get (λ (m : ModuleOutline). list_all is_few m.sections) text.modules j m (few_text text at) e))
            where
              few_text : (text : LoadedText) → slice_get flat.texts i ≡ Some text → list_all (λ (m : ModuleOutline). list_all is_few m.sections) text.modules ≡ true
              few_text text at = all_get (λ (t : LoadedText). list_all (λ (m : ModuleOutline). list_all is_few m.sections) t.modules) flat.texts i text small at

          go : (t : Option LoadedText) → slice_get flat.texts i ≡ t → ModuleFits (module_in t j)
          go None e = tt
          go (Some text) e = inner text e (slice_get text.modules j) refl

      instance_fits : (i : Instance) (before : List Part) (m : Option (LoadedText × ModuleOutline)) (found : List Part) → ModuleFits m → AllFit read g before
          → laid_module g i before m ≡ Ok found → AllFit read g found
      instance_fits i before None found f a e = subst (AllFit read g) (same_ok e) a
      instance_fits i before (Some m) found f a e = sections_fit (site_of i m) before m.1.sections found f.0 f.1.0 f.1.1 a e

      instances_fit : (before : List Part) (is : List Instance) (found : List Part) → AllFit read g before → laid_all g flat before is ≡ Ok found → AllFit read g found
      instances_fit before [] found a e = subst (AllFit read g) (same_ok e) a
      instances_fit before (i ∷ is) found a e =
          let one = went_on (laid_module g i before (module_of flat i.origin)) _ found e in
          instances_fit one.0 is found (instance_fits i before (module_of flat i.origin) one.0 (module_fits i.origin) a one.1.0) one.1.1

      pub laid_fits : (parts : List Part) → laid g flat ≡ Ok parts → AllFit read g parts
      unfolding laid
      laid_fits parts e = instances_fit [] flat.instances parts tt e

    -- ---- tasks

    abbrev TaskFits : Task → Type 0
    TaskFits (Declares text tokens) = Unit {0}
    TaskFits (ARule text sort variables r) =
        ReadsWell read g text × ((has_sort_id g sort ≡ true) × ((are_declared g 0 variables ≡ true) × (nat_lt (length variables) most ≡ true)))
    TaskFits (ADefinition text sort d) = has_sort_id g sort ≡ true

    abbrev TasksFit : List Task → Type 0
    TasksFit [] = Unit {0}
    TasksFit (t ∷ ts) = TaskFits t × TasksFit ts

    tasks-append : (ts us : List Task) → TasksFit ts → TasksFit us → TasksFit (ts ++ us)
    tasks-append [] us a b = b
    tasks-append (t ∷ ts) us a b = (a.0, tasks-append ts us a.1 b)

    part_tasks : (p : Part) → PartFits read g p → TasksFit (tasks_in p)
    part_tasks (RulesFor text sort tokens variables rules) f = (tt, each rules)
      where
        each : (rs : List RuleOutline) → TasksFit (map (ARule text sort variables) rs)
        each [] = tt
        each (r ∷ rs) = (f.1, each rs)
    part_tasks (StrategiesFor text sort definitions) f = each definitions
      where
        each : (ds : List DefinitionOutline) → TasksFit (map (ADefinition text sort) ds)
        each [] = tt
        each (d ∷ ds) = (f.0, each ds)

    all_tasks : (ps : List Part) → AllFit read g ps → TasksFit (flat_map tasks_in ps)
    all_tasks [] a = tt
    all_tasks (p ∷ ps) a = tasks-append (tasks_in p) (flat_map tasks_in ps) (part_tasks p a.0) (all_tasks ps a.1)

    -- what a task adds
    abbrev rules_by : Task → List SortId
    rules_by (Declares text tokens) = []
    rules_by (ARule text sort variables r) = sort ∷ []
    rules_by (ADefinition text sort d) = []

    abbrev named_by : Task → List (SortId × ℕ)
    named_by (Declares text tokens) = []
    named_by (ARule text sort variables r) = []
    named_by (ADefinition text sort d) = (sort, length d.parameters) ∷ []

    -- what is done has grown by these rules and definitions
    pub record Grows (old new : Done) (rules : List SortId) (named : List (SortId × ℕ)) : Type 0 where
      pub more_rules : map (λ (r : Rule). r.sort) new.rules ≡ map (λ (r : Rule). r.sort) old.rules ++ rules
      pub more_named : map named_part new.named ≡ map named_part old.named ++ named
      pub few : length old.rules + length old.named ≤ most_rules → length new.rules + length new.named ≤ most_rules

    was_within : {A : Type 0} (done : Done) (text : LoadedText) (at : ℕ) (more : Checked A) (a : A) → within done text at more ≡ Ok a
        → (length done.rules + length done.named < most_rules) × (more ≡ Ok a)
    was_within done text at more a e = go (nat_le most_rules (length done.rules + length done.named)) refl e
      where
        go : (b : Bool) → nat_le most_rules (length done.rules + length done.named) ≡ b → (if b then Err (refusal_at text at E14) else more) ≡ Ok a
            → (length done.rules + length done.named < most_rules) × (more ≡ Ok a)
        go true b e = absurd (no_ok e)
        go false b e = (grind (arith, common_steps), e)

    same_done : (done : Done) → Grows done done [] []
    same_done done = record {
      more_rules = sym (append-nil (map (λ (r : Rule). r.sort) done.rules));
      more_named = sym (append-nil (map named_part done.named));
      few = λ e. e;
    }

    module _ (names : Names) where
      task_grows : (done : Done) (t : Task) (found : Done) → checked_task read g names done t ≡ Ok found → Grows done found (rules_by t) (named_by t)
      task_grows done (Declares text tokens) found e =
          subst (λ x. Grows done x [] []) (same_ok (was_once text (second_of text none_seen tokens) (Ok done) found e)) (same_done done)
      task_grows done (ARule text sort variables r) found e =
          let room = was_within done text r.at _ found e in
          let rule = went_on (checked_rule read g names text variables sort r) _ found room.1 in
          let same : (numbered_rule rule.0).sort ≡ sort = rule_sort read g names text variables sort r rule.0 rule.1.0 in
          subst (λ x. Grows done x (sort ∷ []) []) (same_ok rule.1.1) (record {
            more_rules = map-append (λ (r : Rule). r.sort) done.rules (numbered_rule rule.0 ∷ []) ∙ ap (λ s. map (λ (r : Rule). r.sort) done.rules ++ s ∷ []) same;
            more_named = sym (append-nil (map named_part done.named));
            few = λ _. omega (arith, room.0, length-append done.rules (numbered_rule rule.0 ∷ []));
          })
      task_grows done (ADefinition text sort d) found e =
          let room = was_within done text d.at _ found e in
          let n = went_on (checked_definition read g names text (length done.named) sort d) _ found room.1 in
          let same : named_part n.0 ≡ part_of sort d = named_sort read g names text (length done.named) sort d n.0 n.1.0 in
          subst (λ x. Grows done x [] (part_of sort d ∷ [])) (same_ok n.1.1) (record {
            more_rules = sym (append-nil (map (λ (r : Rule). r.sort) done.rules));
            more_named = map-append named_part done.named (n.0 ∷ []) ∙ ap (λ s. map named_part done.named ++ s ∷ []) same;
            few = λ _. omega (arith, room.0, length-append done.named (n.0 ∷ []));
          })

      tasks_grow : (done : Done) (ts : List Task) (found : Done) → checked_tasks read g names done ts ≡ Ok found
          → Grows done found (flat_map rules_by ts) (flat_map named_by ts)
      tasks_grow done [] found e = subst (λ x. Grows done x [] []) (same_ok e) (same_done done)
      tasks_grow done (t ∷ ts) found e =
          let one = went_on (checked_task read g names done t) _ found e in
          let here = task_grows done t one.0 one.1.0 in
          let more = tasks_grow one.0 ts found one.1.1 in
          record {
            more_rules = more.more_rules ∙ ap (λ s. s ++ flat_map rules_by ts) here.more_rules ∙ append_assoc (map (λ (r : Rule). r.sort) done.rules) (rules_by t) (flat_map rules_by ts);
            more_named = more.more_named ∙ ap (λ s. s ++ flat_map named_by ts) here.more_named ∙ append_assoc (map named_part done.named) (named_by t) (flat_map named_by ts);
            few = λ e. more.few (here.few e);
          }

      module _ (rs : List Rule) (ns : List Named) (standing : IsNamedBy (record { signature = g; rules = rs; named = ns }) names) (sound : is_sound g ≡ true) where
        abbrev w : Parts
        w = record { signature = g; rules = rs; named = ns }

        -- what is done is valid in this program
        pub record DoneFits (done : Done) : Type 0 where
          pub rules : list_all (is_valid_rule w) done.rules ≡ true
          pub named : list_all (is_valid_named w) done.named ≡ true

        task_fits : (done : Done) (t : Task) (found : Done) → TaskFits t → DoneFits done → checked_task read g names done t ≡ Ok found → DoneFits found
        task_fits done (Declares text tokens) found f d e = subst DoneFits (same_ok (was_once text (second_of text none_seen tokens) (Ok done) found e)) d
        task_fits done (ARule text sort variables r) found f d e =
            let room = was_within done text r.at _ found e in
            let rule = went_on (checked_rule read g names text variables sort r) _ found room.1 in
            let good = rule_valid read g names rs ns standing sound text variables f.0 f.1.1.0 f.1.1.1 sort r rule.0 f.1.0 rule.1.0 in
            subst DoneFits (same_ok rule.1.1) (record {
              rules = list_all-append (is_valid_rule w) done.rules (numbered_rule rule.0 ∷ [])
                  ∙ both_true (list_all (is_valid_rule w) done.rules) _ d.rules (both_true (is_valid_rule w (numbered_rule rule.0)) true good refl);
              named = d.named;
            })
        task_fits done (ADefinition text sort d') found f d e =
            let room = was_within done text d'.at _ found e in
            let n = went_on (checked_definition read g names text (length done.named) sort d') _ found room.1 in
            let good = named_valid read g names rs ns standing sound text (length done.named) sort d' n.0 f n.1.0 in
            subst DoneFits (same_ok n.1.1) (record {
              rules = d.rules;
              named = list_all-append (is_valid_named w) done.named (n.0 ∷ [])
                  ∙ both_true (list_all (is_valid_named w) done.named) _ d.named (both_true (is_valid_named w n.0) true good refl);
            })

        tasks_fit : (done : Done) (ts : List Task) (found : Done) → TasksFit ts → DoneFits done → checked_tasks read g names done ts ≡ Ok found → DoneFits found
        tasks_fit done [] found f d e = subst DoneFits (same_ok e) d
        tasks_fit done (t ∷ ts) found f d e =
            let one = went_on (checked_task read g names done t) _ found e in
            tasks_fit one.0 ts found f.1 (task_fits done t one.0 f.0 d one.1.0) one.1.1

    -- ---- what the tasks add is what the names say

    rules_named : (ps : List Part) → flat_map rules_by (flat_map tasks_in ps) ≡ map (λ (l : Label). l.sort) (names_of ps).labels
    rules_named [] = refl
    rules_named (p ∷ ps) = flat_map-append rules_by (tasks_in p) (flat_map tasks_in ps)
        ∙ ap (λ s. s ++ flat_map rules_by (flat_map tasks_in ps)) (part p)
        ∙ ap (λ s. map (λ (l : Label). l.sort) (labels_in p) ++ s) (rules_named ps)
        ∙ sym (map-append (λ (l : Label). l.sort) (labels_in p) (flat_map labels_in ps))
      where
        part : (p : Part) → flat_map rules_by (tasks_in p) ≡ map (λ (l : Label). l.sort) (labels_in p)
        part (RulesFor text sort tokens variables rules) = each rules
          where
            each : (rs : List RuleOutline) → flat_map rules_by (map (ARule text sort variables) rs) ≡ map (λ (l : Label). l.sort) (labels_in (RulesFor text sort tokens variables rs))
            each [] = refl
            each (r ∷ rs) = ap (λ ss. sort ∷ ss) (each rs)
        part (StrategiesFor text sort definitions) = each definitions
          where
            each : (ds : List DefinitionOutline) → flat_map rules_by (map (ADefinition text sort) ds) ≡ []
            each [] = refl
            each (d ∷ ds) = each ds

    heads_named : (ps : List Part) → flat_map named_by (flat_map tasks_in ps) ≡ map head_part (names_of ps).heads
    heads_named [] = refl
    heads_named (p ∷ ps) = flat_map-append named_by (tasks_in p) (flat_map tasks_in ps)
        ∙ ap (λ s. s ++ flat_map named_by (flat_map tasks_in ps)) (part p)
        ∙ ap (λ s. map head_part (heads_in p) ++ s) (heads_named ps)
        ∙ sym (map-append head_part (heads_in p) (flat_map heads_in ps))
      where
        part : (p : Part) → flat_map named_by (tasks_in p) ≡ map head_part (heads_in p)
        part (RulesFor text sort tokens variables rules) = each rules
          where
            each : (rs : List RuleOutline) → flat_map named_by (map (ARule text sort variables) rs) ≡ []
            each [] = refl
            each (r ∷ rs) = each rs
        part (StrategiesFor text sort definitions) = each definitions
          where
            each : (ds : List DefinitionOutline) → flat_map named_by (map (ADefinition text sort) ds) ≡ map head_part (heads_in (StrategiesFor text sort ds))
            each [] = refl
            each (d ∷ ds) = ap (λ ss. (sort, length d.parameters) ∷ ss) (each ds)

-- ---- the whole

none_declared : (os : List (ℕ × SortId)) → list_all (is_declared []) os ≡ true → os ≡ []
none_declared [] e = refl
none_declared (o ∷ os) e = cc

pub asked_valid : (read : Reader) (flat : Flat) (g : Signature) (names : Names) (done : Done) (a : Asked)
    → (named : IsNamedBy (record { signature = g; rules = done.rules; named = done.named }) names) → (sound : is_sound g ≡ true)
    → ReadsWell read g (stream_of flat.texts) → DoneFits g read names done.rules done.named named sound done → length done.rules + length done.named ≤ most_rules
    → asked read flat g names ≡ Ok a → IsPrepared (prepared g done a)
unfolding is_valid
asked_valid read flat g names done a named sound stream fits few e =
    let sort = went_on (asked_sort flat g) (asked_at read flat g names) a e in
    let start = went_on (strategy_in g names (stream_of flat.texts) None sort.0 flat.lpl.start) _ a sort.1.1 in
    let query = went_on (text_as read g (stream_of flat.texts) [] (Sort sort.0) flat.query) _ a start.1.1 in
    let reading = text_fits read g names done.rules done.named named sound (stream_of flat.texts) [] stream (Sort sort.0) flat.query query.0 query.1.0 in
    subst (λ x. IsPrepared (prepared g done x)) (same_ok query.1.1) (record {
      program = both_true _ _
          (both_true (is_sound g) _ sound (both_true (nat_lt (length done.rules) most) _ (under (length done.rules) (omega (arith, few))) (under (length done.named) (omega (arith, few)))))
          (both_true (list_all (is_valid_rule (record { signature = g; rules = done.rules; named = done.named })) done.rules) _ fits.rules fits.named);
      start = strategy_fits read g names done.rules done.named named sound (stream_of flat.texts) None sort.0 flat.lpl.start start.0 start.1.0;
      query = reading.0;
      ground = none_declared (occurrences query.0) reading.1;
    })
  where
    under : (n : ℕ) → n ≤ 8192 → nat_lt n most ≡ true
    under n e = grind (arith, common_steps)

-- What was checked is a valid program, with a valid start and a valid query.
pub prepared_valid : (read : Reader) (flat : Flat) (g : Signature) (parts : List Part) (done : Done) (a : Asked) → is_sound g ≡ true → is_small flat ≡ true
    → All IsReadable flat.texts → ReadsAll read g flat → laid g flat ≡ Ok parts → checked_tasks read g (names_of parts) nothing (flat_map tasks_in parts) ≡ Ok done
    → asked read flat g (names_of parts) ≡ Ok a → IsPrepared (prepared g done a)
prepared_valid read flat g parts done a sound small readable reads e1 e2 e3 =
    let names = names_of parts in
    let grown = tasks_grow g read names nothing (flat_map tasks_in parts) done e2 in
    let named : IsNamedBy (record { signature = g; rules = done.rules; named = done.named }) names
    = record { rules = grown.more_rules ∙ rules_named g read parts; named = grown.more_named ∙ heads_named g read parts } in
    let fits = tasks_fit g read names done.rules done.named named sound nothing (flat_map tasks_in parts) done
    (all_tasks g read parts (laid_fits g read flat small readable reads.texts parts e1)) (record { rules = refl; named = refl }) e2 in
    asked_valid read flat g names done a named sound reads.stream fits (grown.few (omega arith)) e3

pub whole_valid : (read : Reader) (flat : Flat) (g : Signature) (found : Done × Asked) → is_sound g ≡ true → is_small flat ≡ true
    → All IsReadable flat.texts → ReadsAll read g flat → checked_whole read flat g ≡ Ok found → IsPrepared (prepared g found.0 found.1)
unfolding checked_whole
whole_valid read flat g found sound small readable reads e =
    let parts = went_on (laid g flat) (done_and_asked read flat g) found e in
    let done = went_on (checked_tasks read g (names_of parts.0) nothing (flat_map tasks_in parts.0)) _ found parts.1.1 in
    let a = went_on (asked read flat g (names_of parts.0)) _ found done.1.1 in
    subst (λ x. IsPrepared (prepared g x.0 x.1)) (same_ok a.1.1) (prepared_valid read flat g parts.0 done.0 a.0 sound small readable reads parts.1.0 done.1.0 a.1.0)

pub checked_valid : (read : Reader) (flat : Flat) (g : Signature) (p : Prepared) → is_sound g ≡ true → is_small flat ≡ true
    → All IsReadable flat.texts → ReadsAll read g flat → checked read flat g ≡ Ok p → IsPrepared p
unfolding checked
checked_valid read flat g p sound small readable reads e =
    let found = went_on (checked_whole read flat g) _ p e in
    subst IsPrepared (same_ok found.1.1) (whole_valid read flat g found.0 sound small readable reads found.1.0)
