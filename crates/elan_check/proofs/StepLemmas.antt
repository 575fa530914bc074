-- What the steps of the walk cite.
use Rattle.std.proofs.Common.{append_assoc, length-append, ap, ap₂, sym, subst, refl, ◌∙◌, ◌+◌, ◌++◌, [], ◌∷◌, ◌≡◌, ℕ, ◌<◌, ◌≤◌, ◌^◌, true, length, map, get_or, drop, arith}
use Rattle.std.specs.Prelude.{Ok, Err, Option, Some, None, List, slice_get}
use Rattle.std.specs.List.{flat_map, list_all, All}
use Rattle.std.proofs.lemmas.List.Elements.{All-nil, All-head}
use Rattle.std.specs.Option.{option_map}
use Rattle.elan_modules.specs.declared.flat.Flat.{Flat}
use Rattle.elan_modules.specs.declared.flat.Origin.{Origin}
use Rattle.elan_modules.specs.declared.flat.Origin.TheVariants.{Builtin, Text}
use Rattle.elan_syntax.specs.declared.parts.ModuleOutline.{ModuleOutline}
use Rattle.elan_clauses.specs.Offered.{is_few, is_small}
use Rattle.elan_clauses.specs.Offered.{has_few}
use Rattle.elan_clauses.specs.Readable.{IsReadable}
use Rattle.elan_clauses.proofs.NumberLemmas.{both_true}
use Rattle.elan_lexer.specs.Text.{IsInside}
use Rattle.elan_reading.specs.Lexemes.{IsInRange}
use Rattle.elan_check.specs.Fits.{AllFit}
use Rattle.elan_check.specs.Validity.{ReadsAll}
use Rattle.elan_check.proofs.WalkLemmas.{all_get, laid_fits}
use Rattle.elan_terms.specs.declared.tree.SortId.{SortId}
use Rattle.elan_program.specs.declared.signature.Signature.{Signature}
use Rattle.elan_names.specs.declared.heads.Names.{Names}
use Rattle.elan_names.specs.Resolved.{next}
use Rattle.elan_modules.specs.declared.flat.LoadedText.{LoadedText}
use Rattle.elan_syntax.specs.declared.parts.Vars.{Vars}
use Rattle.elan_reading.specs.declared.lexeme.Variable.{Variable}
use Rattle.elan_clauses.specs.Refusals.{Checked}
use Rattle.elan_clauses.specs.Texts.{Reader}
use Rattle.elan_clauses.proofs.RuleLemmas.{same_ok, went_on}
use Rattle.elan_check.specs.declared.steps.Done.{Done}
use Rattle.elan_check.specs.declared.parts.Part.{Part as LentPart}
use Rattle.elan_check.specs.Lent.{are_few, seen_part}
use Rattle.elan_check.specs.Laid.{Part, RulesFor, StrategiesFor, laid, Scene, variables_at, declared, variables_of, tokens_of, sort_at, module_in, module_of}
use Rattle.elan_check.specs.Walk.{Task, tasks_in, checked_task, checked_tasks, stream_of}

-- the variables of the tokens that follow, behind one more
pub variables_more : (text : LoadedText) (sort : SortId) (before : List Variable) (v : Variable) (ts : List ℕ)
    → (before ++ v ∷ []) ++ variables_at text sort (length (before ++ v ∷ [])) ts ≡ before ++ v ∷ variables_at text sort (length before + 1) ts
variables_more text sort before v ts = append_assoc before (v ∷ []) (variables_at text sort (length (before ++ v ∷ [])) ts)
    ∙ ap (λ n. before ++ v ∷ variables_at text sort n ts) one_more
  where
    one_more : length (before ++ v ∷ []) ≡ length before + 1
    one_more = omega (arith, length-append before (v ∷ []))

length-variables : (text : LoadedText) (sort : SortId) (k : ℕ) (ts : List ℕ) → length (variables_at text sort k ts) ≡ length ts
length-variables text sort k [] = refl
length-variables text sort k (t ∷ ts) = omega (arith, length-variables text sort (k + 1) ts)

-- the variables of the declarations that follow are few as well
pub declared_few : (g : Signature) (site : Scene) (before : List Variable) (v : Vars) (vs : List Vars) (found : List Variable)
    → length before + length (flat_map (λ (v : Vars). v.names) (v ∷ vs)) < 2 ^ 32 → declared g site before v ≡ Ok found
    → length found + length (flat_map (λ (v : Vars). v.names) vs) < 2 ^ 32
declared_few g site before v vs found few e =
    let sort = went_on (sort_at g site v.sort) _ found e in
    let same : before ++ variables_at site.text sort.0 (length before) v.names ≡ found = same_ok sort.1.1 in
    omega (
      arith,
      few,
      ap length same,
      length-append before (variables_at site.text sort.0 (length before) v.names),
      length-variables site.text sort.0 (length before) v.names,
      length-append v.names (flat_map (λ (v : Vars). v.names) vs),
    )

-- the variables of the declarations that follow, behind those of one
pub variables_step : (g : Signature) (site : Scene) (before found : List Variable) (v : Vars) (vs : List Vars) (whole : Checked (List Variable))
    → declared g site before v ≡ Ok found → variables_of g site before (v ∷ vs) ≡ whole → variables_of g site found vs ≡ whole
variables_step g site before found v vs whole e f = sym (ap (λ r. next r (λ more. variables_of g site more vs)) e) ∙ f

-- a list by its first element and the others
cons_is : {X : Type 0} (xs : List X) (x : X) (rest : List X) → x ≡ get_or xs 0 x → 1 ≤ length xs → rest ≡ drop 1 xs → xs ≡ x ∷ rest
cons_is [] x rest is some behind = absurd (omega (arith, some))
cons_is (y ∷ ys) x rest is some behind = ap₂ (λ a b. a ∷ b) (sym is) (sym behind)

-- what is left of declarations decides behind those so far, and numbers do not run out, when one more is looked at
pub variables_kept : (g : Signature) (site : Scene) (before found : List Variable) (left rest : List Vars) (v : Vars) (whole : Checked (List Variable))
    → v ≡ get_or left 0 v → 1 ≤ length left → rest ≡ drop 1 left → declared g site before v ≡ Ok found
    → (variables_of g site before left ≡ whole) × (length before + length (tokens_of left) < 2 ^ 32)
    → (variables_of g site found rest ≡ whole) × (length found + length (tokens_of rest) < 2 ^ 32)
variables_kept g site before found left rest v whole is some behind e (f, few) =
    let c : left ≡ v ∷ rest = cons_is left v rest is some behind in (
      variables_step g site before found v rest whole e (subst (λ z. variables_of g site before z ≡ whole) c f),
      declared_few g site before v rest found (subst (λ z. length before + length (tokens_of z) < 2 ^ 32) c few) e,
    )

-- tasks behind others
pub tasks_more : (read : Reader) (g : Signature) (names : Names) (done : Done) (ts us : List Task)
    → checked_tasks read g names done (ts ++ us) ≡ next (checked_tasks read g names done ts) (λ more. checked_tasks read g names more us)
tasks_more read g names done [] us = refl
tasks_more read g names done (t ∷ ts) us = go (checked_task read g names done t) (λ more. tasks_more read g names more ts us)
  where
    go : (r : Checked Done) → ((more : Done) → checked_tasks read g names more (ts ++ us) ≡ next (checked_tasks read g names more ts) (λ more. checked_tasks read g names more us))
        → next r (λ more. checked_tasks read g names more (ts ++ us)) ≡ next (next r (λ more. checked_tasks read g names more ts)) (λ more. checked_tasks read g names more us)
    go (Ok d) f = f d
    go (Err r) f = refl

-- the tasks of the sections that follow, behind those of one
pub parts_step : (read : Reader) (g : Signature) (names : Names) (done more : Done) (p : Part) (ps : List Part) (whole : Checked Done)
    → checked_tasks read g names done (tasks_in p) ≡ Ok more → checked_tasks read g names done (flat_map tasks_in (p ∷ ps)) ≡ whole
    → checked_tasks read g names more (flat_map tasks_in ps) ≡ whole
parts_step read g names done more p ps whole e f =
    sym (tasks_more read g names done (tasks_in p) (flat_map tasks_in ps) ∙ ap (λ r. next r (λ more. checked_tasks read g names more (flat_map tasks_in ps))) e) ∙ f

-- what is left of sections decides behind those that were checked, and fits, when one more is looked at
pub parts_kept : (read : Reader) (g : Signature) (names : Names) (done more : Done) (left rest : List LentPart) (p : LentPart) (whole : Checked Done)
    → p ≡ get_or left 0 p → 1 ≤ length left → rest ≡ drop 1 left → checked_tasks read g names done (tasks_in (seen_part p)) ≡ Ok more
    → (checked_tasks read g names done (flat_map tasks_in (map seen_part left)) ≡ whole) × AllFit read g (map seen_part left)
    → (checked_tasks read g names more (flat_map tasks_in (map seen_part rest)) ≡ whole) × AllFit read g (map seen_part rest)
parts_kept read g names done more left rest p whole is some behind e (f, fit) =
    let c : left ≡ p ∷ rest = cons_is left p rest is some behind in (
      parts_step read g names done more (seen_part p) (map seen_part rest) whole e
          (subst (λ z. checked_tasks read g names done (flat_map tasks_in (map seen_part z)) ≡ whole) c f),
      (subst (λ z. AllFit read g (map seen_part z)) c fit).1,
    )

-- ---- the sections of a module

no_module : {A : Type 0} (a : A) → None ≡ Some a → ⊥
no_module a e = cc

abbrev module_or : LoadedText × ModuleOutline → Option (LoadedText × ModuleOutline) → LoadedText × ModuleOutline
module_or m None = m
module_or m (Some n) = n

few_in : (text : LoadedText) (m : LoadedText × ModuleOutline) (found : Option ModuleOutline) (j : ℕ) → slice_get text.modules j ≡ found
    → list_all (λ (m : ModuleOutline). list_all is_few m.sections) text.modules ≡ true → option_map (λ m. (text, m)) found ≡ Some m → list_all is_few m.1.sections ≡ true
few_in text m None j at few e = absurd (no_module m e)
few_in text m (Some n) j at few e =
    ap (λ x. list_all is_few x.1.sections) (sym (ap (module_or m) e)) ∙ all_get (λ (m : ModuleOutline). list_all is_few m.sections) text.modules j n few at

few_text : (flat : Flat) (m : LoadedText × ModuleOutline) (found : Option LoadedText) (i j : ℕ) → slice_get flat.texts i ≡ found
    → list_all (λ (t : LoadedText). list_all (λ (m : ModuleOutline). list_all is_few m.sections) t.modules) flat.texts ≡ true → module_in found j ≡ Some m → list_all is_few m.1.sections ≡ true
few_text flat m None i j at few e = absurd (no_module m e)
few_text flat m (Some text) i j at few e =
    few_in text m (slice_get text.modules j) j refl (all_get (λ (t : LoadedText). list_all (λ (m : ModuleOutline). list_all is_few m.sections) t.modules) flat.texts i text few at) e

-- the sections of the module of an instance are few
pub module_few : (flat : Flat) (o : Origin) (m : LoadedText × ModuleOutline) → is_small flat ≡ true → module_of flat o ≡ Some m → list_all is_few m.1.sections ≡ true
unfolding is_small
module_few flat (Builtin built_in) m small e = absurd (no_module m e)
module_few flat (Text i j) m small e = few_text flat m (slice_get flat.texts i) i j refl small e

-- the same of a module that was found
pub found_few : (flat : Flat) (o : Origin) (text : LoadedText) (outline : ModuleOutline) (found : Option (LoadedText × ModuleOutline))
    → is_small flat ≡ true → found ≡ Some (text, outline) → found ≡ module_of flat o → list_all is_few outline.sections ≡ true
found_few flat o text outline found small e f = module_few flat o (text, outline) small (sym f ∙ e)

-- ---- sections that fit

-- sections that fit have definitions with few parameters
pub fits_few : (read : Reader) (g : Signature) (ps : List Part) → AllFit read g ps → list_all are_few ps ≡ true
fits_few read g [] f = refl
fits_few read g (RulesFor text sort tokens variables rules ∷ ps) f = fits_few read g ps f.1
fits_few read g (StrategiesFor text sort definitions ∷ ps) f = both_true (list_all has_few definitions) (list_all are_few ps) f.0.1 (fits_few read g ps f.1)

-- what was laid fits
pub fits_laid : (read : Reader) (flat : Flat) (g : Signature) (parts : List Part) → All IsReadable flat.texts → ReadsAll read g flat → is_small flat ≡ true → laid g flat ≡ Ok parts
    → AllFit read g parts
fits_laid read flat g parts readable reads small e = laid_fits g read flat small readable reads.texts parts e

-- ---- the stream

-- the stream may be read as all texts may, and where there is none it is empty
pub stream_readable : (text : LoadedText) (texts : List LoadedText) → text ≡ stream_of texts → All IsReadable texts → IsReadable text
stream_readable text [] e h = subst IsReadable (sym e) (record {
  inside = All-nil (IsInside (stream_of []).bytes);
  in_range = All-nil IsInRange;
})
stream_readable text (t ∷ ts) e h = subst IsReadable (sym e) (All-head IsReadable t ts h)
