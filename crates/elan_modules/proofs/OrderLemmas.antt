-- The order in which a walk finishes instances.
use Rattle.std.proofs.Common.{◌≡◌, ℕ, zero, suc, ◌+◌, Bool, true, false, ◌&&◌, ◌||◌, cond, nat_le, nat_lt, List, [], ◌∷◌, ◌++◌, length, slice_get, Option, Some, None, Result, Ok, Err, refl, sym, ap, ap₂, ◌∙◌, subst, arith}
use Rattle.std.specs.Prelude.{◌==◌, IfOk}
use Rattle.std.specs.List.{All, list_any}
use Rattle.std.specs.Str.{bytes_eq}
use Rattle.std.proofs.lemmas.List.{append_assoc, append-nil}
use Rattle.std.proofs.lemmas.List.Elements.{All-nil, All-cons, All-head}
use Rattle.std.proofs.lemmas.List.Folds.{list_any-append}
use Rattle.std.proofs.lemmas.Slice.Eq.{bytes_eq-Decides}
use Rattle.elan_text.specs.declared.name.Name.{Name}
use Rattle.elan_text.specs.declared.refusal.Code.TheVariants.{E05, E07, E08, E14}
use Rattle.elan_text.specs.declared.refusal.Place.{Place}
use Rattle.elan_lexer.specs.declared.token.Token.{Token}
use Rattle.elan_lexer.specs.Lex.{Lexed, lexed}
use Rattle.elan_forms.specs.Whole.{Answer, done, refused}
use Rattle.elan_phrases.specs.Symbols.{Seen, seen}
use Rattle.elan_syntax.specs.declared.parts.ModuleOutline.{ModuleOutline}
use Rattle.elan_syntax.specs.declared.parts.Outline.{Outline}
use Rattle.elan_syntax.specs.Grammar.{module_text}
use Rattle.elan_modules.specs.declared.flat.LoadedText.{LoadedText}
use Rattle.elan_modules.specs.declared.flat.Origin.{Origin}
use Rattle.elan_modules.specs.declared.flat.Origin.TheVariants.{Builtin, Text}
use Rattle.elan_modules.specs.declared.flat.Standard.{Standard}
use Rattle.elan_modules.specs.declared.flat.Standard.TheVariants as standard
use Rattle.elan_modules.specs.declared.flat.Instance.{Instance}
use Rattle.elan_modules.specs.declared.flat.Flat.{Flat}
use Rattle.elan_modules.specs.declared.flat.FlattenRefusal.{FlattenRefusal}
use Rattle.elan_modules.specs.declared.walk.Reference.{Reference}
use Rattle.elan_loaders.specs.Libraries.{Told, Has, HasNone, Untold}
use Rattle.elan_modules.specs.Walking.{Walk, Keeps}
use Rattle.elan_modules.specs.Modules.{Found, Opened, opened, outlined, cut, find_in, find, found_first, name_of, is_name, standard_of, parameter_count, standard_imports, parameters_of, first_long, sort_spans, imports_of, references_of, loaded_text}
use Rattle.elan_modules.specs.Visits.{Library, Halted, Refuses, Visiting, Begun, next, with_text, too_long, total, most_bytes, fetched, located_or, located, begun_text, begun_or, begun, measured, text_imports, built_imports, completed, finished, instance_of, is_named_by, is_instance, same_names, most_instances, refused_at, visit_all, visit_step, visit, named_once, named_twice, start, walked, stream_of, flat_program}
use Rattle.elan_modules.specs.Flattens.{StopsAt}
use Rattle.elan_modules.specs.Ordered.{reference_to, imports_by, IsAmong, AreOrdered, IsOrdered}
use Rattle.elan_modules.proofs.FlatLemmas.{keeps_more, get_last}

-- ---- lists

any_same : {A : Type 0} (p q : A → Bool) (xs : List A) → ((x : A) → p x ≡ q x) → list_any p xs ≡ list_any q xs
any_same p q [] e = refl
any_same p q (x ∷ xs) e = ap₂ (λ a b. a || b) (e x) (any_same p q xs e)

any_further : {A : Type 0} (p : A → Bool) (xs ys : List A) → list_any p xs ≡ true → list_any p (xs ++ ys) ≡ true
any_further p xs ys is = list_any-append p xs ys ∙ ap (λ z. z || list_any p ys) is

or_true : (a b : Bool) → b ≡ true → (a || b) ≡ true
or_true true b e = refl
or_true false b e = e

or_false : (a b : Bool) → b ≡ false → (a || b) ≡ a
or_false true b e = refl
or_false false b e = e

any_last : {A : Type 0} (p : A → Bool) (xs : List A) (x : A) → p x ≡ true → list_any p (xs ++ x ∷ []) ≡ true
any_last p xs x is = list_any-append p xs (x ∷ []) ∙ or_true (list_any p xs) (p x || false) (ap (λ z. z || false) is)

any_but_last : {A : Type 0} (p : A → Bool) (xs : List A) (x : A) → p x ≡ false
    → list_any p (xs ++ x ∷ []) ≡ list_any p xs
any_but_last p xs x is =
    list_any-append p xs (x ∷ []) ∙ or_false (list_any p xs) (p x || false) (ap (λ z. z || false) is)

names_itself : (xs : List Name) → same_names xs xs ≡ true
names_itself [] = refl
names_itself (x ∷ xs) =
    let same : bytes_eq x.bytes x.bytes ≡ true = (bytes_eq-Decides x.bytes x.bytes).1 refl in rw same (names_itself xs)

-- ---- instances whose modules are there

record IsPlaced (texts : List LoadedText) (text_number module_number : ℕ) : Type 0 where
  text : LoadedText
  outline : ModuleOutline
  text_is : slice_get texts text_number ≡ Some text
  outline_is : slice_get text.modules module_number ≡ Some outline

abbrev HasPlace : List LoadedText → Origin → Type 0
HasPlace texts (Builtin built_in) = Unit {0}
HasPlace texts (Text text_number module_number) = IsPlaced texts text_number module_number

-- instances in order whose modules are there
abbrev AreWell : List LoadedText → List Instance → List Instance → Type 0
AreWell texts before [] = Unit {0}
AreWell texts before (i ∷ others) = HasPlace texts i.origin × (list_any (is_instance (reference_to i)) before ≡ false)
    × All (IsAmong before) (imports_by texts i i.origin) × AreWell texts (before ++ i ∷ []) others

ordered_well : (texts : List LoadedText) (before is : List Instance) → AreWell texts before is
    → AreOrdered texts before is
ordered_well texts before [] w = tt
ordered_well texts before (i ∷ others) w = (w.1, w.2, ordered_well texts (before ++ i ∷ []) others w.3)

module _ (texts more : List LoadedText) (keeps : Keeps texts more) where
  place_kept : (o : Origin) → HasPlace texts o → HasPlace more o
  place_kept (Builtin built_in) p = tt
  place_kept (Text t m) p = record {
    text = p.text;
    outline = p.outline;
    text_is = keeps t p.text p.text_is;
    outline_is = p.outline_is;
  }

  imports_kept : (i : Instance) (o : Origin) → HasPlace texts o → imports_by more i o ≡ imports_by texts i o
  imports_kept i (Builtin built_in) p = refl
  imports_kept i (Text t m) p = rw (keeps t p.text p.text_is, p.text_is) refl

  well_kept : (before is : List Instance) → AreWell texts before is → AreWell more before is
  well_kept before [] w = tt
  well_kept before (i ∷ others) w = (
    place_kept i.origin w.0,
    w.1,
    subst (λ rs. All (IsAmong before) rs) (sym (imports_kept i i.origin w.0)) w.2,
    well_kept (before ++ i ∷ []) others w.3,
  )

-- one instance more
well_push : (texts : List LoadedText) (before is : List Instance) (i : Instance) → AreWell texts before is
    → HasPlace texts i.origin → list_any (is_instance (reference_to i)) (before ++ is) ≡ false
    → All (IsAmong (before ++ is)) (imports_by texts i i.origin) → AreWell texts before (is ++ i ∷ [])
well_push texts before [] i w place new imports = (
  place,
  subst (λ z. list_any (is_instance (reference_to i)) z ≡ false) (append-nil before) new,
  subst (λ z. All (IsAmong z) (imports_by texts i i.origin)) (append-nil before) imports,
  tt,
)
well_push texts before (x ∷ xs) i w place new imports = (
  w.0,
  w.1,
  w.2,
  well_push texts (before ++ x ∷ []) xs i w.3 place
      (subst (λ z. list_any (is_instance (reference_to i)) z ≡ false) (sym (append_assoc before (x ∷ []) xs)) new)
      (subst (λ z. All (IsAmong z) (imports_by texts i i.origin)) (sym (append_assoc before (x ∷ []) xs)) imports),
)

-- ---- definitions that come to a value

-- what comes next began with a value
record Nexts {A B : Type 0} (x : Result A Halted) (more : A → Result B Halted) (b : B) : Type 0 where
  first : A
  first_is : x ≡ Ok first
  rest_is : more first ≡ Ok b

next_is : {A B : Type 0} (x : Result A Halted) (more : A → Result B Halted) (b : B) → next x more ≡ Ok b
    → Nexts x more b
next_is (Ok a) more b e = record { first = a; first_is = refl; rest_is = e }
next_is (Err h) more b e = absurd cc

ok_is : {A E : Type 0} (a b : A) → (let x : Result A E = Ok a in x) ≡ Ok b → a ≡ b
ok_is a b e = cc

-- ---- where a module is

record StandsAt (ms : List ModuleOutline) (j : ℕ) (at : ℕ × ModuleOutline) : Type 0 where
  k : ℕ
  number : at.0 ≡ j + k
  outline_is : slice_get ms k ≡ Some at.1

stands_in : (text : LoadedText) (j : ℕ) (ms : List ModuleOutline) (name : List ℕ) (at : ℕ × ModuleOutline)
    → find_in text j ms name ≡ Some at → StandsAt ms j at
unfolding find_in
stands_in text j [] name at e = absurd cc
stands_in text j (m ∷ ms) name at e = go (bytes_eq (name_of text m) name) e (stands_in text (j + 1) ms name at)
  where
    go : (d : Bool) → cond d (Some (j, m)) (find_in text (j + 1) ms name) ≡ Some at
        → (find_in text (j + 1) ms name ≡ Some at → StandsAt ms (j + 1) at) → StandsAt (m ∷ ms) j at
    go true e rest = let same : (j, m) ≡ at = cc in
        subst (λ a. StandsAt (m ∷ ms) j a) same (record { k = 0; number = omega arith; outline_is = refl })
    go false e rest = let one = rest e in
        record { k = suc one.k; number = omega (arith, one.number); outline_is = one.outline_is }

record Stands (texts : List LoadedText) (i : ℕ) (found : Found) : Type 0 where
  k : ℕ
  number : found.text_number ≡ i + k
  text_is : slice_get texts k ≡ Some found.text
  outline_is : slice_get found.text.modules found.module_number ≡ Some found.outline

find_stands : (texts : List LoadedText) (i : ℕ) (name : List ℕ) (found : Found) → find i texts name ≡ Some found
    → Stands texts i found
unfolding find
find_stands [] i name found e = absurd cc
find_stands (text ∷ texts) i name found e =
    go (find_in text 0 text.modules name) refl e (find_stands texts (i + 1) name found)
  where
    go : (x : Option (ℕ × ModuleOutline)) → find_in text 0 text.modules name ≡ x
        → found_first i text x (find (i + 1) texts name) ≡ Some found
        → (find (i + 1) texts name ≡ Some found → Stands texts (i + 1) found) → Stands (text ∷ texts) i found
    go None is e rest = let one = rest e in
        record { k = suc one.k; number = omega (arith, one.number); text_is = one.text_is; outline_is = one.outline_is }
    go (Some at) is e rest =
        let same : record { text_number = i; module_number = at.0; text = text; outline = at.1 } ≡ found = cc in
        let one = stands_in text 0 text.modules name at is in
        let number : at.0 ≡ one.k = omega (arith, one.number) in
        subst (λ f. Stands (text ∷ texts) i f) same
        (record { k = 0; number = omega arith; text_is = refl; outline_is = rw number one.outline_is })

opened_one : (name : Name) (bytes : List ℕ) (read : LoadedText × ModuleOutline) → opened name bytes ≡ Ok read
    → read.0.modules ≡ read.1 ∷ []
unfolding opened
opened_one name bytes read e = go (lexed bytes) e
  where
    last : (tokens : List Token) (x : Answer Seen ModuleOutline) → outlined name bytes tokens x ≡ Ok read
        → read.0.modules ≡ read.1 ∷ []
    last tokens (done outline n rest) e =
        subst (λ z. z.0.modules ≡ z.1 ∷ []) (ok_is (loaded_text name bytes tokens outline, outline) read e) refl
    last tokens (refused why rest) e = absurd cc

    go : (x : Lexed) → cut name bytes x ≡ Ok read → read.0.modules ≡ read.1 ∷ []
    go (Ok tokens) e = last tokens ((module_text name).read 0 (seen bytes tokens)) e
    go (Err fault) e = absurd cc

record IsLocated (walk : Walk) (at : Walk × Found) : Type 0 where
  same_done : at.0.done ≡ walk.done
  kept : Keeps walk.texts at.0.texts
  text_is : slice_get at.0.texts at.1.text_number ≡ Some at.1.text
  outline_is : slice_get at.1.text.modules at.1.module_number ≡ Some at.1.outline

module _ (walk : Walk) (r : Reference) (at : Walk × Found) where
  text_located : (bytes : List ℕ) (x : Opened) → opened r.name bytes ≡ x → with_text walk x ≡ Ok at → IsLocated walk at
  text_located bytes (Err refusal) is e = absurd cc
  text_located bytes (Ok read) is e =
      let place : Found = record {
        text_number = length walk.texts;
        module_number = 0;
        text = read.0;
        outline =
            read.1;
      } in
      let further : Walk = record { texts = walk.texts ++ read.0 ∷ []; done = walk.done } in
      let same : (further, place) ≡ at = cc in
      subst (IsLocated walk) same (record {
        same_done = refl;
        kept = keeps_more walk.texts read.0;
        text_is = get_last walk.texts read.0;
        outline_is = ap (λ ms. slice_get ms 0) (opened_one r.name bytes read is);
      })

  long_located : (bytes : List ℕ) (long : Bool)
      → cond long (Err (Refuses (too_long r.name))) (with_text walk (opened r.name bytes)) ≡ Ok at → IsLocated walk at
  long_located bytes true e = absurd cc
  long_located bytes false e = text_located bytes (opened r.name bytes) refl e

  told_located : (told : Told) → fetched walk r told ≡ Ok at → IsLocated walk at
  told_located (Has bytes) e = long_located bytes (nat_lt most_bytes (total walk.texts + length bytes)) e
  told_located HasNone e = absurd cc
  told_located Untold e = absurd cc

  named_located : (told : Told) (named : Bool) → cond named (fetched walk r told) (refused_at E05 r) ≡ Ok at
      → IsLocated walk at
  named_located told true e = told_located told e
  named_located told false e = absurd cc

  located_is : (library : Library) → located library walk r ≡ Ok at → IsLocated walk at
  unfolding located
  located_is library e = go (find 0 walk.texts r.name.bytes) refl e
    where
      go : (x : Option Found) → find 0 walk.texts r.name.bytes ≡ x → located_or library walk r x ≡ Ok at
          → IsLocated walk at
      go None is e = named_located (library r.name.bytes) (is_name r.name.bytes) e
      go (Some found) is e =
          let same : (walk, found) ≡ at = cc in
          let one = find_stands walk.texts 0 r.name.bytes found is in
          let number : found.text_number ≡ one.k = omega (arith, one.number) in
          subst (IsLocated walk) same (record {
            same_done = refl;
            kept = λ n text there. there;
            text_is = rw number one.text_is;
            outline_is = one.outline_is;
          })

-- ---- an instance that is begun

record Begins (walk : Walk) (r : Reference) (b : Begun) : Type 0 where
  same_done : b.walk.done ≡ walk.done
  kept : Keeps walk.texts b.walk.texts
  place : HasPlace b.walk.texts b.origin
  imports : (instances : List Instance) → All (IsAmong instances) b.imports
      → All (IsAmong instances) (imports_by b.walk.texts (instance_of r b.origin) b.origin)

built_among : (instances : List Instance) (r q : Reference) (built_in : Standard)
    → All (IsAmong instances) (standard_imports built_in r)
    → All (IsAmong instances) (standard_imports built_in q)
built_among instances r q standard.Bool all = all
built_among instances r q standard.Int all =
    All-cons (IsAmong instances) _ [] (All-head (IsAmong instances) _ [] all) (All-nil (IsAmong instances))
built_among instances r q standard.Eq all =
    All-cons (IsAmong instances) _ [] (All-head (IsAmong instances) _ [] all) (All-nil (IsAmong instances))

built_is : (r : Reference) (built_in : Standard) (imports : List Reference) → built_imports r built_in ≡ Ok imports
    → imports ≡ standard_imports built_in r
built_is r built_in imports e = go (length r.args == parameter_count built_in) e
  where
    go : (b : Bool) → cond b (Ok (standard_imports built_in r)) (refused_at E07 r) ≡ Ok imports
        → imports ≡ standard_imports built_in r
    go true e = sym (ok_is _ _ e)
    go false e = absurd cc

imports_text : (r : Reference) (text : LoadedText) (outline : ModuleOutline) (imports : List Reference)
    → text_imports r text outline ≡ Ok imports
    → imports ≡ imports_of text (parameters_of text outline.parameters) r.args outline.sections
unfolding text_imports
imports_text r text outline imports e = go (length r.args == length (parameters_of text outline.parameters)) e
  where
    wanted : List Reference
    wanted = imports_of text (parameters_of text outline.parameters) r.args outline.sections

    short : (at : Option Place) → measured text at wanted ≡ Ok imports → imports ≡ wanted
    short (Some at) e = absurd cc
    short None e = sym (ok_is _ _ e)

    go : (b : Bool) → cond b
        (measured text (first_long text (parameters_of text outline.parameters) r.args
        (sort_spans text outline.sections)) wanted) (refused_at E07 r) ≡ Ok imports
        → imports ≡ wanted
    go true e = short (first_long text (parameters_of text outline.parameters) r.args
        (sort_spans text outline.sections)) e
    go false e = absurd cc

begun_begins : (library : Library) (walk : Walk) (r : Reference) (b : Begun) → begun library walk r ≡ Ok b
    → Begins walk r b
unfolding begun
begun_begins library walk r b e = go (standard_of r.name.bytes) e
  where
    go : (x : Option Standard) → begun_or library walk r x ≡ Ok b → Begins walk r b
    go (Some built_in) e =
        let one = next_is (built_imports r built_in) _ b e in
        subst (Begins walk r) (ok_is _ _ one.rest_is) (record {
          same_done = refl;
          kept = λ n text there. there;
          place = tt;
          imports = λ instances all. built_among instances r (reference_to (instance_of r (Builtin built_in))) built_in
              (subst (All (IsAmong instances)) (built_is r built_in one.first one.first_is) all);
        })
    go None e =
        let one = next_is (located library walk r) (begun_text r) b e in
        let at = one.first in
        let here = located_is walk r at library one.first_is in
        let two = next_is (text_imports r at.1.text at.1.outline) _ b one.rest_is in
        let imports = imports_text r at.1.text at.1.outline two.first two.first_is in
        subst (Begins walk r) (ok_is _ _ two.rest_is) (record {
          same_done = here.same_done;
          kept = here.kept;
          place = record {
            text = at.1.text;
            outline = at.1.outline;
            text_is = here.text_is;
            outline_is =
                here.outline_is;
          };
          imports = λ instances all. rw (here.text_is, here.outline_is) (subst (All (IsAmong instances)) imports all);
        })

-- ---- the visit of a reference

-- instances stay in order, those that were there stay, and none comes whose name is on the path
record Goes (path : List Name) (walk further : Walk) : Type 0 where
  kept : Keeps walk.texts further.texts
  well : AreWell walk.texts [] walk.done → AreWell further.texts [] further.done
  grows : (s : Reference) → IsAmong walk.done s → IsAmong further.done s
  apart : (s : Reference) → list_any (is_named_by s) path ≡ true
      → list_any (is_instance s) further.done ≡ list_any (is_instance s) walk.done

goes_same : (path : List Name) (walk : Walk) → Goes path walk walk
goes_same path walk =
    record { kept = λ n text there. there; well = λ w. w; grows = λ s h. h; apart = λ s on. refl }

goes_both : (path : List Name) (a b c : Walk) → Goes path a b → Goes path b c → Goes path a c
goes_both path a b c one two = record {
  kept = λ n text there. two.kept n text (one.kept n text there);
  well = λ w. two.well (one.well w);
  grows = λ s h. two.grows s (one.grows s h);
  apart = λ s on. two.apart s on ∙ one.apart s on;
}

abbrev VisitsWell : Visiting → Type 0
VisitsWell visiting = (path : List Name) (walk : Walk) (r : Reference) (further : Walk)
    → visiting path walk r ≡ Ok further
    → Goes path walk further × IsAmong further.done r

all_go : (visiting : Visiting) → VisitsWell visiting
    → (path : List Name) (walk : Walk) (rs : List Reference) (further : Walk)
    → visit_all visiting path walk rs ≡ Ok further → Goes path walk further × All (IsAmong further.done) rs
unfolding visit_all
all_go visiting each path walk [] further e =
    (subst (Goes path walk) (ok_is walk further e) (goes_same path walk), All-nil (IsAmong further.done))
all_go visiting each path walk (r ∷ rs) further e =
    let one = next_is (visiting path walk r) _ further e in
    let first = each path walk r one.first one.first_is in
    let others = all_go visiting each path one.first rs further one.rest_is in (
      goes_both path walk one.first further first.0 others.0,
      All-cons (IsAmong further.done) r rs
          (others.0.grows r first.1) others.1,
    )

module _ (visiting : Visiting) (each : VisitsWell visiting) (path : List Name) (walk : Walk) (r : Reference)
    (off : list_any (is_named_by r) path ≡ false) (new : list_any (is_instance r) walk.done ≡ false) where
  -- no instance of the reference has a name that is on the path
  not_named : (s : Reference) → list_any (is_named_by s) path ≡ true
      → (is_instance s) (instance_of r (Builtin standard.Bool)) ≡ false
  not_named s on = go (bytes_eq s.name.bytes r.name.bytes) refl
    where
      no : (b : Bool) → b ≡ true → b ≡ false → ⊥
      no b t f = cc

      go : (b : Bool) → bytes_eq s.name.bytes r.name.bytes ≡ b → (b && same_names s.args r.args) ≡ false
      go false is = refl
      go true is =
          let same : s.name.bytes ≡ r.name.bytes = (bytes_eq-Decides s.name.bytes r.name.bytes).0 is in
          let there : list_any (is_named_by r) path ≡ true =
          subst (λ z. list_any (λ (name : Name). bytes_eq z name.bytes) path ≡ true) same on in
          absurd (no (list_any (is_named_by r) path) there off)

  module _ (b : Begun) (is : Begins walk r b) (mid : Walk) (inner : Goes (path ++ r.name ∷ []) b.walk mid)
      (imported : All (IsAmong mid.done) b.imports) where
    abbrev i : Instance
    i = instance_of r b.origin

    not_there : list_any (is_instance (reference_to i)) mid.done ≡ false
    not_there =
        let on : list_any (is_named_by r) (path ++ r.name ∷ []) ≡ true =
        any_last (is_named_by r) path r.name ((bytes_eq-Decides r.name.bytes r.name.bytes).1 refl) in
        any_same (is_instance (reference_to i)) (is_instance r) mid.done (λ x. refl) ∙ inner.apart r on
        ∙ ap (list_any (is_instance r)) is.same_done ∙ new

    finished_goes : Goes path walk (finished r b.origin mid) × IsAmong (finished r b.origin mid).done r
    finished_goes = (
      record {
        kept = λ n text there. inner.kept n text (is.kept n text there);
        well = λ w. well_push mid.texts [] mid.done i
            (inner.well (subst (AreWell b.walk.texts []) (sym is.same_done)
            (well_kept walk.texts b.walk.texts is.kept [] walk.done w)))
            (place_kept b.walk.texts mid.texts inner.kept b.origin is.place) not_there
            (subst (All (IsAmong mid.done)) (sym (imports_kept b.walk.texts mid.texts inner.kept i b.origin is.place))
            (is.imports mid.done imported));
        grows = λ s h. any_further (is_instance s) mid.done (i ∷ [])
            (inner.grows s (subst (λ z. IsAmong z s) (sym is.same_done) h));
        apart = λ s on. any_but_last (is_instance s) mid.done i (not_named s on)
            ∙ inner.apart s (any_further (is_named_by s) path (r.name ∷ []) on) ∙ ap
            (list_any (is_instance s)) is.same_done;
      },
      any_last (is_instance r) mid.done i
          (let same : bytes_eq r.name.bytes r.name.bytes ≡ true = (bytes_eq-Decides r.name.bytes r.name.bytes).1 refl in
          rw same (names_itself r.args)),
    )

  completed_goes : (b : Begun) (further : Walk) → Begins walk r b → completed visiting path r b ≡ Ok further
      → Goes path walk further × IsAmong further.done r
  completed_goes b further is e =
      let one = next_is (visit_all visiting (path ++ r.name ∷ []) b.walk b.imports) _ further e in
      let inner = all_go visiting each (path ++ r.name ∷ []) b.walk b.imports one.first one.first_is in
      subst (λ z. Goes path walk z × IsAmong z.done r) (ok_is _ _ one.rest_is)
      (finished_goes b is one.first inner.0 inner.1)

step_goes : (visiting : Visiting) → VisitsWell visiting → (library : Library) → VisitsWell (visit_step visiting library)
unfolding visit_step
step_goes visiting each library path walk r further e = on (list_any (is_named_by r) path) refl e
  where
    begin : list_any (is_named_by r) path ≡ false → list_any (is_instance r) walk.done ≡ false
        → next (begun library walk r) (completed visiting path r) ≡ Ok further
        → Goes path walk further × IsAmong further.done r
    begin off new e =
        let one = next_is (begun library walk r) (completed visiting path r) further e in
        completed_goes visiting each path walk r off new one.first further
        (begun_begins library walk r one.first one.first_is) one.rest_is

    full : list_any (is_named_by r) path ≡ false → list_any (is_instance r) walk.done ≡ false → (b : Bool)
        → cond b (refused_at E14 r) (next (begun library walk r) (completed visiting path r)) ≡ Ok further
        → Goes path walk further × IsAmong further.done r
    full off new true e = absurd cc
    full off new false e = begin off new e

    there : list_any (is_named_by r) path ≡ false → (b : Bool) → list_any (is_instance r) walk.done ≡ b
        → cond b (Ok walk) (cond (nat_le most_instances (length path + length walk.done)) (refused_at E14 r)
        (next (begun library walk r) (completed visiting path r))) ≡ Ok further
        → Goes path walk further × IsAmong further.done r
    there off true is e =
        subst (λ z. Goes path walk z × IsAmong z.done r) (ok_is walk further e) (goes_same path walk, is)
    there off false is e = full off is (nat_le most_instances (length path + length walk.done)) e

    on : (b : Bool) → list_any (is_named_by r) path ≡ b
        → cond b (refused_at E08 r) (cond (list_any (is_instance r) walk.done) (Ok walk)
        (cond (nat_le most_instances (length path + length walk.done)) (refused_at E14 r)
        (next (begun library walk r) (completed visiting path r)))) ≡ Ok further
        → Goes path walk further × IsAmong further.done r
    on true is e = absurd cc
    on false is e = there is (list_any (is_instance r) walk.done) refl e

visit_goes : (n : ℕ) (library : Library) → VisitsWell (visit n library)
unfolding visit
visit_goes zero library = step_goes (λ path walk r. refused_at E14 r) (λ path walk r further e. absurd cc) library
visit_goes (suc n) library = step_goes (visit n library) (visit_goes n library) library

-- ---- the whole program

pub program_ordered : (library : Library) (bytes : List ℕ) (tokens : List Token) (outline : Outline) (flat : Flat)
    → flat_program library bytes tokens outline ≡ Ok flat → IsOrdered flat
unfolding walked
program_ordered library bytes tokens outline flat e =
    let one = next_is (walked library stream outline.lpl) _ flat e in
    let goes = go (named_twice stream [] outline.modules) one.first one.first_is in
    subst IsOrdered (ok_is _ _ one.rest_is) (ordered_well one.first.texts [] one.first.done (goes.well tt))
  where
    stream : LoadedText
    stream = stream_of bytes tokens outline

    go : (at : Option Place) (walk : Walk)
        → named_once at (visit_all (visit most_instances library) [] (start stream)
        (references_of stream [] [] outline.lpl.imports)) ≡ Ok walk
        → Goes [] (start stream) walk
    go (Some at) walk e = absurd cc
    go None walk e = (all_go (visit most_instances library) (visit_goes most_instances library) [] (start stream)
        (references_of stream [] [] outline.lpl.imports) walk e).0

-- the program that a call gives
pub result_ordered : (library : Library) (bytes : List ℕ) (tokens : List Token) (outline : Outline)
    (result : Result Flat FlattenRefusal)
    → StopsAt result (flat_program library bytes tokens outline) → IfOk result IsOrdered
result_ordered library bytes tokens outline (Ok flat) is = program_ordered library bytes tokens outline flat is
result_ordered library bytes tokens outline (Err why) is = tt
