-- Where the sought variable stands in a pattern, something is known.
use Rattle.std.proofs.Common.{◌≡◌, refl, sym, ap, ◌∙◌, ◌⊎◌, inl, inr, ⊎_elim, subst, ℕ, ◌+◌, ◌<◌, ◌≤◌, ◌==◌, lt-ltb, nat_lt, Bool, true, false, cond, not, ◌&&◌, ◌||◌, Option, Some, None, List, [], ◌∷◌, map, length, get_or, is_some, eq-eqb, ne_eqb, arith}
use Rattle.std.specs.List.{list_all, list_any}
use Rattle.std.proofs.lemmas.List.Folds.{list_any-append}
use Rattle.boxcar.specs.Table.{Where}
use Rattle.elan_terms.specs.declared.tree.OpId.{OpId}
use Rattle.elan_terms.specs.declared.tree.SortId.{SortId}
use Rattle.elan_terms.specs.declared.tree.Term.{Term}
use Rattle.elan_terms.specs.declared.tree.Pattern.{Pattern}
use Rattle.elan_terms.specs.declared.tree.PatternNode as pattern
use Rattle.elan_terms.specs.Match.{occurrences, variables}
use Rattle.elan_terms.proofs.Lists.{AllOf, In, in_all, all_flat}
use Rattle.elan_terms.proofs.Sorting.{not_true}
use Rattle.elan_terms.proofs.TreeLemmas.{fold_pattern-app}
use Rattle.elan_laws.proofs.CanonicalLaws.{true_or_false}
use Rattle.elan_arms.specs.Arms.{app_pattern, is_variable_node, is_variable, apart_node}
use Rattle.elan_arms.proofs.Patterns.{var_pattern, int_pattern, ind_pattern, cases_pattern, occurrences-of_var, occurrences-of_int, occurrences-of_app}
use Rattle.elan_arms.proofs.Agreement.{variables-all}
use Rattle.elan_look.specs.declared.low.Low.{Low}
use Rattle.elan_look.specs.declared.low.Low.TheVariants.{Empty, Any, At}
use Rattle.elan_look.specs.declared.count.Counts.{Counts}
use Rattle.elan_look.specs.declared.sight.Sight.{Sight}
use Rattle.elan_look.specs.Lows.{is_any, meet, join}
use Rattle.elan_look.specs.Sights.{value_at, is_sought_number, is_sought, is_given, seeks_at, seeks}
use Rattle.elan_look.specs.Tells.{SaysIf}
use Rattle.elan_look.specs.Nodes.{loose_of, loose, seeks_inside, none_counted, one_more, counted, has_place}
use Rattle.elan_look.proofs.SightLemmas.{given-var, given-int, given-app}
use Rattle.elan_look.proofs.LowLemmas.{meet_by}
use Rattle.elan_look.proofs.TellLemmas.{others, others-cons}
use Rattle.elan_look.proofs.CountLemmas as counts

-- ---- tests

either_true : (a b : Bool) → a || b ≡ true → (a ≡ true) ⊎ (b ≡ true)
either_true true b e = inl refl
either_true false b e = inr e

first_true : (a b : Bool) → a ≡ true → a || b ≡ true
first_true a b e = ap (λ c. c || b) e

second_true : (a b : Bool) → b ≡ true → a || b ≡ true
second_true true b e = refl
second_true false b e = e

both_true : (a b : Bool) → a && b ≡ true → (a ≡ true) × (b ≡ true)
both_true true b e = (refl, e)
both_true false b e = not_true (sym e)

two_true : (a b : Bool) → a ≡ true → b ≡ true → a && b ≡ true
two_true a b e f = ap (λ c. c && b) e ∙ f

not_both : (b : Bool) → b ≡ true → b ≡ false → ⊥
not_both b e f = not_true (sym e ∙ f)

mapped_any : {X : Type 0} (test : X → Bool) (xs : List X) → list_any (λ b. b) (map test xs) ≡ list_any test xs
mapped_any test [] = refl
mapped_any test (x ∷ xs) = ap (λ b. test x || b) (mapped_any test xs)

-- ---- bounds

module _ {N : Type 0} where
  meet_says : (a b : Low N) → is_any a ≡ false → is_any (meet a b) ≡ false
  meet_says Empty b e = refl
  meet_says Any b e = not_true e
  meet_says (At a) Empty e = refl
  meet_says (At a) Any e = refl
  meet_says (At a) (At b) e = meet_by (λ (low : Low N). is_any low ≡ false) _ (At b) (At a) refl refl

  says_meet : (a b : Low N) → is_any b ≡ false → is_any (meet a b) ≡ false
  says_meet Empty b e = refl
  says_meet Any b e = e
  says_meet (At a) Empty e = refl
  says_meet (At a) Any e = not_true e
  says_meet (At a) (At b) e = meet_by (λ (low : Low N). is_any low ≡ false) _ (At b) (At a) refl refl

  -- where both hold, either says something
  pub says-meet : (p q : Bool) (a b : Low N) → SaysIf p a → SaysIf q b → SaysIf (p || q) (meet a b)
  says-meet p q a b h k e = ⊎_elim (λ f. meet_says a b (h f)) (λ f. says_meet a b (k f)) (either_true p q e)

  join_says : (a b : Low N) → is_any a ≡ false → is_any b ≡ false → is_any (join a b) ≡ false
  join_says Empty b e f = f
  join_says Any b e f = not_true e
  join_says (At a) Empty e f = refl
  join_says (At a) Any e f = not_true f
  join_says (At a) (At b) e f = meet_by (λ (low : Low N). is_any low ≡ false) _ (At a) (At b) refl refl

  pub says-join : (p : Bool) (a b both : Low N) → SaysIf p a → SaysIf p b → both ≡ join a b → SaysIf p both
  says-join p a b both h k is = subst (SaysIf p) (sym is) (λ e. join_says a b (h e) (k e))

  pub says-none : (p : Bool) (low : Low N) → p ≡ false → SaysIf p low
  says-none p low f e = absurd (not_both p e f)

-- ---- the sought variable in a pattern

module _ {N : Type 0} (s : Sight N) where
  pub seeks-var : (p : Pattern) (x : ℕ) (sort : SortId) → p.node ≡ pattern.Var x sort → seeks s p ≡ seeks_at s x
  unfolding seeks
  seeks-var p x sort e = ap (λ n. seeks s (record { node = n })) e

  pub seeks-int : (p : Pattern) (z : _) → p.node ≡ pattern.Int z → seeks s p ≡ false
  unfolding seeks
  seeks-int p z e = ap (λ n. seeks s (record { node = n })) e

  pub seeks-app : (p : Pattern) (op : OpId) (ps : List Pattern) → p.node ≡ pattern.App op ps → seeks s p ≡ list_any (seeks s) ps
  unfolding seeks
  seeks-app p op ps e = ap (λ n. seeks s (record { node = n })) e
      ∙ fold_pattern-app (λ x _. seeks_at s x) (λ _. false) (λ _ each. list_any (λ there. there) each) op ps
      ∙ mapped_any (seeks s) ps

  -- ---- where the values are all known

  known_not_sought : (x : ℕ) → is_some (value_at s x) ≡ true → seeks_at s x ≡ false
  known_not_sought x e = ap (λ b. is_sought s x && not b) e ∙ and_false (is_sought s x)
    where
      and_false : (b : Bool) → b && false ≡ false
      and_false true = refl
      and_false false = refl

  NotSought : Pattern → Type 0
  NotSought p = is_given s p ≡ true → seeks s p ≡ false

  none_sought : (ps : List Pattern) → AllOf NotSought ps → list_all (is_given s) ps ≡ true → list_any (seeks s) ps ≡ false
  unfolding NotSought
  none_sought [] h g = refl
  none_sought (p ∷ ps) h g = let k : (is_given s p ≡ true) × (list_all (is_given s) ps ≡ true) = both_true (is_given s p) (list_all (is_given s) ps) g in
      ap (λ b. b || list_any (seeks s) ps) (h.0 k.0) ∙ none_sought ps h.1 k.1

  given_not_sought : (p : Pattern) → NotSought p
  unfolding NotSought
  given_not_sought = ind_pattern NotSought
      (λ x sort g. seeks-var (var_pattern x sort) x sort refl ∙ known_not_sought x (given-var s (var_pattern x sort) x sort (value_at s x) refl refl ∙ g))
      (λ z g. seeks-int (int_pattern z) z refl)
      (λ op ps h g. seeks-app (app_pattern op ps) op ps refl ∙ none_sought ps h (sym (given-app s (app_pattern op ps) op ps refl) ∙ g))

  sought_open : (p : Pattern) → seeks s p ≡ true → is_given s p ≡ false
  unfolding NotSought
  sought_open p e = ⊎_elim (λ g. absurd (not_both (seeks s p) e (given_not_sought p g))) (λ f. f) (true_or_false (is_given s p))

  -- ---- variables that occur

  NoPlace : Pattern → Type 0
  NoPlace p = seeks s p ≡ false → AllOf (λ v. seeks_at s v.0 ≡ false) (occurrences p)

  any_false : (a b : Bool) → a || b ≡ false → (a ≡ false) × (b ≡ false)
  any_false true b e = not_true e
  any_false false b e = (refl, e)

  all_without : (ps : List Pattern) → AllOf NoPlace ps → list_any (seeks s) ps ≡ false → AllOf (λ p. AllOf (λ v. seeks_at s v.0 ≡ false) (occurrences p)) ps
  unfolding NoPlace
  all_without [] h e = tt
  all_without (p ∷ ps) h e = let k : (seeks s p ≡ false) × (list_any (seeks s) ps ≡ false) = any_false (seeks s p) (list_any (seeks s) ps) e in
      (h.0 k.0, all_without ps h.1 k.1)

  no_place : (p : Pattern) → NoPlace p
  unfolding NoPlace
  no_place = ind_pattern NoPlace
      (λ x sort e. subst (AllOf (λ v. seeks_at s v.0 ≡ false)) (sym (occurrences-of_var x sort)) (sym (seeks-var (var_pattern x sort) x sort refl) ∙ e, tt))
      (λ z e. subst (AllOf (λ v. seeks_at s v.0 ≡ false)) (sym (occurrences-of_int z)) tt)
      (λ op ps h e. subst (AllOf (λ v. seeks_at s v.0 ≡ false)) (sym (occurrences-of_app op ps))
      (all_flat (λ v. seeks_at s v.0 ≡ false) occurrences ps (all_without ps h (sym (seeks-app (app_pattern op ps) op ps refl) ∙ e))))

  -- a variable of the pattern that is sought stands in it
  pub variable_sought : (p : Pattern) (v : ℕ × SortId) → In v (variables p) → seeks_at s v.0 ≡ true → seeks s p ≡ true
  unfolding NoPlace
  variable_sought p v i e = ⊎_elim (λ f. f)
      (λ f. absurd (not_both (seeks_at s v.0) e (in_all (λ w. seeks_at s w.0 ≡ false) (variables p) v (variables-all (λ w. seeks_at s w.0 ≡ false) p (no_place p f)) i)))
      (true_or_false (seeks s p))

  -- ---- variables by themselves

  pub says-known : (x : ℕ) (row : Where Term) (low : Low N) → Some row ≡ value_at s x → SaysIf (seeks_at s x) low
  says-known x row low e = says-none (seeks_at s x) low (known_not_sought x (sym (ap is_some e)))

  pub says-open : (x : ℕ) (low : Low N) → is_sought s x ≡ false → SaysIf (seeks_at s x) low
  says-open x low e = says-none (seeks_at s x) low (ap (λ b. b && not (is_some (value_at s x))) e)

  pub says-var : (p : Pattern) (x : ℕ) (sort : SortId) (low : Low N) → p.node ≡ pattern.Var x sort → SaysIf (seeks_at s x) low → SaysIf (seeks s p) low
  says-var p x sort low e h = subst (λ b. SaysIf b low) (sym (seeks-var p x sort e)) h

  pub says-int : (p : Pattern) (z : _) (low : Low N) → p.node ≡ pattern.Int z → SaysIf (seeks s p) low
  says-int p z low e = says-none (seeks s p) low (seeks-int p z e)

  pub says-app : (p : Pattern) (op : OpId) (ps qs : List Pattern) (low : Low N) → p.node ≡ pattern.App op ps → qs ≡ ps → SaysIf (list_any (seeks s) qs) low → SaysIf (seeks s p) low
  says-app p op ps qs low e f h = subst (λ b. SaysIf b low) (ap (list_any (seeks s)) f ∙ sym (seeks-app p op ps e)) h

  pub says-empty : (ps : List Pattern) (low : Low N) → length ps < 1 → SaysIf (list_any (seeks s) ps) low
  says-empty [] low l = says-none false low refl
  says-empty (p ∷ ps) low l = absurd (omega arith)

  pub says-each : (ps : List Pattern) (p : Pattern) (low later both : Low N) → 1 ≤ length ps → p ≡ get_or ps 0 p → SaysIf (seeks s p) low → SaysIf (list_any (seeks s) (others ps)) later
      → both ≡ meet low later → SaysIf (list_any (seeks s) ps) both
  says-each [] p low later both l e h k is = absurd (omega arith)
  says-each (q ∷ ps) p low later both l e h k is = subst (SaysIf (list_any (seeks s) (q ∷ ps))) (sym is)
      (says-meet (seeks s q) (list_any (seeks s) ps) low later (subst (λ r. SaysIf (seeks s r) low) e h) (subst (λ rs. SaysIf (list_any (seeks s) rs) later) (others-cons q ps) k))

-- ---- patterns under an operator

module _ {N : Type 0} (s : Sight N) (op : OpId) where
  inside_none : (p : Pattern) (ps : List Pattern) → loose_of s op p ≡ ps → seeks_inside s ps ≡ false → seeks_inside s (loose_of s op p) ≡ false
  inside_none p ps e f = ap (seeks_inside s) e ∙ f

  pub inside-var : (p : Pattern) (x : ℕ) (sort : SortId) (low : Low N) → p.node ≡ pattern.Var x sort → SaysIf (seeks_inside s (loose_of s op p)) low
  inside-var p x sort low e = says-none (seeks_inside s (loose_of s op p)) low (⊎_elim
      (λ g. inside_none p [] (counts.loose-given s op p (counts.apart_var s op p x sort e) g) refl)
      (λ g. inside_none p (p ∷ []) (counts.loose-open s op p (counts.apart_var s op p x sort e) g) (ap (λ n. (not (is_variable_node n) && seeks s p) || false) e))
      (true_or_false (is_given s p)))

  pub inside-int : (p : Pattern) (z : _) (low : Low N) → p.node ≡ pattern.Int z → SaysIf (seeks_inside s (loose_of s op p)) low
  inside-int p z low e = says-none (seeks_inside s (loose_of s op p)) low
      (inside_none p [] (counts.loose-given s op p (counts.apart_int s op p z e) (sym (given-int s p z e))) refl)

  pub inside-given : (p : Pattern) (f : OpId) (ps : List Pattern) (low : Low N) → p.node ≡ pattern.App f ps → (op.0 ≡ f.0 → ⊥) → is_given s p ≡ true → SaysIf (seeks_inside s (loose_of s op p)) low
  inside-given p f ps low e k g = says-none (seeks_inside s (loose_of s op p)) low
      (inside_none p [] (counts.loose-given s op p (counts.apart_other s op p f ps e (ne_eqb op.0 f.0 k)) g) refl)

  pub inside-says : (p : Pattern) (f : OpId) (ps : List Pattern) (low : Low N) → p.node ≡ pattern.App f ps → (op.0 ≡ f.0 → ⊥) → is_given s p ≡ false → SaysIf (seeks s p) low → SaysIf (seeks_inside s (loose_of s op p)) low
  inside-says p f ps low e k g h = subst (λ b. SaysIf b low)
      (sym (ap (seeks_inside s) (counts.loose-open s op p (counts.apart_other s op p f ps e (ne_eqb op.0 f.0 k)) g) ∙ ap (λ n. (not (is_variable_node n) && seeks s p) || false) e))
      (λ i. h (⊎_elim (λ here. here) (λ none. not_true (sym none)) (either_true (seeks s p) false i)))

  pub inside-nested : (p : Pattern) (f : OpId) (ps qs : List Pattern) (low : Low N) → p.node ≡ pattern.App f ps → op.0 ≡ f.0 → qs ≡ ps → SaysIf (seeks_inside s (loose s op qs)) low → SaysIf (seeks_inside s (loose_of s op p)) low
  inside-nested p f ps qs low e k is h =
      subst (λ rs. SaysIf (seeks_inside s rs) low) (ap (loose s op) is ∙ sym (counts.loose-nested s op p f ps e (eq-eqb op.0 f.0 k))) h

  pub inside-empty : (ps : List Pattern) (low : Low N) → length ps < 1 → SaysIf (seeks_inside s (loose s op ps)) low
  inside-empty [] low l = says-none false low refl
  inside-empty (p ∷ ps) low l = absurd (omega arith)

  pub inside-both : (ps : List Pattern) (p : Pattern) (low later both : Low N) → 1 ≤ length ps → p ≡ get_or ps 0 p → SaysIf (seeks_inside s (loose_of s op p)) low → SaysIf (seeks_inside s (loose s op (others ps))) later
      → both ≡ meet low later → SaysIf (seeks_inside s (loose s op ps)) both
  inside-both [] p low later both l e h k is = absurd (omega arith)
  inside-both (q ∷ ps) p low later both l e h k is =
      subst (λ b. SaysIf b both) (sym (list_any-append (λ r. not (is_variable r) && seeks s r) (loose_of s op q) (loose s op ps)))
      (subst (SaysIf (seeks_inside s (loose_of s op q) || seeks_inside s (loose s op ps))) (sym is)
      (says-meet (seeks_inside s (loose_of s op q)) (seeks_inside s (loose s op ps)) low later
      (subst (λ r. SaysIf (seeks_inside s (loose_of s op r)) low) e h) (subst (λ rs. SaysIf (seeks_inside s (loose s op rs)) later) (others-cons q ps) k)))

  -- ---- a pattern in which it stands is loose, or gives way to one that is

  IsLoose : Pattern → Type 0
  IsLoose p = seeks s p ≡ true → list_any (seeks s) (loose_of s op p) ≡ true

  each_loose : (ps : List Pattern) → AllOf IsLoose ps → list_any (seeks s) ps ≡ true → list_any (seeks s) (loose s op ps) ≡ true
  unfolding IsLoose
  each_loose [] h e = e
  each_loose (p ∷ ps) h e = list_any-append (seeks s) (loose_of s op p) (loose s op ps) ∙ ⊎_elim
      (λ here. first_true (list_any (seeks s) (loose_of s op p)) (list_any (seeks s) (loose s op ps)) (h.0 here))
      (λ there. second_true (list_any (seeks s) (loose_of s op p)) (list_any (seeks s) (loose s op ps)) (each_loose ps h.1 there))
      (either_true (seeks s p) (list_any (seeks s) ps) e)

  alone_loose : (p : Pattern) → apart_node op p.node ≡ p ∷ [] → seeks s p ≡ true → list_any (seeks s) (loose_of s op p) ≡ true
  alone_loose p one e = ap (list_any (seeks s)) (counts.loose-open s op p one (sought_open s p e)) ∙ first_true (seeks s p) false e

  is_loose : (p : Pattern) → IsLoose p
  unfolding IsLoose
  is_loose = ind_pattern IsLoose
      (λ x sort e. alone_loose (var_pattern x sort) refl e)
      (λ z e. alone_loose (int_pattern z) refl e)
      (λ f ps h e. ⊎_elim
      (λ same. ap (list_any (seeks s)) (counts.loose-nested s op (app_pattern f ps) f ps refl same) ∙ each_loose ps h (sym (seeks-app s (app_pattern f ps) f ps refl) ∙ e))
      (λ other. alone_loose (app_pattern f ps) (counts.apart_other s op (app_pattern f ps) f ps refl other) e)
      (true_or_false (op.0 == f.0)))

  all_loose : (ps : List Pattern) → AllOf IsLoose ps
  all_loose [] = tt
  all_loose (p ∷ ps) = (is_loose p, all_loose ps)

-- ---- what is counted

module _ {N : Type 0} (s : Sight N) where
  more_counted : (p : Pattern) (c : Counts) → c.sought ≤ (one_more s p.node c).sought
  more_counted p c = cases_pattern (λ q. c.sought ≤ (one_more s q.node c).sought)
      (λ x sort. by_kind (is_sought s x)) (λ z. omega arith) (λ f ps. omega arith) p
    where
      by_kind : (b : Bool) → c.sought ≤ (cond b (record c { sought = c.sought + 1 }) (record c { free = c.free + 1 })).sought
      by_kind true = omega arith
      by_kind false = omega arith

  all_counted : (ps : List Pattern) (c : Counts) → c.sought ≤ (counted s ps c).sought
  all_counted [] c = omega arith
  all_counted (p ∷ ps) c = let here : c.sought ≤ (one_more s p.node c).sought = more_counted p c in
      let later : (one_more s p.node c).sought ≤ (counted s ps (one_more s p.node c)).sought = all_counted ps (one_more s p.node c) in omega arith

  -- it is sought, and counted
  record Counted (ps : List Pattern) (c : Counts) : Type 0 where
    is : is_some s.sought ≡ true
    more : 0 < (counted s ps c).sought

  there_is : (o : Option (ℕ × SortId)) (x : ℕ) → is_sought_number o x ≡ true → is_some o ≡ true
  there_is None x e = not_true (sym e)
  there_is (Some v) x e = refl

  var_counted : (x : ℕ) (sort : SortId) (ps : List Pattern) (c : Counts) → seeks_at s x ≡ true → Counted (var_pattern x sort ∷ ps) c
  var_counted x sort ps c e =
      let own : is_sought s x ≡ true = (both_true (is_sought s x) (not (is_some (value_at s x))) e).0 in
      let one : (one_more s (pattern.Var x sort) c).sought ≡ c.sought + 1 = ap (λ b. (cond b (record c { sought = c.sought + 1 }) (record c { free = c.free + 1 })).sought) own in
      let later : (one_more s (pattern.Var x sort) c).sought ≤ (counted s ps (one_more s (pattern.Var x sort) c)).sought = all_counted ps (one_more s (pattern.Var x sort) c) in record {
        is = there_is s.sought x own;
        more = omega arith;
      }

  by_pattern : (p : Pattern) (ps : List Pattern) (c : Counts) → seeks s p ≡ true → Counted (p ∷ ps) c ⊎ (not (is_variable p) && seeks s p ≡ true)
  by_pattern p ps c = cases_pattern (λ q. seeks s q ≡ true → Counted (q ∷ ps) c ⊎ (not (is_variable q) && seeks s q ≡ true))
      (λ x sort e. inl (var_counted x sort ps c (sym (seeks-var s (var_pattern x sort) x sort refl) ∙ e)))
      (λ z e. inr e) (λ f qs e. inr e) p

  -- it is counted, or stands inside one of the patterns
  counted_or_inside : (ps : List Pattern) (c : Counts) → list_any (seeks s) ps ≡ true → Counted ps c ⊎ (seeks_inside s ps ≡ true)
  counted_or_inside [] c e = not_true (sym e)
  counted_or_inside (p ∷ ps) c e = ⊎_elim
      (λ here. ⊎_elim (λ own. inl own) (λ inside. inr (first_true (not (is_variable p) && seeks s p) (seeks_inside s ps) inside)) (by_pattern p ps c here))
      (λ there. ⊎_elim (λ own. inl (record { is = own.is; more = own.more })) (λ inside. inr (second_true (not (is_variable p) && seeks s p) (seeks_inside s ps) inside)) (counted_or_inside ps (one_more s p.node c) there))
      (either_true (seeks s p) (list_any (seeks s) ps) e)

  pub says-left : (op : OpId) (ps : List Pattern) (c : Counts) (own inside both : Low N) → c ≡ counted s (loose s op ps) none_counted → SaysIf (has_place s c) own → SaysIf (seeks_inside s (loose s op ps)) inside
      → both ≡ meet own inside → SaysIf (list_any (seeks s) ps) both
  says-left op ps c own inside both e h k is = subst (SaysIf (list_any (seeks s) ps)) (sym is)
      (λ there. says-meet (has_place s c) (seeks_inside s (loose s op ps)) own inside h k (⊎_elim
      (λ (i : Counted (loose s op ps) none_counted). first_true (has_place s c) (seeks_inside s (loose s op ps))
      (ap (λ (n : Counts). has_place s n) e ∙ two_true (is_some s.sought) (nat_lt 0 (counted s (loose s op ps) none_counted).sought) i.is (lt-ltb 0 (counted s (loose s op ps) none_counted).sought i.more)))
      (λ i. second_true (has_place s c) (seeks_inside s (loose s op ps)) i)
      (counted_or_inside (loose s op ps) none_counted (each_loose s op ps (all_loose s op ps) there))))
