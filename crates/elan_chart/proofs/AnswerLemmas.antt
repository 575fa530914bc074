-- What is collected from the run of a whole text says whether there are none, one or several readings.
use Rattle.std.proofs.Common.{◌≡◌, refl, sym, ap, subst, ◌∙◌, ℕ, zero, suc, ◌-◌, ◌+◌, ◌<◌, ◌≤◌, Bool, true, false, ◌&&◌, ◌==◌, nat_lt, if◌then◌else◌, Option, None, Some, List, [], ◌∷◌, inl, inr, slice_get, length, map, arith}
use Rattle.elan_terms.specs.declared.tree.OpId.{OpId}
use Rattle.elan_terms.specs.declared.tree.SortId.{SortId}
use Rattle.elan_terms.specs.declared.tree.Pattern.{Pattern}
use Rattle.elan_program.specs.declared.signature.Operator.{Operator}
use Rattle.elan_program.specs.declared.signature.Signature.{Signature}
use Rattle.elan_program.specs.Soundness.{is_sound}
use Rattle.elan_reading.specs.declared.lexeme.Lexeme.{Lexeme}
use Rattle.elan_reading.specs.declared.lexeme.Variable.{Variable}
use Rattle.elan_reading.specs.declared.sought.Sought.{Sought}
use Rattle.elan_reading.specs.declared.sought.Sought.TheVariants as sought
use Rattle.elan_reading.specs.declared.sought.ReadingRefusal.{ReadingRefusal}
use Rattle.elan_reading.specs.declared.sought.ReadingRefusal.TheVariants as refusal
use Rattle.elan_entries.specs.declared.found.Key.{Key}
use Rattle.elan_entries.specs.declared.found.Key.TheVariants.{Whole, Rest}
use Rattle.elan_entries.specs.declared.found.Found.{Found}
use Rattle.elan_entries.specs.declared.found.Found.TheVariants.{One, Several}
use Rattle.elan_entries.specs.declared.found.Entry.{Entry}
use Rattle.elan_text.specs.declared.name.Name.{Name}
use Rattle.elan_terms.specs.Match.{is_sort}
use Rattle.elan_terms.proofs.Lists.{In, in_left, in_right}
use Rattle.elan_reading.specs.Edge.{is_injection}
use Rattle.elan_entries.specs.Pieces.{is_hole_at, is_arg_at, is_injection_from, source, last_sort}
use Rattle.elan_entries.specs.Sets.{IsGood, Has, AreGood, HasAt}
use Rattle.elan_chart.specs.Offers.{row_of, at_sort}
use Rattle.elan_chart.specs.Chart.{scope_of, may_occur, end_of, ends, blank, added, added_at, by_sort, last_in, run_or, rows}
use Rattle.elan_chart.specs.Answer.{is_sought, with_more, all_sought, longest, IsThe, Refuses}
use Rattle.elan_reading.specs.Readings as run
use Rattle.elan_reading.specs.Answers.{is_injected, IsReading, IsOnly, IsRefused}
use Rattle.elan_chart.specs.Spans.{Reads, Set}
use Rattle.elan_chart.specs.Result.{IsOutcome}
use Rattle.elan_entries.proofs.SameLemmas.{both_true, nat_same}
use Rattle.elan_entries.proofs.FoundLemmas.{append-left, append-right, merged-keeps, merged-has, merged-good, good-map}
use Rattle.elan_chart.proofs.StepsGood.{first_one, not_true}
use Rattle.elan_chart.proofs.StepsFull.{under}
use Rattle.elan_chart.proofs.ChartGood.{AreRows, rows-good, ends-good, get-good}
use Rattle.elan_chart.proofs.ChartFull.{IsFull, AreFullRows, rows-full, reads-less}
use Rattle.elan_chart.proofs.SpanLemmas.{tree_tie, whole-span, span-whole}
use Rattle.elan_chart.proofs.Bounded.{bounded, no_cycle, spelled, arg_there}

no_true : false ≡ true → ⊥
no_true f = cc

-- ---- what is collected

abbrev OptGood : (List Pattern → Type 0) → Option Found → Type 0
OptGood S None = Unit {0}
OptGood S (Some f) = IsGood S f

abbrev OptHas : Option Found → List Pattern → Type 0
OptHas None ts = ⊥
OptHas (Some f) ts = Has f ts

with-good : (S : List Pattern → Type 0) (known : Option Found) (more : Found) → OptGood S known → IsGood S more → IsGood S (with_more known more)
with-good S None more p q = q
with-good S (Some f) more p q = merged-good S f more p q

with-keeps : (known : Option Found) (more : Found) (ts : List Pattern) → OptHas known ts → Has (with_more known more) ts
with-keeps None more ts p = absurd p
with-keeps (Some f) more ts p = merged-keeps f more ts p

with-has : (known : Option Found) (more : Found) (ts : List Pattern) → Has more ts → Has (with_more known more) ts
with-has None more ts p = p
with-has (Some f) more ts p = merged-has f more ts p

module _ (what : Sought) where
  all-good : (S : Key → List Pattern → Type 0) (T : List Pattern → Type 0) → ((k : Key) (ts : List Pattern) → is_sought what k ≡ true → S k ts → T ts)
      → (known : Option Found) (es : List Entry) → OptGood T known → AreGood S es → OptGood T (all_sought what known es)
  all-good S T to known [] p q = p
  all-good S T to known (e ∷ es) p q = all-good S T to (if is_sought what e.key then Some (with_more known e.found) else known) es (by (is_sought what e.key) refl) q.1
    where
      by : (b : Bool) → is_sought what e.key ≡ b → OptGood T (if b then Some (with_more known e.found) else known)
      by true r = with-good T known e.found p (good-map (S e.key) T (λ ts s. to e.key ts r s) e.found q.0)
      by false r = p

  all-keeps : (ts : List Pattern) (known : Option Found) (es : List Entry) → OptHas known ts → OptHas (all_sought what known es) ts
  all-keeps ts known [] p = p
  all-keeps ts known (e ∷ es) p = all-keeps ts (if is_sought what e.key then Some (with_more known e.found) else known) es (by (is_sought what e.key))
    where
      by : (b : Bool) → OptHas (if b then Some (with_more known e.found) else known) ts
      by true = with-keeps known e.found ts p
      by false = p

  all-have : (k : Key) (ts : List Pattern) → is_sought what k ≡ true → (known : Option Found) (es : List Entry) → HasAt es k ts → OptHas (all_sought what known es) ts
  all-have k ts is known [] h = absurd h
  all-have k ts is known (e ∷ es) (inl h) =
      all-keeps ts (if is_sought what e.key then Some (with_more known e.found) else known) es
      (subst (λ b. OptHas (if b then Some (with_more known e.found) else known) ts) (sym (ap (is_sought what) h.0 ∙ is)) (with-has known e.found ts h.1))
  all-have k ts is known (e ∷ es) (inr h) = all-have k ts is (if is_sought what e.key then Some (with_more known e.found) else known) es h

-- ---- the operators by their numbers

ends-have : (tokens : List Lexeme) (op : OpId) (o : Operator) → may_occur tokens o ≡ true → (m n : ℕ) (os : List Operator) → slice_get os m ≡ Some o → op.0 ≡ m + n
    → HasAt (ends tokens n os) (Rest op (length o.pieces) (length o.args)) []
ends-have tokens op o occ m n [] e f = absurd (no e)
  where
    no : None ≡ Some o → ⊥
    no f = cc
ends-have tokens op o occ zero n (d ∷ os) e f =
    let same : o ≡ d = cc in let number : op ≡ record { 0 = n } = ap (λ i. record { 0 = i }) (let q : op.0 ≡ n = omega arith in q) in
    append-left (Rest op (length o.pieces) (length o.args)) [] (end_of tokens (record { 0 = n }) d) (ends tokens (suc n) os)
    (subst (λ x. HasAt (end_of tokens (record { 0 = n }) x) (Rest op (length o.pieces) (length o.args)) []) same
    (subst (λ x. HasAt (end_of tokens x o) (Rest op (length o.pieces) (length o.args)) []) number
    (under (Rest op (length o.pieces) (length o.args)) [] (may_occur tokens o) _ _ occ (inl (refl, refl)))))
ends-have tokens op o occ (suc m) n (d ∷ os) e f =
    append-right (Rest op (length o.pieces) (length o.args)) [] (end_of tokens (record { 0 = n }) d) (ends tokens (suc n) os)
    (ends-have tokens op o occ m (suc n) os e (omega arith))

-- ---- the injections by their sources

added-keeps : (table : List (List OpId)) (at : ℕ) (x op : OpId) (s : ℕ) → In op (row_of (slice_get table s)) → In op (row_of (slice_get (added table at x) s))
added-keeps [] at x op s i = absurd i
added-keeps (r ∷ rs) zero x op zero i = in_left r (x ∷ []) op i
added-keeps (r ∷ rs) zero x op (suc s) i = i
added-keeps (r ∷ rs) (suc at) x op zero i = i
added-keeps (r ∷ rs) (suc at) x op (suc s) i = added-keeps rs at x op s i

added-has : (table : List (List OpId)) (at : ℕ) (x : OpId) → at < length table → In x (row_of (slice_get (added table at x) at))
added-has [] at x less = absurd (omega arith)
added-has (r ∷ rs) zero x less = in_right r (x ∷ []) x (inl refl)
added-has (r ∷ rs) (suc at) x less = added-has rs at x (omega arith)

length-added : (table : List (List OpId)) (at : ℕ) (x : OpId) → length (added table at x) ≡ length table
length-added [] at x = refl
length-added (r ∷ rs) zero x = refl
length-added (r ∷ rs) (suc at) x = ap suc (length-added rs at x)

at-keeps : (table : List (List OpId)) (sort : Option SortId) (x op : OpId) (s : ℕ) → In op (row_of (slice_get table s))
    → In op (row_of (slice_get (added_at table sort x) s))
at-keeps table None x op s i = i
at-keeps table (Some r) x op s i = added-keeps table r.0 x op s i

length-at : (table : List (List OpId)) (sort : Option SortId) (x : OpId) → length (added_at table sort x) ≡ length table
length-at table None x = refl
length-at table (Some r) x = length-added table r.0 x

by_sort-keeps : (sort : Operator → Option SortId) (op : OpId) (s : ℕ) (os : List Operator) (table : List (List OpId)) (n : ℕ)
    → In op (row_of (slice_get table s)) → In op (row_of (slice_get (by_sort sort table n os) s))
by_sort-keeps sort op s [] table n i = i
by_sort-keeps sort op s (o ∷ os) table n i =
    by_sort-keeps sort op s os (added_at table (sort o) (record { 0 = n })) (suc n) (at-keeps table (sort o) (record { 0 = n }) op s i)

by_sort-has : (sort : Operator → Option SortId) (op : OpId) (o : Operator) (s : SortId) → sort o ≡ Some s → (os : List Operator) (m n : ℕ)
    → slice_get os m ≡ Some o → op.0 ≡ m + n → (table : List (List OpId)) → s.0 < length table → In op (at_sort (by_sort sort table n os) s)
by_sort-has sort op o s is [] m n e f table less = absurd (no e)
  where
    no : None ≡ Some o → ⊥
    no f = cc
by_sort-has sort op o s is (d ∷ os) zero n e f table less =
    let same : o ≡ d = cc in let number : op ≡ record { 0 = n } = ap (λ i. record { 0 = i }) (let q : op.0 ≡ n = omega arith in q) in
    by_sort-keeps sort op s.0 os (added_at table (sort d) (record { 0 = n })) (suc n)
    (subst (λ x. In op (row_of (slice_get (added_at table (sort x) (record { 0 = n })) s.0))) same
    (subst (λ x. In op (row_of (slice_get (added_at table (sort o) x) s.0))) number
    (subst (λ x. In op (row_of (slice_get (added_at table x op) s.0))) (sym is) (added-has table s.0 op less))))
by_sort-has sort op o s is (d ∷ os) (suc m) n e f table less =
    by_sort-has sort op o s is os m (suc n) e (omega arith) (added_at table (sort d) (record { 0 = n }))
    (let l : length (added_at table (sort d) (record { 0 = n })) ≡ length table = length-at table (sort d) (record { 0 = n }) in omega arith)

length-blank : (ss : List Name) → length (blank ss) ≡ length ss
length-blank [] = refl
length-blank (s ∷ ss) = ap suc (length-blank ss)

source-is : (o : Operator) (s : SortId) → is_injection_from o s ≡ true → source o ≡ Some s
source-is o s e =
    let two : _ = both_true (is_injection o) _ e in let arg : _ = both_true (length o.args == 1) (is_arg_at o 0 s) two.1 in
    ap (λ b. if b then slice_get o.args 0 else None) two.0 ∙ first_is (slice_get o.args 0) arg.1
  where
    first_is : (x : Option SortId) → is_sort x s ≡ true → x ≡ Some s
    first_is None q = absurd (no_true q)
    first_is (Some r) q = ap (λ n. Some (record { 0 = n })) (nat_same r.0 s.0 q)

arg_if : (b : Bool) (n : ℕ) (o : Operator) (s : SortId) → (if b then slice_get o.args n else None) ≡ Some s → slice_get o.args n ≡ Some s
arg_if true n o s e = e
arg_if false n o s e = absurd (no e)
  where
    no : None ≡ Some s → ⊥
    no f = cc

-- ---- the chart of a whole text

module _ (g : Signature) (sound : is_sound g ≡ true) (vs : List Variable) (tokens : List Lexeme) where
  plus_zero : (n : ℕ) → n ≡ n + 0
  plus_zero n = omega arith

  ended : (op : OpId) (o : Operator) → slice_get g.operators op.0 ≡ Some o → may_occur tokens o ≡ true
      → HasAt (ends tokens 0 g.operators) (Rest op (length o.pieces) (length o.args)) []
  ended op o e occ = ends-have tokens op o occ op.0 0 g.operators e (plus_zero op.0)

  in_table : (sort : Operator → Option SortId) (op : OpId) (o : Operator) (s : SortId) → slice_get g.operators op.0 ≡ Some o → sort o ≡ Some s
      → (n : ℕ) → slice_get o.args n ≡ Some s → In op (at_sort (by_sort sort (blank g.sorts) 0 g.operators) s)
  in_table sort op o s e is n arg =
      by_sort-has sort op o s is g.operators op.0 0 e (plus_zero op.0) (blank g.sorts)
      (let l : length (blank g.sorts) ≡ length g.sorts = length-blank g.sorts in let r : s.0 < length g.sorts = arg_there g sound op o e n s arg in omega arith)

  at_source : (op : OpId) (o : Operator) (s : SortId) → slice_get g.operators op.0 ≡ Some o → is_injection_from o s ≡ true
      → In op (at_sort (by_sort source (blank g.sorts) 0 g.operators) s)
  at_source op o s e from = in_table source op o s e (source-is o s from) 0 (arg_if (is_injection o) 0 o s (source-is o s from))

  at_last : (op : OpId) (o : Operator) (s : SortId) → slice_get g.operators op.0 ≡ Some o → may_occur tokens o ≡ true → last_sort o ≡ Some s
      → In op (at_sort (by_sort (last_in tokens) (blank g.sorts) 0 g.operators) s)
  at_last op o s e occ is =
      in_table (last_in tokens) op o s e (ap (λ b. if b then last_sort o else None) occ ∙ is) (length o.args - 1)
      (arg_if (nat_lt 1 (length o.pieces) && is_hole_at o (length o.pieces - 1)) (length o.args - 1) o s is)

  good : AreRows (scope_of g vs tokens) tokens 0 (rows (scope_of g vs tokens) None tokens)
  good =
      rows-good (scope_of g vs tokens) tokens
      (λ k. ends-good g vs tokens k 0 g.operators (λ m o e. subst (λ x. slice_get g.operators x ≡ Some o) (plus_zero m) e)) 0 None tokens
      (λ k t e. subst (λ x. slice_get tokens x ≡ Some t) (plus_zero k) e)

  abbrev IsFullRows : List (List (List Entry)) → Type 0
  IsFullRows = AreFullRows (scope_of g vs tokens) tokens ended
      at_source at_last (spelled g sound) (bounded g (no_cycle g sound)) None 0

  abbrev IsFullRun : ℕ → List Entry → Type 0
  IsFullRun j = IsFull (scope_of g vs tokens) tokens ended
      at_source at_last (spelled g sound) (bounded g (no_cycle g sound)) None 0 j

  full : IsFullRows (rows (scope_of g vs tokens) None tokens)
  full = rows-full (scope_of g vs tokens) tokens ended
      at_source at_last (spelled g sound) (bounded g (no_cycle g sound)) 0 None tokens
      (λ k t e. subst (λ x. slice_get tokens x ≡ Some t) (plus_zero k) e) (omega arith)

  less : (i j : ℕ) (s : SortId) (tie : Option ℕ) (injected : Bool) (t : Pattern) → Reads g vs tokens i j s tie injected t → i < j
  less = reads-less (scope_of g vs tokens) tokens ended
      at_source at_last (spelled g sound) (bounded g (no_cycle g sound))

  longest-good : (r : List (List (List Entry))) → AreRows (scope_of g vs tokens) tokens 0 r → IsFullRows r → AreGood (Set g vs tokens 0 (length tokens)) (longest r)
  longest-good [] p f = tt
  longest-good ([] ∷ rs) p f = tt
  longest-good ((d ∷ ds) ∷ rs) p f =
      let l : 0 + length (d ∷ ds) ≡ length tokens = f.1 in
      get-good (scope_of g vs tokens) tokens 0 1 (length tokens) (length (d ∷ ds) - 1) (d ∷ ds) p.0 (omega arith)

  longest-full : (r : List (List (List Entry))) → IsFullRows r → (s : SortId) (tie : Option ℕ) (injected : Bool) (t : Pattern)
      → Reads g vs tokens 0 (length tokens) s tie injected t → HasAt (longest r) (Whole s tie injected) (t ∷ [])
  longest-full [] f s tie injected t q = absurd (let some : 0 < length tokens = less 0 (length tokens) s tie injected t q in let n : length tokens ≤ 0 = f in omega arith)
  longest-full (r ∷ rs) f s tie injected t q =
      let some : 0 < length tokens = less 0 (length tokens) s tie injected t q in let l : 0 + length r ≡ length tokens = f.1 in
      let one : IsFullRun (1 + (length r - 1)) (run_or (slice_get r (length r - 1))) = f.0 (length r - 1) (omega arith) in
      one.trees s tie injected t (subst (λ n. Reads g vs tokens 0 n s tie injected t) (omega arith) q)

  -- ---- the outcome

  module _ (what : Sought) where
    abbrev IsListed : List Pattern → Type 0
    IsListed ts = (t : Pattern) × (ts ≡ t ∷ []) × IsReading g vs tokens what t

  listed : (what : Sought) (k : Key) (ts : List Pattern) → is_sought what k ≡ true → Set g vs tokens 0 (length tokens) k ts → IsListed what ts
  listed what (Rest op k h) ts is p = absurd (no_true is)
  listed (sought.Sort r) (Whole s tie injected) ts is p =
      let same : s ≡ r = ap (λ n. record { 0 = n }) (sym (nat_same r.0 s.0 is)) in
      let whole : _ = span-whole g vs tokens s tie injected p.0 p.2 in
      (p.0, p.1, (whole.0, subst (λ x. run.Reads g vs x tokens p.0 whole.0) same whole.1))
  listed sought.Any (Whole s tie injected) ts is p =
      let whole : _ = span-whole g vs tokens s tie injected p.0 p.2 in
      (p.0, p.1, (s, whole.0, whole.1, sym whole.2 ∙ not_true injected is))

  self : (n : ℕ) → (n == n) ≡ true
  self n = grind arith

  found : (what : Sought) (t : Pattern) → IsReading g vs tokens what t → (es : List Entry)
      → ((s : SortId) (tie : Option ℕ) (injected : Bool) → Reads g vs tokens 0 (length tokens) s tie injected t → HasAt es (Whole s tie injected) (t ∷ []))
      → OptHas (all_sought what None es) (t ∷ [])
  found (sought.Sort s) t q es f =
      all-have (sought.Sort s) (Whole s (tree_tie g t q.0) (is_injected g t)) (t ∷ []) (self s.0) None es
      (f s (tree_tie g t q.0) (is_injected g t) (whole-span g vs tokens s t q.0 q.1))
  found sought.Any t q es f =
      all-have sought.Any (Whole q.0 (tree_tie g t q.1) false) (t ∷ []) refl None es
      (f q.0 (tree_tie g t q.1) false
      (subst (λ b. Reads g vs tokens 0 (length tokens) q.0 (tree_tie g t q.1) b t) q.3 (whole-span g vs tokens q.0 t q.1 q.2)))

  outcome-is : (what : Sought) (x : Option Found) → OptGood (IsListed what) x → ((u : Pattern) → IsReading g vs tokens what u → OptHas x (u ∷ []))
      → IsOutcome g vs tokens what x
  outcome-is what None p f = f
  outcome-is what (Some (One ts)) p f = (p.0, p.1, (p.2, λ u q. first_one u p.0 [] [] (f u q ∙ p.1)))
  outcome-is what (Some Several) p f =
      (p.2.0, p.3.0, p.2.2, p.3.2, λ e. p.4 (p.2.1 ∙ ap (λ x. x ∷ []) e ∙ sym p.3.1))

  -- what is collected from the longest run is the outcome
  pub outcome : (what : Sought) → IsOutcome g vs tokens what (all_sought what None (longest (rows (scope_of g vs tokens) None tokens)))
  outcome what =
      outcome-is what (all_sought what None (longest (rows (scope_of g vs tokens) None tokens)))
      (all-good what (Set g vs tokens 0 (length tokens)) (IsListed what) (λ k ts is p. listed what k ts is p) None
      (longest (rows (scope_of g vs tokens) None tokens)) tt (longest-good (rows (scope_of g vs tokens) None tokens) good full))
      (λ u q. found what u q (longest (rows (scope_of g vs tokens) None tokens))
      (λ s tie injected r. longest-full (rows (scope_of g vs tokens) None tokens) full s tie injected u r))

-- ---- what `read` answers

pub short_map : {X Y : Type 0} (f : X → Y) (xs : List X) → length xs ≤ 256 → length (map f xs) ≤ 256
short_map f xs n = let same : length (map f xs) ≡ length xs = mapped f xs in omega arith
  where
    mapped : {X Y : Type 0} (f : X → Y) (xs : List X) → length (map f xs) ≡ length xs
    mapped f [] = refl
    mapped f (x ∷ xs) = ap suc (mapped f xs)

module _ (g : Signature) (sound : is_sound g ≡ true) (vs : List Variable) (tokens : List Lexeme) (what : Sought) where
  only_of : (x : Option Found) (p : Pattern) → IsOutcome g vs tokens what x → IsThe x p → IsOnly g vs tokens what p
  only_of None p o h = absurd h
  only_of (Some Several) p o h = absurd h
  only_of (Some (One [])) p o h = absurd h
  only_of (Some (One (t ∷ ts))) p o h =
      let same : o.0 ≡ p = sym (h ∙ first_one t o.0 ts [] o.1) in
      subst (λ u. IsOnly g vs tokens what u) same o.2

  refused_of : (x : Option Found) (e : ReadingRefusal) → length tokens ≤ 256 → IsOutcome g vs tokens what x → Refuses x e → IsRefused g vs tokens what e
  refused_of None e n o h = subst (λ r. IsRefused g vs tokens what r) (sym h) (n, o)
  refused_of (Some Several) e n o h = subst (λ r. IsRefused g vs tokens what r) (sym h) (n, o)
  refused_of (Some (One ts)) refusal.None n o h = absurd (empty ts h o.1)
    where
      empty : (us : List Pattern) → us ≡ [] → us ≡ o.0 ∷ [] → ⊥
      empty us e f = cc
  refused_of (Some (One ts)) refusal.Several n o h = absurd h
  refused_of (Some (One ts)) refusal.TooLong n o h = absurd h
  refused_of (Some (One ts)) refusal.NoMemory n o h = n

  pub read_only : (x : Option Found) (p : Pattern) → x ≡ all_sought what None (longest (rows (scope_of g vs tokens) None tokens)) → IsThe x p → IsOnly g vs tokens what p
  read_only x p e h = only_of x p (subst (λ y. IsOutcome g vs tokens what y) (sym e) (outcome g sound vs tokens what)) h

  pub read_refused : (x : Option Found) (r : ReadingRefusal) → length tokens ≤ 256 → x ≡ all_sought what None (longest (rows (scope_of g vs tokens) None tokens)) → Refuses x r
      → IsRefused g vs tokens what r
  read_refused x r n e h = refused_of x r n (subst (λ y. IsOutcome g vs tokens what y) (sym e) (outcome g sound vs tokens what)) h

pub ruleset reads = (read_only, read_refused)
