-- What the chart keeps of each run are readings of that run.
use Rattle.std.proofs.Common.{◌≡◌, refl, sym, subst, ℕ, zero, suc, ◌-◌, ◌+◌, ◌<◌, Bool, true, false, ◌==◌, if◌then◌else◌, Option, None, Some, List, [], ◌∷◌, ◌++◌, slice_get, length, length-append, arith}
use Rattle.elan_text.specs.declared.name.Name.{Name}
use Rattle.elan_program.specs.declared.signature.Operator.{Operator}
use Rattle.elan_program.specs.declared.signature.Signature.{Signature}
use Rattle.elan_reading.specs.declared.lexeme.Lexeme.{Lexeme}
use Rattle.elan_reading.specs.declared.lexeme.Variable.{Variable}
use Rattle.elan_terms.specs.declared.tree.Pattern.{Pattern}
use Rattle.elan_entries.specs.declared.found.Key.{Key}
use Rattle.elan_entries.specs.declared.found.Key.TheVariants.{Rest}
use Rattle.elan_entries.specs.declared.found.Found.TheVariants.{One}
use Rattle.elan_entries.specs.declared.found.Entry.{Entry}
use Rattle.elan_entries.specs.Lexemes.{is_sign}
use Rattle.elan_entries.specs.Found.{put_all}
use Rattle.elan_chart.specs.Offers.{entry, risen, last_offers, word_offers, group_offers, integer_offers, token_offers}
use Rattle.elan_chart.specs.Chart.{Scope, may_occur, end_of, ends, climb, cut_at, cuts, run_or, run_in, framed, offers, direct, wholes, run, row, rows}
use Rattle.elan_entries.specs.Sets.{AreGood}
use Rattle.elan_chart.specs.Spans.{Set, done}
use Rattle.elan_entries.proofs.SameLemmas.{nat_same}
use Rattle.elan_entries.proofs.FoundLemmas.{append-good, put_all-good}
use Rattle.elan_chart.proofs.StepsGood.{words-good, cut-good, risen-good, lasts-good, groups-good, tokens-good, minus-good}

module _ (w : Scope) (tokens : List Lexeme) where
  abbrev IsRun : ℕ → ℕ → List Entry → Type 0
  IsRun i j es = AreGood (Set w.signature w.variables tokens i j) es

  -- the runs from i up to j, up to the place after j, and so on
  abbrev pub IsRow : ℕ → ℕ → List (List Entry) → Type 0
  IsRow i j [] = Unit {0}
  IsRow i j (es ∷ ess) = IsRun i j es × IsRow i (suc j) ess

  -- the rows of the tokens from i on
  abbrev pub AreRows : ℕ → List (List (List Entry)) → Type 0
  AreRows i [] = Unit {0}
  AreRows i (r ∷ rs) = IsRow i (suc i) r × AreRows (suc i) rs

  pub get-good : (i j k n : ℕ) (r : List (List Entry)) → IsRow i j r → k ≡ j + n → IsRun i k (run_or (slice_get r n))
  get-good i j k n [] p e = tt
  get-good i j k zero (es ∷ ess) p e = let f : j ≡ k = omega arith in subst (λ x. IsRun i x es) f p.0
  get-good i j k (suc n) (es ∷ ess) p e = get-good i (suc j) k n ess p.1 (omega arith)

  run_in-good : (i k n : ℕ) (below : List (List (List Entry))) → AreRows i below → k ≡ suc i + n → IsRun i k (run_in below n)
  run_in-good i k n [] p e = tt
  run_in-good i k n (r ∷ rs) p e = get-good i (suc i) k n r p.0 e

  snoc-good : (i j k : ℕ) (r : List (List Entry)) (es : List Entry) → IsRow i j r → k ≡ j + length r → IsRun i k es → IsRow i j (r ++ es ∷ [])
  snoc-good i j k [] es p e h = let f : k ≡ j = omega arith in (subst (λ x. IsRun i x es) f h, tt)
  snoc-good i j k (d ∷ ds) es p e h = (p.0, snoc-good i (suc j) k ds es p.1 (omega arith) h)

  climb-good : (i j : ℕ) (ss : List Name) (level all : List Entry) → IsRun i j level → IsRun i j all → IsRun i j (climb w ss level all)
  climb-good i j [] level all p q = q
  climb-good i j (s ∷ ss) [] all p q = q
  climb-good i j (s ∷ ss) (e ∷ es) all p q =
      let S : Key → List Pattern → Type 0 = Set w.signature w.variables tokens i j in
      let next : IsRun i j (put_all [] (risen w.signature w.injections (e ∷ es))) =
      put_all-good S [] (risen w.signature w.injections (e ∷ es)) tt (risen-good w.signature w.variables tokens i j w.injections (e ∷ es) p) in
      climb-good i j ss (put_all [] (risen w.signature w.injections (e ∷ es))) (put_all all (put_all [] (risen w.signature w.injections (e ∷ es)))) next
      (put_all-good S all (put_all [] (risen w.signature w.injections (e ∷ es))) q next)

  -- the entries of operators behind their last piece are right at each place
  module _ (ended : (k : ℕ) → IsRun k k w.ends) where
    module _ (i l : ℕ) (before : Option Lexeme) (first last : Lexeme) (here : slice_get tokens i ≡ Some first) (there : slice_get tokens l ≡ Some last)
        (below : List (List (List Entry))) (under : AreRows (suc i) below) where
      cut_at-good : (m : ℕ) → i < m → (front : List Entry) (n : ℕ) (rests : List (List Entry)) → IsRun i m front → IsRow m (suc m) rests → suc l ≡ suc m + n
          → IsRun i (suc l) (cut_at w before front (slice_get rests n))
      cut_at-good m some front n rests p q e = by (slice_get rests n) (get-good m (suc m) (suc l) n rests q e)
        where
          by : (x : Option (List Entry)) → IsRun m (suc l) (run_or x) → IsRun i (suc l) (cut_at w before front x)
          by None h = tt
          by (Some rest) h = cut-good w.signature w.variables tokens i m (suc l) before some front rest p h

      cuts-good : (m : ℕ) → i < m → (fronts : List (List Entry)) (others : List (List (List Entry))) → IsRow i m fronts → AreRows m others
          → m + length fronts ≡ suc l → IsRun i (suc l) (cuts w before fronts others)
      cuts-good m some [] others p q e = tt
      cuts-good m some (front ∷ fronts) [] p q e = tt
      cuts-good m some (front ∷ fronts) (rests ∷ others) p q e =
          append-good (Set w.signature w.variables tokens i (suc l)) (cut_at w before front (slice_get rests (length fronts))) (cuts w before fronts others)
          (cut_at-good m some front (length fronts) rests p.0 q.0 (omega arith)) (cuts-good (suc m) (omega arith) fronts others p.1 q.1 (omega arith))

      framed-good : (count : ℕ) → i + count ≡ l → 0 < count → IsRun i (suc l) (framed w first last count below)
      framed-good count e some = by (count == 1) refl
        where
          minus : count ≡ 1 → (b : Bool) → is_sign 45 first ≡ b → IsRun i (suc l) (if b then integer_offers w.signature.int true last else [])
          minus one true a =
              let f : suc i ≡ l = omega arith in
              subst (λ x. IsRun i (suc x) (integer_offers w.signature.int true last)) f
              (minus-good w.signature w.variables tokens i first here last (subst (λ x. slice_get tokens x ≡ Some last) (sym f) there) a w.signature.int refl)
          minus one false a = tt

          by : (b : Bool) → (count == 1) ≡ b
              → IsRun i (suc l) (if b then (if is_sign 45 first then integer_offers w.signature.int true last else []) else group_offers first last (run_in below (count - 2)))
          by true q = minus (nat_same count 1 q) (is_sign 45 first) refl
          by false q =
              groups-good w.signature w.variables tokens i l first last here there (run_in below (count - 2))
              (run_in-good (suc i) l (count - 2) below under (more count q e some))
            where
              more : (n : ℕ) → (n == 1) ≡ false → i + n ≡ l → 0 < n → l ≡ suc (suc i) + (n - 2)
              more n r f s = grind arith

      offers-good : (before_it : List (List Entry)) → IsRow i (suc i) before_it → i + length before_it ≡ l
          → IsRun i (suc l) (offers w before first last before_it below)
      offers-good [] p e =
          let f : i ≡ l = omega arith in
          subst (λ x. IsRun i (suc x) (offers w before first last [] below)) f
          (append-good (Set w.signature w.variables tokens i (suc i)) (token_offers w.signature w.variables first) (word_offers w.signature before first w.ends)
          (tokens-good w.signature w.variables tokens i first here) (words-good w.signature w.variables tokens i (suc i) before first here w.ends (ended (suc i))))
      offers-good (front ∷ fronts) p e =
          append-good (Set w.signature w.variables tokens i (suc l)) (framed w first last (length (front ∷ fronts)) below) _
          (framed-good (length (front ∷ fronts)) e (omega arith))
          (append-good (Set w.signature w.variables tokens i (suc l)) (word_offers w.signature before first (run_in below (length (front ∷ fronts) - 1))) (cuts w before (front ∷ fronts) below)
          (words-good w.signature w.variables tokens i (suc l) before first here (run_in below (length (front ∷ fronts) - 1))
          (run_in-good (suc i) (suc l) (length (front ∷ fronts) - 1) below under (omega arith)))
          (cuts-good (suc i) (omega arith) (front ∷ fronts) below p under (omega arith)))

      pub run-good : (before_it : List (List Entry)) → IsRow i (suc i) before_it → i + length before_it ≡ l
          → IsRun i (suc l) (run w before first last before_it below)
      run-good before_it p e =
          let S : Key → List Pattern → Type 0 = Set w.signature w.variables tokens i (suc l) in
          let level : IsRun i (suc l) (direct w before first last before_it below) =
          put_all-good S [] (offers w before first last before_it below) tt (offers-good before_it p e) in
          let all : IsRun i (suc l) (wholes w before first last before_it below) =
          climb-good i (suc l) w.signature.sorts (direct w before first last before_it below) (put_all [] (direct w before first last before_it below)) level
          (put_all-good S [] (direct w before first last before_it below) tt level) in
          let more : IsRun i (suc l) (put_all [] (last_offers w.signature before w.lasts (wholes w before first last before_it below))) =
          put_all-good S [] (last_offers w.signature before w.lasts (wholes w before first last before_it below)) tt
          (lasts-good w.signature w.variables tokens i (suc l) before (omega arith) w.lasts (wholes w before first last before_it below) all) in
          put_all-good S (wholes w before first last before_it below) (put_all [] (last_offers w.signature before w.lasts (wholes w before first last before_it below))) all more

    row-good : (i : ℕ) (before : Option Lexeme) (first : Lexeme) → slice_get tokens i ≡ Some first → (below : List (List (List Entry))) → AreRows (suc i) below
        → (l : ℕ) (more : List Lexeme)
        → ((k : ℕ) (t : Lexeme) → slice_get more k ≡ Some t → slice_get tokens (k + l) ≡ Some t)
        → (before_it : List (List Entry)) → IsRow i (suc i) before_it → i + length before_it ≡ l → IsRow i (suc i) (row w before first more below before_it)
    row-good i before first here below under l [] all before_it p e = p
    row-good i before first here below under l (last ∷ more) all before_it p e =
        let there : slice_get tokens l ≡ Some last = subst (λ x. slice_get tokens x ≡ Some last) (zero_more l) (all 0 last refl) in
        row-good i before first here below under (suc l) more
        (λ k t q. subst (λ x. slice_get tokens x ≡ Some t) (one_later k l) (all (suc k) t q))
        (before_it ++ run w before first last before_it below ∷ [])
        (snoc-good i (suc i) (suc l) before_it (run w before first last before_it below) p (omega arith)
        (run-good i l before first last here there below under before_it p e))
        (omega (arith, length-append before_it (run w before first last before_it below ∷ [])))
      where
        zero_more : (n : ℕ) → 0 + n ≡ n
        zero_more n = omega arith

        one_later : (k n : ℕ) → suc k + n ≡ k + suc n
        one_later k n = omega arith

    pub rows-good : (i : ℕ) (before : Option Lexeme) (toks : List Lexeme) → ((k : ℕ) (t : Lexeme) → slice_get toks k ≡ Some t → slice_get tokens (k + i) ≡ Some t)
        → AreRows i (rows w before toks)
    rows-good i before [] all = tt
    rows-good i before (first ∷ rest) all =
        let under : AreRows (suc i) (rows w (Some first) rest) =
        rows-good (suc i) (Some first) rest (λ k t q. subst (λ x. slice_get tokens x ≡ Some t) (one_later k i) (all (suc k) t q)) in
        let here : slice_get tokens i ≡ Some first = subst (λ x. slice_get tokens x ≡ Some first) (zero_more i) (all 0 first refl) in (
          row-good i before first here (rows w (Some first) rest) under i (first ∷ rest) all [] tt (omega arith),
          under,
        )
      where
        zero_more : (n : ℕ) → 0 + n ≡ n
        zero_more n = omega arith

        one_later : (k n : ℕ) → suc k + n ≡ k + suc n
        one_later k n = omega arith

-- each operator is read at the empty run behind its last piece
pub ends-good : (g : Signature) (vs : List Variable) (tokens : List Lexeme) (k n : ℕ) (os : List Operator)
    → ((m : ℕ) (o : Operator) → slice_get os m ≡ Some o → slice_get g.operators (m + n) ≡ Some o) → AreGood (Set g vs tokens k k) (ends tokens n os)
ends-good g vs tokens k n [] all = tt
ends-good g vs tokens k n (o ∷ os) all =
    append-good (Set g vs tokens k k) (end_of tokens (record { 0 = n }) o) (ends tokens (suc n) os) (by (may_occur tokens o))
    (ends-good g vs tokens k (suc n) os (λ m p q. subst (λ x. slice_get g.operators x ≡ Some p) (one_later m n) (all (suc m) p q)))
  where
    zero_more : (n : ℕ) → 0 + n ≡ n
    zero_more n = omega arith

    one_later : (k n : ℕ) → suc k + n ≡ k + suc n
    one_later k n = omega arith

    by : (b : Bool) → AreGood (Set g vs tokens k k) (if b then entry (Rest (record { 0 = n }) (length o.pieces) (length o.args)) (One []) ∷ [] else [])
    by true = (
      (o, subst (λ x. slice_get g.operators x ≡ Some o) (zero_more n) (all 0 o refl), done o k (length o.pieces) (length o.args) refl refl),
      tt,
    )
    by false = tt
