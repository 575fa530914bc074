-- The chart keeps all readings of each run.
use Rattle.std.proofs.Common.{◌≡◌, refl, sym, ap, subst, ◌∙◌, ℕ, zero, suc, ◌-◌, ◌+◌, ◌<◌, ◌≤◌, Bool, true, false, ◌&&◌, ◌||◌, ◌==◌, nat_lt, if◌then◌else◌, Option, None, Some, List, [], ◌∷◌, ◌++◌, ◌⊎◌, inl, inr, slice_get, length, length-append, arith}
use Rattle.std.specs.List.{list_all, list_any}
use Rattle.std.specs.Str.{bytes_eq}
use Rattle.std.proofs.lemmas.Option.{slice_get_past}
use Rattle.elan_terms.specs.Match.{is_sort}
use Rattle.elan_terms.proofs.Lists.{In}
use Rattle.elan_text.specs.declared.name.Name.{Name}
use Rattle.elan_terms.specs.declared.tree.OpId.{OpId}
use Rattle.elan_terms.specs.declared.tree.SortId.{SortId}
use Rattle.elan_terms.specs.declared.tree.Pattern.{Pattern}
use Rattle.elan_program.specs.declared.signature.Operator.{Operator}
use Rattle.elan_program.specs.declared.signature.Signature.{Signature}
use Rattle.elan_reading.specs.declared.lexeme.Lexeme.{Lexeme}
use Rattle.elan_entries.specs.declared.found.Key.{Key}
use Rattle.elan_entries.specs.declared.found.Key.TheVariants.{Whole, Rest}
use Rattle.elan_entries.specs.declared.found.Entry.{Entry}
use Rattle.elan_program.specs.Extension.{app_pattern}
use Rattle.elan_program.specs.declared.signature.Piece.{Piece}
use Rattle.elan_program.specs.declared.signature.Piece.TheVariants as piece
use Rattle.elan_reading.specs.Edge.{is_injection, is_one_hole, own_tie}
use Rattle.elan_entries.specs.Lexemes.{is_sign}
use Rattle.elan_entries.specs.Pieces.{takes_hole, fits_arg, fits_hole, is_hole_of, is_its_word, is_hole_at, is_arg_at, last_sort, is_word_at, is_word_before, fits_before, is_injection_from}
use Rattle.elan_entries.specs.Found.{put_all}
use Rattle.elan_chart.specs.Offers.{at_sort, risen, last_offers, word_offers, cut_offers, integer_offers, token_offers}
use Rattle.elan_chart.specs.Chart.{Scope, occurs, may_occur, climb, cut_at, cuts, run_or, run_in, framed, offers, direct, wholes, run, row, rows}
use Rattle.elan_entries.specs.Sets.{HasAt}
use Rattle.elan_chart.specs.Spans.{Reads, Fills, variable, number, minus, operator, injection, group, done, word, hole}
use Rattle.elan_entries.proofs.SameLemmas.{both_true, nat_same}
use Rattle.elan_entries.proofs.FoundLemmas.{put_all-keeps, put_all-has, append-left, append-right}
use Rattle.elan_chart.proofs.StepsGood.{some_one}
use Rattle.elan_chart.proofs.StepsFull.{under, under_not, and_true, less_one, Gives, gives-whole, gives-rest, words-have, cut-has, lasts-have, risen-has, groups-have, tokens-have-variable, tokens-have-number, integers-have}

pub or_left : (a b : Bool) → a ≡ true → (a || b) ≡ true
or_left a b e = ap (λ x. x || b) e

pub or_right : (a b : Bool) → b ≡ true → (a || b) ≡ true
or_right true b e = refl
or_right false b e = e

no_true : false ≡ true → ⊥
no_true f = cc

hole_in : (o : Operator) (k h : ℕ) (s : SortId) (tie : Option ℕ) → fits_hole o k h s tie ≡ true → is_hole_at o (k - 1) ≡ true
hole_in o k h s tie e =
    (both_true (nat_lt 0 k && nat_lt 0 h) (is_hole_at o (k - 1)) (both_true (takes_hole o k h) (fits_arg o k h s tie) e).0).1

-- whether a piece that may be missing occurs among the tokens
abbrev occurs_of : List Lexeme → Option Piece → Bool
occurs_of tokens None = true
occurs_of tokens (Some p) = occurs tokens p

all_pieces : (tokens : List Lexeme) (ps : List Piece) → ((n : ℕ) → occurs_of tokens (slice_get ps n) ≡ true) → list_all (occurs tokens) ps ≡ true
all_pieces tokens [] h = refl
all_pieces tokens (p ∷ ps) h = and_true (occurs tokens p) (list_all (occurs tokens) ps) (h 0) (all_pieces tokens ps (λ n. h (suc n)))

any_at : (bytes : List ℕ) (ts : List Lexeme) (i : ℕ) (t : Lexeme) → slice_get ts i ≡ Some t → bytes_eq bytes t.text ≡ true
    → list_any (λ (t : Lexeme). bytes_eq bytes t.text) ts ≡ true
any_at bytes [] i t e is = absurd (no e)
  where
    no : None ≡ Some t → ⊥
    no f = cc
any_at bytes (d ∷ ts) zero t e is =
    let same : d ≡ t = cc in
    or_left (bytes_eq bytes d.text) (list_any (λ (t : Lexeme). bytes_eq bytes t.text) ts) (ap (λ (x : Lexeme). bytes_eq bytes x.text) same ∙ is)
any_at bytes (d ∷ ts) (suc i) t e is =
    or_right (bytes_eq bytes d.text) (list_any (λ (t : Lexeme). bytes_eq bytes t.text) ts) (any_at bytes ts i t e is)

word_occurs : (tokens : List Lexeme) (i : ℕ) (t : Lexeme) → slice_get tokens i ≡ Some t → (x : Option Piece) → is_its_word x t ≡ true → occurs_of tokens x ≡ true
word_occurs tokens i t e None is = refl
word_occurs tokens i t e (Some piece.Hole) is = refl
word_occurs tokens i t e (Some (piece.Word name)) is = any_at name.bytes tokens i t e is

hole_occurs : (tokens : List Lexeme) (x : Option Piece) → is_hole_of x ≡ true → occurs_of tokens x ≡ true
hole_occurs tokens None is = refl
hole_occurs tokens (Some piece.Hole) is = refl
hole_occurs tokens (Some (piece.Word name)) is = absurd (no_true is)

-- the sort of the last argument, where a tree of a sort may stand in the last hole
last-is : (o : Operator) (k h : ℕ) (s : SortId) (tie : Option ℕ) → fits_hole o (suc (suc k)) (suc h) s tie ≡ true → suc (suc k) ≡ length o.pieces
    → suc h ≡ length o.args → last_sort o ≡ Some s
last-is o k h s tie fits ek eh =
    let is_hole : is_hole_at o (length o.pieces - 1) ≡ true =
    subst (λ n. is_hole_at o (n - 1) ≡ true) ek (hole_in o (suc (suc k)) (suc h) s tie fits) in
    let is_arg : is_arg_at o (length o.args - 1) s ≡ true =
    subst (λ n. is_arg_at o (n - 1) s ≡ true) eh
    (both_true (is_arg_at o (suc h - 1) s) _ (both_true (takes_hole o (suc (suc k)) (suc h)) (fits_arg o (suc (suc k)) (suc h) s tie) fits).1).0 in
    ap (λ b. if b then slice_get o.args (length o.args - 1) else None)
    (and_true (nat_lt 1 (length o.pieces)) (is_hole_at o (length o.pieces - 1)) (more_than_one (length o.pieces) ek) is_hole)
    ∙ first_is (slice_get o.args (length o.args - 1)) is_arg
  where
    more_than_one : (n : ℕ) → suc (suc k) ≡ n → nat_lt 1 n ≡ true
    more_than_one n e = grind arith

    first_is : (x : Option SortId) → is_sort x s ≡ true → x ≡ Some s
    first_is None q = absurd (no_true q)
    first_is (Some r) q = ap (λ n. Some (record { 0 = n })) (nat_same r.0 s.0 q)

-- a spelling of one piece that is a hole
one_hole : (ps : List Piece) → length ps ≡ 1 → is_hole_of (slice_get ps 0) ≡ true → is_one_hole ps ≡ true
one_hole [] e is = absurd (no_true is)
one_hole (p ∷ []) e is = is
one_hole (p ∷ q ∷ ps) e is = absurd (omega arith)

below_or_at : (m j : ℕ) → m ≤ j → (m < j) ⊎ (m ≡ j)
below_or_at m j h = by (m == j) refl
  where
    by : (b : Bool) → (m == j) ≡ b → (m < j) ⊎ (m ≡ j)
    by true e = inr (nat_same m j e)
    by false e = inl (grind arith)

abbrev row_or : Option (List (List Entry)) → List (List Entry)
row_or None = []
row_or (Some r) = r

-- as many injections lead from a tree of a sort to another
pub data Path (g : Signature) : ℕ → SortId → Bool → Pattern → SortId → Bool → Pattern → Type 0 where
  none : (s : SortId) (injected : Bool) (t : Pattern) → Path g 0 s injected t s injected t
  more : (n : ℕ) (op : OpId) (o : Operator) (s r : SortId) (injected last : Bool) (t u : Pattern) → slice_get g.operators op.0 ≡ Some o
      → is_injection_from o s ≡ true → Path g n o.sort true (app_pattern op (t ∷ [])) r last u → Path g (suc n) s injected t r last u

pub longer : (g : Signature) (n : ℕ) (s r : SortId) (injected last : Bool) (t u : Pattern) (op : OpId) (o : Operator) → Path g n s injected t r last u
    → slice_get g.operators op.0 ≡ Some o → is_injection_from o r ≡ true → Path g (suc n) s injected t o.sort true (app_pattern op (u ∷ []))
longer g _ _ _ _ _ _ _ op o (none s injected t) at from =
    more 0 op o s o.sort injected true t (app_pattern op (t ∷ [])) at from (none o.sort true (app_pattern op (t ∷ [])))
longer g _ _ _ _ _ _ _ op o (more n op' o' s r injected last t u at' from' p) at from =
    more (suc n) op' o' s o.sort injected true t (app_pattern op (u ∷ [])) at' from' (longer g n o'.sort r true last (app_pattern op' (t ∷ [])) u op o p at from)

module _ (w : Scope) (tokens : List Lexeme)
    (ended : (op : OpId) (o : Operator) → slice_get w.signature.operators op.0 ≡ Some o → may_occur tokens o ≡ true
    → HasAt w.ends (Rest op (length o.pieces) (length o.args)) [])
    (listed : (op : OpId) (o : Operator) (s : SortId) → slice_get w.signature.operators op.0 ≡ Some o → is_injection_from o s ≡ true → In op (at_sort w.injections s))
    (lasted : (op : OpId) (o : Operator) (s : SortId) → slice_get w.signature.operators op.0 ≡ Some o → may_occur tokens o ≡ true → last_sort o ≡ Some s
    → In op (at_sort w.lasts s))
    (spelled : (op : OpId) (o : Operator) → slice_get w.signature.operators op.0 ≡ Some o → 0 < length o.pieces)
    (bounded : (n : ℕ) (s r : SortId) (injected last : Bool) (t u : Pattern) → Path w.signature n s injected t r last u → n ≤ length w.signature.sorts) where
  abbrev R : ℕ → ℕ → SortId → Option ℕ → Bool → Pattern → Type 0
  R = Reads w.signature w.variables tokens

  abbrev F : Operator → ℕ → ℕ → ℕ → ℕ → List Pattern → Type 0
  F = Fills w.signature w.variables tokens

  -- ---- places

  fills-le : (o : Operator) (i j k h : ℕ) (ts : List Pattern) → F o i j k h ts → i ≤ j
  fills-le _ _ _ _ _ _ (done o i k h a b) = omega arith
  fills-le _ _ _ _ _ _ (word o i j k h token ts at is f) = let le : suc i ≤ j = fills-le o (suc i) j (suc k) h ts f in omega arith
  fills-le _ _ _ _ _ _ (hole o i m j k h s tie injected t ts some fits r f) = let le : m ≤ j = fills-le o m j (suc k) (suc h) ts f in omega arith

  fills-size : (o : Operator) (i j k h : ℕ) (ts : List Pattern) → F o i j k h ts → i + length o.pieces ≤ j + k
  fills-size _ _ _ _ _ _ (done o i k h a b) = omega arith
  fills-size _ _ _ _ _ _ (word o i j k h token ts at is f) =
      let le : suc i + length o.pieces ≤ j + suc k = fills-size o (suc i) j (suc k) h ts f in omega arith
  fills-size _ _ _ _ _ _ (hole o i m j k h s tie injected t ts some fits r f) =
      let le : m + length o.pieces ≤ j + suc k = fills-size o m j (suc k) (suc h) ts f in omega arith

  pub reads-less : (i j : ℕ) (s : SortId) (tie : Option ℕ) (injected : Bool) (t : Pattern) → R i j s tie injected t → i < j
  reads-less _ _ _ _ _ _ (variable i n token v at a b c) = omega arith
  reads-less _ _ _ _ _ _ (number i token s at a b) = omega arith
  reads-less _ _ _ _ _ _ (minus i first token s at a b c d) = omega arith
  reads-less _ _ _ _ _ _ (operator i j op o ts at a f) =
      let le : i + length o.pieces ≤ j + 0 = fills-size o i j 0 0 ts f in let some : 0 < length o.pieces = spelled op o at in omega arith
  reads-less _ _ _ _ _ _ (injection i j op o s tie injected t at from r) = reads-less i j s tie injected t r
  reads-less _ _ _ _ _ _ (group i j first last s tie injected t a b c d r) = let le : suc i < j = reads-less (suc i) j s tie injected t r in omega arith

  fills-end : (o : Operator) (i j k h : ℕ) (ts : List Pattern) → F o i j k h ts → j ≡ i → (k ≡ length o.pieces) × (h ≡ length o.args) × (ts ≡ [])
  fills-end _ _ _ _ _ _ (done o i k h a b) e = (a, b, refl)
  fills-end _ _ _ _ _ _ (word o i j k h token ts at is f) e = let le : suc i ≤ j = fills-le o (suc i) j (suc k) h ts f in absurd (omega arith)
  fills-end _ _ _ _ _ _ (hole o i m j k h s tie injected t ts some fits r f) e = let le : m ≤ j = fills-le o m j (suc k) (suc h) ts f in absurd (omega arith)

  -- each word of a spelling that fills a run is among the tokens
  pieces-occur : (o : Operator) (i j k h : ℕ) (ts : List Pattern) → F o i j k h ts → (n : ℕ) → k ≤ n → occurs_of tokens (slice_get o.pieces n) ≡ true
  pieces-occur _ _ _ _ _ _ (done o i k h a b) n le =
      ap (occurs_of tokens) (slice_get_past o.pieces n (omega arith))
  pieces-occur _ _ _ _ _ _ (word o i j k h token ts at is f) n le = by (pieces-occur o (suc i) j (suc k) h ts f n) (below_or_at k n le)
    where
      by : (suc k ≤ n → occurs_of tokens (slice_get o.pieces n) ≡ true) → (k < n) ⊎ (k ≡ n) → occurs_of tokens (slice_get o.pieces n) ≡ true
      by later (inl less) = later (omega arith)
      by later (inr same) = subst (λ x. occurs_of tokens (slice_get o.pieces x) ≡ true) same (word_occurs tokens i token at (slice_get o.pieces k) is)
  pieces-occur _ _ _ _ _ _ (hole o i m j k h s tie injected t ts some fits r f) n le = by (pieces-occur o m j (suc k) (suc h) ts f n) (below_or_at k n le)
    where
      by : (suc k ≤ n → occurs_of tokens (slice_get o.pieces n) ≡ true) → (k < n) ⊎ (k ≡ n) → occurs_of tokens (slice_get o.pieces n) ≡ true
      by later (inl less) = later (omega arith)
      by later (inr same) =
          subst (λ x. occurs_of tokens (slice_get o.pieces x) ≡ true) same
          (hole_occurs tokens (slice_get o.pieces k) (subst (λ x. is_hole_at o x ≡ true) (less_one k) (hole_in o (suc k) (suc h) s tie fits)))

  spelling-occurs : (o : Operator) (i j : ℕ) (ts : List Pattern) → F o i j 0 0 ts → may_occur tokens o ≡ true
  spelling-occurs o i j ts f = all_pieces tokens o.pieces (λ n. pieces-occur o i j 0 0 ts f n (omega arith))

  -- ---- full runs

  -- all readings of a run are kept, and all that pieces are filled by, where the piece before them may stand there
  pub record IsFull (before : Option Lexeme) (i j : ℕ) (es : List Entry) : Type 0 where
    pub trees : (s : SortId) (tie : Option ℕ) (injected : Bool) (t : Pattern) → R i j s tie injected t → HasAt es (Whole s tie injected) (t ∷ [])
    pub rests : (op : OpId) (o : Operator) (k h : ℕ) (ts : List Pattern) → slice_get w.signature.operators op.0 ≡ Some o → may_occur tokens o ≡ true
        → fits_before o k before ≡ true → F o i j (suc k) h ts → HasAt es (Rest op (suc k) h) ts

  abbrev pub IsFullRow : Option Lexeme → ℕ → List (List Entry) → Type 0
  IsFullRow before i r = (n : ℕ) → n < length r → IsFull before i (suc i + n) (run_or (slice_get r n))

  abbrev pub AreFullRows : Option Lexeme → ℕ → List (List (List Entry)) → Type 0
  AreFullRows before i [] = length tokens ≤ i
  AreFullRows before i (r ∷ rs) = IsFullRow before i r × (i + length r ≡ length tokens) × AreFullRows (slice_get tokens i) (suc i) rs

  row-full : (before : Option Lexeme) (i j n : ℕ) (r : List (List Entry)) → IsFullRow before i r → n < length r → j ≡ suc i + n → IsFull before i j (run_or (slice_get r n))
  row-full before i j n r full less e = subst (λ x. IsFull before i x (run_or (slice_get r n))) (sym e) (full n less)

  run_in-full : (before : Option Lexeme) (i j n : ℕ) (below : List (List (List Entry))) → AreFullRows before i below → j ≤ length tokens → j ≡ suc i + n
      → IsFull before i j (run_in below n)
  run_in-full before i j n [] full inside e = absurd (omega arith)
  run_in-full before i j n (r ∷ rs) full inside e = row-full before i j n r full.0 (let l : i + length r ≡ length tokens = full.1 in omega arith) e

  below-full : (before : Option Lexeme) (i m j d n : ℕ) (below : List (List (List Entry))) → AreFullRows before i below → m ≡ i + d → j ≤ length tokens → j ≡ suc m + n
      → (b : Option Lexeme) × IsFull b m j (run_or (slice_get (row_or (slice_get below d)) n))
  below-full before i m j d n [] full a inside e = absurd (let l : length tokens ≤ i = full in omega arith)
  below-full before i m j zero n (r ∷ rs) full a inside e =
      (before, row-at (omega arith))
    where
      row-at : m ≡ i → IsFull before m j (run_or (slice_get r n))
      row-at f = subst (λ x. IsFull before x j (run_or (slice_get r n))) (sym f) (row-full before i j n r full.0 (let l : i + length r ≡ length tokens = full.1 in omega arith) (omega arith))
  below-full before i m j (suc d) n (r ∷ rs) full a inside e = below-full (slice_get tokens i) (suc i) m j d n rs full.2 (omega arith) inside e

  -- ---- cuts

  cuts-at : (before : Option Lexeme) (K : Key) (us : List Pattern) (d : ℕ) (fronts : List (List Entry)) (others : List (List (List Entry))) → d < length fronts
      → HasAt (cut_offers w.signature before (run_or (slice_get fronts d)) (run_or (slice_get (row_or (slice_get others d)) (length fronts - suc d)))) K us
      → HasAt (cuts w before fronts others) K us
  cuts-at before K us d [] others less p = absurd (omega arith)
  cuts-at before K us d (front ∷ fronts) [] less p = absurd (nothing (run_or (slice_get (front ∷ fronts) d)) p)
    where
      nothing : (es : List Entry) → HasAt (cut_offers w.signature before es []) K us → ⊥
      nothing [] q = q
      nothing (e ∷ es) q = nothing es q
  cuts-at before K us zero (front ∷ fronts) (rests ∷ others) less p =
      append-left K us (cut_at w before front (slice_get rests (length fronts))) (cuts w before fronts others)
      (at (slice_get rests (length fronts))
      (subst (λ n. HasAt (cut_offers w.signature before front (run_or (slice_get rests n))) K us) (one_less (length fronts)) p))
    where
      one_less : (n : ℕ) → suc n - 1 ≡ n
      one_less n = omega arith

      nothing : (es : List Entry) → HasAt (cut_offers w.signature before es []) K us → ⊥
      nothing [] q = q
      nothing (e ∷ es) q = nothing es q

      at : (x : Option (List Entry)) → HasAt (cut_offers w.signature before front (run_or x)) K us → HasAt (cut_at w before front x) K us
      at None q = absurd (nothing front q)
      at (Some rest) q = q
  cuts-at before K us (suc d) (front ∷ fronts) (rests ∷ others) less p =
      append-right K us (cut_at w before front (slice_get rests (length fronts))) (cuts w before fronts others)
      (cuts-at before K us d fronts others (omega arith)
      (subst (λ n. HasAt (cut_offers w.signature before (run_or (slice_get fronts d)) (run_or (slice_get (row_or (slice_get others d)) n))) K us)
      (both_less (length fronts) d) p))
    where
      both_less : (n d : ℕ) → suc n - suc (suc d) ≡ n - suc d
      both_less n d = omega arith

  -- ---- injections

  climb-keeps : (K : Key) (us : List Pattern) (ss : List Name) (level all : List Entry) → HasAt all K us → HasAt (climb w ss level all) K us
  climb-keeps K us [] level all p = p
  climb-keeps K us (s ∷ ss) [] all p = p
  climb-keeps K us (s ∷ ss) (e ∷ es) all p =
      climb-keeps K us ss (put_all [] (risen w.signature w.injections (e ∷ es))) (put_all all (put_all [] (risen w.signature w.injections (e ∷ es))))
      (put_all-keeps K us all (put_all [] (risen w.signature w.injections (e ∷ es))) p)

  climb-has : (tie : Option ℕ) (n : ℕ) (s r : SortId) (injected last : Bool) (t u : Pattern) → Path w.signature n s injected t r last u → (ss : List Name) → n ≤ length ss
      → (level all : List Entry) → HasAt level (Whole s tie injected) (t ∷ []) → HasAt all (Whole s tie injected) (t ∷ [])
      → HasAt (climb w ss level all) (Whole r tie last) (u ∷ [])
  climb-has tie _ _ _ _ _ _ _ (none s injected t) ss le level all p q = climb-keeps (Whole s tie injected) (t ∷ []) ss level all q
  climb-has tie _ _ _ _ _ _ _ (more n op o s r injected last t u at from path) [] le level all p q = absurd (omega arith)
  climb-has tie _ _ _ _ _ _ _ (more n op o s r injected last t u at from path) (x ∷ ss) le [] all p q = absurd p
  climb-has tie _ _ _ _ _ _ _ (more n op o s r injected last t u at from path) (x ∷ ss) le (e ∷ es) all p q =
      let next : HasAt (put_all [] (risen w.signature w.injections (e ∷ es))) (Whole o.sort tie true) (app_pattern op (t ∷ []) ∷ []) =
      put_all-has (Whole o.sort tie true) (app_pattern op (t ∷ []) ∷ []) [] (risen w.signature w.injections (e ∷ es))
      (risen-has w.signature w.injections op o s tie injected t (listed op o s at from) at from (e ∷ es) p) in
      climb-has tie n o.sort r true last (app_pattern op (t ∷ [])) u path ss (omega arith) (put_all [] (risen w.signature w.injections (e ∷ es)))
      (put_all all (put_all [] (risen w.signature w.injections (e ∷ es)))) next
      (put_all-has (Whole o.sort tie true) (app_pattern op (t ∷ []) ∷ []) all (put_all [] (risen w.signature w.injections (e ∷ es))) next)

  -- ---- a run from shorter ones

  -- what is known where a run is read
  record Given (i j : ℕ) : Type 0 where
    before : Option Lexeme
    first : Lexeme
    last : Lexeme
    l : ℕ
    is_end : j ≡ suc l
    here : slice_get tokens i ≡ Some first
    there : slice_get tokens l ≡ Some last
    inside : j ≤ length tokens
    below : List (List (List Entry))
    under_it : AreFullRows (slice_get tokens i) (suc i) below
    fronts : List (List Entry)
    count : i + length fronts ≡ l
    full : IsFullRow before i fronts

  abbrev direct_of : {i j : ℕ} → Given i j → List Entry
  direct_of G = direct w G.before G.first G.last G.fronts G.below

  offered : {i j : ℕ} (G : Given i j) (K : Key) (us : List Pattern) → HasAt (offers w G.before G.first G.last G.fronts G.below) K us → HasAt (direct_of G) K us
  offered G K us p = put_all-has K us [] (offers w G.before G.first G.last G.fronts G.below) p

  -- the last piece is a hole, which takes the whole run
  record LastHole (o : Operator) (i j k h : ℕ) (ts : List Pattern) : Type 0 where
    sort : SortId
    tie : Option ℕ
    injected : Bool
    tree : Pattern
    is : ts ≡ tree ∷ []
    fits : fits_hole o (suc k) (suc h) sort tie ≡ true
    reads : R i j sort tie injected tree
    all_pieces : suc k ≡ length o.pieces
    all_args : suc h ≡ length o.args

  module _ (K : Key) (us : List Pattern) where
    -- the first row is empty or not
    at_first : (w' : Option Lexeme) (first last : Lexeme) (fronts : List (List Entry)) (below : List (List (List Entry))) → length fronts ≡ 0
        → HasAt (token_offers w.signature w.variables first ++ word_offers w.signature w' first w.ends) K us → HasAt (offers w w' first last fronts below) K us
    at_first w' first last [] below e p = p
    at_first w' first last (f ∷ fs) below e p = absurd (omega arith)

    framed_first : (w' : Option Lexeme) (first last : Lexeme) (fronts : List (List Entry)) (below : List (List (List Entry))) → 0 < length fronts
        → HasAt (framed w first last (length fronts) below) K us → HasAt (offers w w' first last fronts below) K us
    framed_first w' first last [] below e p = absurd (omega arith)
    framed_first w' first last (f ∷ fs) below e p = append-left K us (framed w first last (length (f ∷ fs)) below) _ p

    word_first : (w' : Option Lexeme) (first last : Lexeme) (fronts : List (List Entry)) (below : List (List (List Entry))) → 0 < length fronts
        → HasAt (word_offers w.signature w' first (run_in below (length fronts - 1))) K us → HasAt (offers w w' first last fronts below) K us
    word_first w' first last [] below e p = absurd (omega arith)
    word_first w' first last (f ∷ fs) below e p =
        append-right K us (framed w first last (length (f ∷ fs)) below) _ (append-left K us (word_offers w.signature w' first (run_in below (length (f ∷ fs) - 1))) _ p)

    cut_first : (w' : Option Lexeme) (first last : Lexeme) (fronts : List (List Entry)) (below : List (List (List Entry))) → 0 < length fronts
        → HasAt (cuts w w' fronts below) K us → HasAt (offers w w' first last fronts below) K us
    cut_first w' first last [] below e p = absurd (omega arith)
    cut_first w' first last (f ∷ fs) below e p =
        append-right K us (framed w first last (length (f ∷ fs)) below) _ (append-right K us (word_offers w.signature w' first (run_in below (length (f ∷ fs) - 1))) _ p)

  step-has : (o : Operator) (i j k h : ℕ) (ts : List Pattern) → F o i j k h ts → (G : Given i j) → (op : OpId) → slice_get w.signature.operators op.0 ≡ Some o
      → may_occur tokens o ≡ true → (K : Key) (us : List Pattern) → Gives G.before op o k h ts K us → HasAt (direct_of G) K us ⊎ LastHole o i j k h ts
  step-has _ _ _ _ _ _ (done o i k h a b) G op at occ K us gives =
      let e : i ≡ suc G.l = G.is_end in let c : i + length G.fronts ≡ G.l = G.count in absurd (omega arith)
  step-has _ _ _ _ _ _ (word o i j k h token ts here is f) G op at occ K us gives = inl (by (length G.fronts == 0) refl)
    where
      c : i + length G.fronts ≡ G.l
      c = G.count

      e : j ≡ suc G.l
      e = G.is_end

      same : token ≡ G.first
      same = some_one token G.first (sym here ∙ G.here)

      is_first : is_word_at o k G.first ≡ true
      is_first = subst (λ x. is_word_at o k x ≡ true) same is

      by : (b : Bool) → (length G.fronts == 0) ≡ b → HasAt (direct_of G) K us
      by true q =
          let z : length G.fronts ≡ 0 = nat_same (length G.fronts) 0 q in
          let all : _ = fills-end o (suc i) j (suc k) h ts f (omega arith) in
          offered G K us (at_first K us G.before G.first G.last G.fronts G.below z
          (append-right K us (token_offers w.signature w.variables G.first) (word_offers w.signature G.before G.first w.ends)
          (words-have w.signature G.before op o at K us G.first k h ts is_first gives w.ends
          (subst (λ n. HasAt w.ends (Rest op n h) ts) (sym all.0)
          (subst (λ n. HasAt w.ends (Rest op (length o.pieces) n) ts) (sym all.1)
          (subst (λ n. HasAt w.ends (Rest op (length o.pieces) (length o.args)) n) (sym all.2) (ended op o at occ)))))))
      by false q =
          let some : 0 < length G.fronts = grind arith in
          let inner : IsFull (slice_get tokens i) (suc i) j (run_in G.below (length G.fronts - 1)) =
          run_in-full (slice_get tokens i) (suc i) j (length G.fronts - 1) G.below G.under_it G.inside (omega arith) in
          let fits : fits_before o k (slice_get tokens i) ≡ true =
          subst (λ x. fits_before o k x ≡ true) (sym here) (or_right (is_hole_at o k) (is_word_before o k (Some token)) is) in
          offered G K us (word_first K us G.before G.first G.last G.fronts G.below some
          (words-have w.signature G.before op o at K us G.first k h ts is_first gives (run_in G.below (length G.fronts - 1))
          (inner.rests op o k h ts at occ fits f)))
  step-has _ _ _ _ _ _ (hole o i m j k h s tie injected t ts some fits r f) G op at occ K us gives = by (below_or_at m j (fills-le o m j (suc k) (suc h) ts f))
    where
      c : i + length G.fronts ≡ G.l
      c = G.count

      e : j ≡ suc G.l
      e = G.is_end

      by : (m < j) ⊎ (m ≡ j) → HasAt (direct_of G) K us ⊎ LastHole o i j k h (t ∷ ts)
      by (inl less) =
          let front : IsFull G.before i m (run_or (slice_get G.fronts (m - suc i))) =
          row-full G.before i m (m - suc i) G.fronts G.full (omega arith) (omega arith) in
          let rest : _ = below-full (slice_get tokens i) (suc i) m j (m - suc i) (length G.fronts - suc (m - suc i)) G.below G.under_it (omega arith) G.inside (omega arith) in
          let is_here : is_hole_at o k ≡ true =
          subst (λ n. is_hole_at o n ≡ true) (less_one k) (hole_in o (suc k) (suc h) s tie fits) in
          let fits' : fits_before o k rest.0 ≡ true = or_left (is_hole_at o k) (is_word_before o k rest.0) is_here in
          inl (offered G K us (cut_first K us G.before G.first G.last G.fronts G.below (omega arith)
          (cuts-at G.before K us (m - suc i) G.fronts G.below (omega arith)
          (cut-has w.signature G.before op o at K us k h s tie injected t ts fits gives (run_or (slice_get G.fronts (m - suc i)))
          (run_or (slice_get (row_or (slice_get G.below (m - suc i))) (length G.fronts - suc (m - suc i))))
          (front.trees s tie injected t r) (rest.1.rests op o k (suc h) ts at occ fits' f)))))
      by (inr same) =
          let all : _ = fills-end o m j (suc k) (suc h) ts f (sym same) in
          inr (record {
            sort = s;
            tie = tie;
            injected = injected;
            tree = t;
            is = ap (λ l. t ∷ l) all.2;
            fits = fits;
            reads = subst (λ x. R i x s tie injected t) same r;
            all_pieces = all.0;
            all_args = all.1;
          })

  -- ---- trees

  -- a reading is one that is offered, under injections
  record Risen (i j : ℕ) (es : List Entry) (s : SortId) (tie : Option ℕ) (injected : Bool) (t : Pattern) : Type 0 where
    steps : ℕ
    sort : SortId
    inner : Bool
    tree : Pattern
    kept : HasAt es (Whole sort tie inner) (tree ∷ [])
    path : Path w.signature steps sort inner tree s injected t

  itself : (i j : ℕ) (es : List Entry) (s : SortId) (tie : Option ℕ) (injected : Bool) (t : Pattern) → HasAt es (Whole s tie injected) (t ∷ [])
      → Risen i j es s tie injected t
  itself i j es s tie injected t p = record { steps = 0; sort = s; inner = injected; tree = t; kept = p; path = none s injected t }

  not_last : (o : Operator) (i j : ℕ) (ts : List Pattern) → is_injection o ≡ false → LastHole o i j 0 0 ts → ⊥
  not_last o i j ts is L = no_true (sym is ∙ one_hole o.pieces (sym L.all_pieces) (hole_in o 1 1 L.sort L.tie L.fits))

  reads-risen : (i j : ℕ) (s : SortId) (tie : Option ℕ) (injected : Bool) (t : Pattern) → R i j s tie injected t → (G : Given i j)
      → Risen i j (direct_of G) s tie injected t
  reads-risen _ _ _ _ _ _ (variable i n token v at a b c) G =
      let same : token ≡ G.first = some_one token G.first (sym at ∙ G.here) in
      let e : suc i ≡ suc G.l = G.is_end in let f : i + length G.fronts ≡ G.l = G.count in
      itself i (suc i) (direct_of G) v.sort None false _ (offered G _ _ (at_first _ _ G.before G.first G.last G.fronts G.below (omega arith)
      (append-left _ _ (token_offers w.signature w.variables G.first) (word_offers w.signature G.before G.first w.ends)
      (subst (λ x. HasAt (token_offers w.signature w.variables x) (Whole v.sort None false) _) same
      (tokens-have-variable w.signature w.variables n token v a b c)))))
  reads-risen _ _ _ _ _ _ (number i token s at a b) G =
      let same : token ≡ G.first = some_one token G.first (sym at ∙ G.here) in
      let e : suc i ≡ suc G.l = G.is_end in let f : i + length G.fronts ≡ G.l = G.count in
      itself i (suc i) (direct_of G) s None false _ (offered G _ _ (at_first _ _ G.before G.first G.last G.fronts G.below (omega arith)
      (append-left _ _ (token_offers w.signature w.variables G.first) (word_offers w.signature G.before G.first w.ends)
      (subst (λ x. HasAt (token_offers w.signature w.variables x) (Whole s None false) _) same
      (tokens-have-number w.signature w.variables s token a b)))))
  reads-risen _ _ _ _ _ _ (minus i first token s at a there b c) G =
      let e : suc (suc i) ≡ suc G.l = G.is_end in let f : i + length G.fronts ≡ G.l = G.count in
      let at_l : suc i ≡ G.l = omega arith in let one : length G.fronts ≡ 1 = omega arith in
      let same_first : first ≡ G.first = some_one first G.first (sym at ∙ G.here) in
      let same_last : token ≡ G.last = some_one token G.last (sym there ∙ subst (λ x. slice_get tokens x ≡ Some G.last) (sym at_l) G.there) in
      itself i (suc (suc i)) (direct_of G) s None false _ (offered G _ _ (framed_first _ _ G.before G.first G.last G.fronts G.below (omega arith)
      (under _ _ (length G.fronts == 1) _ _ (ap (λ n. n == 1) one)
      (under _ _ (is_sign 45 G.first) _ _ (subst (λ x. is_sign 45 x ≡ true) same_first a)
      (subst (λ x. HasAt (integer_offers w.signature.int true x) (Whole s None false) _) same_last (integers-have true w.signature.int s token c b))))))
  reads-risen _ _ _ _ _ _ (operator i j op o ts at is f) G =
      by (step-has o i j 0 0 ts f G op at (spelling-occurs o i j ts f) (Whole o.sort (own_tie o) false) (app_pattern op ts ∷ []) (gives-whole G.before op o ts is))
    where
      by : HasAt (direct_of G) (Whole o.sort (own_tie o) false) (app_pattern op ts ∷ []) ⊎ LastHole o i j 0 0 ts
          → Risen i j (direct_of G) o.sort (own_tie o) false (app_pattern op ts)
      by (inl p) = itself i j (direct_of G) o.sort (own_tie o) false (app_pattern op ts) p
      by (inr L) = absurd (not_last o i j ts is L)
  reads-risen _ _ _ _ _ _ (injection i j op o s tie injected t at from r) G =
      let inside : Risen i j (direct_of G) s tie injected t = reads-risen i j s tie injected t r G in
      record {
        steps = suc inside.steps;
        sort = inside.sort;
        inner = inside.inner;
        tree = inside.tree;
        kept = inside.kept;
        path = longer w.signature inside.steps inside.sort s inside.inner injected inside.tree t op o inside.path at from;
      }
  reads-risen _ _ _ _ _ _ (group i j first last s tie injected t at a there b r) G =
      let e : suc j ≡ suc G.l = G.is_end in let f : i + length G.fronts ≡ G.l = G.count in
      let less : suc i < j = reads-less (suc i) j s tie injected t r in let inside : suc j ≤ length tokens = G.inside in
      let same_first : first ≡ G.first = some_one first G.first (sym at ∙ G.here) in
      let same_last : last ≡ G.last =
      let at_l : j ≡ G.l = omega arith in some_one last G.last (sym there ∙ subst (λ x. slice_get tokens x ≡ Some G.last) (sym at_l) G.there) in
      let not_one : (length G.fronts == 1) ≡ false = not_single (length G.fronts) (omega arith) in
      let inner : IsFull (slice_get tokens i) (suc i) j (run_in G.below (length G.fronts - 2)) =
      run_in-full (slice_get tokens i) (suc i) j (length G.fronts - 2) G.below G.under_it (omega arith) (omega arith) in
      itself i (suc j) (direct_of G) s None injected t (offered G _ _ (framed_first _ _ G.before G.first G.last G.fronts G.below (omega arith)
      (under_not _ _ (length G.fronts == 1) _ _ not_one
      (groups-have G.first G.last s tie injected t (subst (λ x. is_sign 40 x ≡ true) same_first a) (subst (λ x. is_sign 41 x ≡ true) same_last b)
      (run_in G.below (length G.fronts - 2)) (inner.trees s tie injected t r)))))
    where
      not_single : (n : ℕ) → 1 < n → (n == 1) ≡ false
      not_single n h = grind arith

  -- ---- a whole run

  wholes-have : (i j : ℕ) (G : Given i j) (s : SortId) (tie : Option ℕ) (injected : Bool) (t : Pattern) → R i j s tie injected t
      → HasAt (wholes w G.before G.first G.last G.fronts G.below) (Whole s tie injected) (t ∷ [])
  wholes-have i j G s tie injected t r =
      let up : Risen i j (direct_of G) s tie injected t = reads-risen i j s tie injected t r G in
      climb-has tie up.steps up.sort s up.inner injected up.tree t up.path w.signature.sorts
      (bounded up.steps up.sort s up.inner injected up.tree t up.path) (direct_of G) (put_all [] (direct_of G)) up.kept
      (put_all-has (Whole up.sort tie up.inner) (up.tree ∷ []) [] (direct_of G) up.kept)

  run-full : (i j : ℕ) (G : Given i j) → IsFull G.before i j (run w G.before G.first G.last G.fronts G.below)
  run-full i j G = record { trees = trees; rests = rests }
    where
      trees : (s : SortId) (tie : Option ℕ) (injected : Bool) (t : Pattern) → R i j s tie injected t
          → HasAt (run w G.before G.first G.last G.fronts G.below) (Whole s tie injected) (t ∷ [])
      trees s tie injected t r =
          put_all-keeps (Whole s tie injected) (t ∷ []) (wholes w G.before G.first G.last G.fronts G.below)
          (put_all [] (last_offers w.signature G.before w.lasts (wholes w G.before G.first G.last G.fronts G.below)))
          (wholes-have i j G s tie injected t r)

      rests : (op : OpId) (o : Operator) (k h : ℕ) (ts : List Pattern) → slice_get w.signature.operators op.0 ≡ Some o → may_occur tokens o ≡ true
          → fits_before o k G.before ≡ true → F o i j (suc k) h ts
          → HasAt (run w G.before G.first G.last G.fronts G.below) (Rest op (suc k) h) ts
      rests op o k h ts at occ fits f =
          by (step-has o i j (suc k) h ts f G op at occ (Rest op (suc k) h) ts (gives-rest G.before op o k h ts fits))
        where
          by : HasAt (direct_of G) (Rest op (suc k) h) ts ⊎ LastHole o i j (suc k) h ts
              → HasAt (run w G.before G.first G.last G.fronts G.below) (Rest op (suc k) h) ts
          by (inl p) =
              put_all-keeps (Rest op (suc k) h) ts (wholes w G.before G.first G.last G.fronts G.below)
              (put_all [] (last_offers w.signature G.before w.lasts (wholes w G.before G.first G.last G.fronts G.below)))
              (climb-keeps (Rest op (suc k) h) ts w.signature.sorts (direct_of G) (put_all [] (direct_of G)) (put_all-has (Rest op (suc k) h) ts [] (direct_of G) p))
          by (inr L) =
              put_all-has (Rest op (suc k) h) ts (wholes w G.before G.first G.last G.fronts G.below)
              (put_all [] (last_offers w.signature G.before w.lasts (wholes w G.before G.first G.last G.fronts G.below)))
              (put_all-has (Rest op (suc k) h) ts [] (last_offers w.signature G.before w.lasts (wholes w G.before G.first G.last G.fronts G.below))
              (subst (λ us. HasAt (last_offers w.signature G.before w.lasts (wholes w G.before G.first G.last G.fronts G.below)) (Rest op (suc k) h) us) (sym L.is)
              (lasts-have w.signature G.before op o at (Rest op (suc k) h) (L.tree ∷ []) (suc k) h L.sort L.tie L.injected L.tree L.fits L.all_pieces L.all_args
              (gives-rest G.before op o k h (L.tree ∷ []) fits) w.lasts
              (lasted op o L.sort at occ (last-is o k h L.sort L.tie L.fits L.all_pieces L.all_args))
              (wholes w G.before G.first G.last G.fronts G.below) (wholes-have i j G L.sort L.tie L.injected L.tree L.reads))))

  -- ---- rows

  get-front : (r : List (List Entry)) (es : List Entry) (n : ℕ) → n < length r → slice_get (r ++ es ∷ []) n ≡ slice_get r n
  get-front [] es n less = absurd (omega arith)
  get-front (d ∷ ds) es zero less = refl
  get-front (d ∷ ds) es (suc n) less = get-front ds es n (omega arith)

  get-last : (r : List (List Entry)) (es : List Entry) → slice_get (r ++ es ∷ []) (length r) ≡ Some es
  get-last [] es = refl
  get-last (d ∷ ds) es = get-last ds es

  snoc-full : (before : Option Lexeme) (i : ℕ) (r : List (List Entry)) (es : List Entry) → IsFullRow before i r → IsFull before i (suc i + length r) es
      → IsFullRow before i (r ++ es ∷ [])
  snoc-full before i r es full next n less =
      by (below_or_at n (length r) (let l : length (r ++ es ∷ []) ≡ length r + 1 = length-append r (es ∷ []) in omega arith))
    where
      by : (n < length r) ⊎ (n ≡ length r) → IsFull before i (suc i + n) (run_or (slice_get (r ++ es ∷ []) n))
      by (inl q) = subst (λ x. IsFull before i (suc i + n) (run_or x)) (sym (get-front r es n q)) (full n q)
      by (inr q) = subst (λ x. IsFull before i (suc i + x) (run_or (slice_get (r ++ es ∷ []) x))) (sym q)
          (subst (λ x. IsFull before i (suc i + length r) (run_or x)) (sym (get-last r es)) next)

  row-made : (i : ℕ) (before : Option Lexeme) (first : Lexeme) → slice_get tokens i ≡ Some first → (below : List (List (List Entry)))
      → AreFullRows (slice_get tokens i) (suc i) below → (l : ℕ) (lasts : List Lexeme)
      → ((k : ℕ) (t : Lexeme) → slice_get lasts k ≡ Some t → slice_get tokens (k + l) ≡ Some t) → l + length lasts ≡ length tokens
      → (fronts : List (List Entry)) → IsFullRow before i fronts → i + length fronts ≡ l
      → IsFullRow before i (row w before first lasts below fronts)
      × (i + length (row w before first lasts below fronts) ≡ length tokens)
  row-made i before first here below under_it l [] all whole fronts full count = (full, omega arith)
  row-made i before first here below under_it l (last ∷ lasts) all whole fronts full count =
      row-made i before first here below under_it (suc l) lasts
      (λ k t q. subst (λ x. slice_get tokens x ≡ Some t) (one_later k l) (all (suc k) t q)) (omega arith)
      (fronts ++ run w before first last fronts below ∷ [])
      (snoc-full before i fronts (run w before first last fronts below) full
      (subst (λ x. IsFull before i x (run w before first last fronts below)) (omega arith)
      (run-full i (suc l) (record {
        before = before;
        first = first;
        last = last;
        l = l;
        is_end = refl;
        here = here;
        there = subst (λ x. slice_get tokens x ≡ Some last) (zero_more l) (all 0 last refl);
        inside = omega arith;
        below = below;
        under_it = under_it;
        fronts = fronts;
        count = count;
        full = full;
      }))))
      (omega (arith, length-append fronts (run w before first last fronts below ∷ [])))
    where
      zero_more : (n : ℕ) → 0 + n ≡ n
      zero_more n = omega arith

      one_later : (k n : ℕ) → suc k + n ≡ k + suc n
      one_later k n = omega arith

  pub rows-full : (i : ℕ) (before : Option Lexeme) (toks : List Lexeme) → ((k : ℕ) (t : Lexeme) → slice_get toks k ≡ Some t → slice_get tokens (k + i) ≡ Some t)
      → i + length toks ≡ length tokens → AreFullRows before i (rows w before toks)
  rows-full i before [] all whole = omega arith
  rows-full i before (first ∷ rest) all whole =
      let here : slice_get tokens i ≡ Some first = subst (λ x. slice_get tokens x ≡ Some first) (zero_more i) (all 0 first refl) in
      let under_it : AreFullRows (slice_get tokens i) (suc i) (rows w (Some first) rest) =
      subst (λ x. AreFullRows x (suc i) (rows w (Some first) rest)) (sym here)
      (rows-full (suc i) (Some first) rest (λ k t q. subst (λ x. slice_get tokens x ≡ Some t) (one_later k i) (all (suc k) t q)) (omega arith)) in
      let made : _ = row-made i before first here (rows w (Some first) rest) under_it i (first ∷ rest) all whole [] (λ n less. absurd (omega arith)) (omega arith) in
      (made.0, made.1, under_it)
    where
      zero_more : (n : ℕ) → 0 + n ≡ n
      zero_more n = omega arith

      one_later : (k n : ℕ) → suc k + n ≡ k + suc n
      one_later k n = omega arith
