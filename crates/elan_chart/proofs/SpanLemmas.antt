-- The readings of a run of tokens are those of the run from its place up to its end.
use Rattle.std.proofs.Common.{◌≡◌, refl, sym, ap, subst, ◌∙◌, ℕ, zero, suc, ◌+◌, ◌-◌, ◌<◌, ◌≤◌, ℤ, pos, neg_ℤ, Bool, true, false, ◌&&◌, ◌==◌, nat_lt, if◌then◌else◌, Option, None, Some, List, [], ◌∷◌, ◌++◌, map, slice_get, length, length-append, arith}
use Rattle.std.specs.Str.{bytes_eq}
use Rattle.std.proofs.lemmas.Slice.Eq.{bytes_eq-Decides}
use Rattle.elan_lexer.specs.declared.token.Kind.{Kind}
use Rattle.elan_lexer.specs.declared.token.Kind.TheVariants.{Word, Number, Sign}
use Rattle.elan_lexer.specs.Bytes.{value}
use Rattle.elan_terms.specs.declared.tree.OpId.{OpId}
use Rattle.elan_terms.specs.declared.tree.SortId.{SortId}
use Rattle.elan_terms.specs.declared.tree.Pattern.{Pattern}
use Rattle.std.proofs.lemmas.Option.{slice_get_past, slice_get_within, slice_get-get_or, get_or_from_slice_get}
use Rattle.elan_terms.proofs.TreeLemmas.{fold_pattern-app}
use Rattle.elan_program.specs.declared.signature.Piece.{Piece}
use Rattle.elan_program.specs.declared.signature.Piece.TheVariants as piece
use Rattle.elan_program.specs.declared.signature.Operator.{Operator}
use Rattle.elan_program.specs.declared.signature.Signature.{Signature}
use Rattle.elan_reading.specs.declared.lexeme.Lexeme.{Lexeme}
use Rattle.elan_reading.specs.declared.lexeme.Variable.{Variable}
use Rattle.elan_program.specs.Extension.{var_pattern, int_pattern, app_pattern}
use Rattle.elan_reading.specs.Edge.{is_injection, own_tie, tie_of, side_of, fits}
use Rattle.elan_terms.specs.Match.{is_sort}
use Rattle.elan_entries.specs.Lexemes.{is_word_kind, is_number_kind, is_sign_kind, is_sign}
use Rattle.elan_entries.specs.Pieces.{takes_hole, fits_arg, fits_hole, position_at, side_before, is_hole_of, is_its_word, is_hole_at, is_word_at, is_arg_at, is_injection_from}
use Rattle.elan_reading.specs.declared.edge.Position.{Position}
use Rattle.elan_reading.specs.declared.edge.Position.TheVariants.{First, Later}
use Rattle.elan_reading.specs.declared.edge.Side.TheVariants.{Left, Inner, Right}
use Rattle.elan_reading.specs.Lexemes.{word_token, number_token, sign_token}
use Rattle.elan_reading.specs.Readings as run
use Rattle.elan_reading.specs.Readings.{passed, head, is_allowed}
use Rattle.elan_reading.specs.Answers.{is_injection_of, is_injected}
use Rattle.elan_chart.specs.Spans as span
use Rattle.elan_entries.proofs.SameLemmas.{both_true, nat_same, nat_self}
use Rattle.elan_chart.proofs.StepsGood.{some_one}
use Rattle.elan_chart.proofs.StepsFull.{and_true, less_one}

no_true : false ≡ true → ⊥
no_true f = cc

no_none : {A : Type 0} (x : A) → None ≡ Some x → ⊥
no_none x f = cc

not_one : (k : ℕ) → (suc (suc k) == 1) ≡ false
not_one k = grind arith

-- ---- heads and ties

-- the priority that the edge rule looks at; none for a grouped tree
abbrev pub tree_tie : Signature → Pattern → Bool → Option ℕ
tree_tie g t grouped = if grouped then None else tie_of (head g t)

pub allowed-tie : (g : Signature) (o : Operator) (position : Position) (ps : List Piece) (t : Pattern) (grouped : Bool)
    → is_allowed g o position ps t grouped ≡ fits o (side_of position ps) (tree_tie g t grouped)
allowed-tie g o position ps t true = refl
allowed-tie g o position ps t false = refl

-- the side by the place of a piece
side-place : (o : Operator) (k : ℕ) (ps : List Piece) → k + suc (length ps) ≡ length o.pieces → side_of (position_at k) ps ≡ side_before o (suc k)
side-place o zero ps e = refl
side-place o (suc k) [] e = by (suc (suc k) == length o.pieces) refl
  where
    by : (b : Bool) → (suc (suc k) == length o.pieces) ≡ b → Right ≡ (if suc (suc k) == 1 then Left else if b then Right else Inner)
    by true q = sym (ap (λ c. if c then Left else Right) (not_one k))
    by false q = absurd (grind arith)
side-place o (suc k) (p ∷ ps) e = by (suc (suc k) == length o.pieces) refl
  where
    by : (b : Bool) → (suc (suc k) == length o.pieces) ≡ b → Inner ≡ (if suc (suc k) == 1 then Left else if b then Right else Inner)
    by true q = absurd (grind arith)
    by false q = sym (ap (λ c. if c then Left else Inner) (not_one k))

module _ (g : Signature) (op : OpId) (o : Operator) (at : slice_get g.operators op.0 ≡ Some o) where
  head-operator : (ts : List Pattern) → is_injection o ≡ false → head g (app_pattern op ts) ≡ Some o
  unfolding head
  head-operator ts is =
      fold_pattern-app (λ _ _. None) (λ _. None) (λ op below. passed g (slice_get g.operators op.0) below) op ts
      ∙ ap (λ x. passed g x (map (head g) ts)) at ∙ stays (map (head g) ts)
    where
      stays : (bs : List (Option Operator)) → passed g (Some o) bs ≡ Some o
      stays [] = refl
      stays (b ∷ bs) = ap (λ i. if i then b else Some o) is

  head-injection : (t : Pattern) → is_injection o ≡ true → head g (app_pattern op (t ∷ [])) ≡ head g t
  unfolding head
  head-injection t is =
      fold_pattern-app (λ _ _. None) (λ _. None) (λ op below. passed g (slice_get g.operators op.0) below) op (t ∷ [])
      ∙ ap (λ x. passed g x (head g t ∷ [])) at ∙ ap (λ i. if i then head g t else Some o) is

  injected-app : (ts : List Pattern) → is_injected g (app_pattern op ts) ≡ is_injection o
  injected-app ts = ap is_injection_of at

-- ---- places in lists

abbrev pub IsAt : {A : Type 0} → List A → ℕ → List A → Type 0
IsAt {A} all i xs = (k : ℕ) (x : A) → slice_get xs k ≡ Some x → slice_get all (k + i) ≡ Some x

module _ {A : Type 0} (all : List A) where
  at-head : (i : ℕ) (x : A) (xs : List A) → IsAt all i (x ∷ xs) → slice_get all i ≡ Some x
  at-head i x xs p = subst (λ n. slice_get all n ≡ Some x) (zero_more i) (p 0 x refl)
    where
      zero_more : (n : ℕ) → 0 + n ≡ n
      zero_more n = omega arith

  at-tail : (i : ℕ) (x : A) (xs : List A) → IsAt all i (x ∷ xs) → IsAt all (suc i) xs
  at-tail i x xs p k y e = subst (λ n. slice_get all n ≡ Some y) (one_later k i) (p (suc k) y e)
    where
      one_later : (k n : ℕ) → suc k + n ≡ k + suc n
      one_later k n = omega arith

  at-cons : (i : ℕ) (x : A) (xs : List A) → slice_get all i ≡ Some x → IsAt all (suc i) xs → IsAt all i (x ∷ xs)
  at-cons i x xs h p zero y e = subst (λ n. slice_get all n ≡ Some y) (zero_more i) (h ∙ e)
    where
      zero_more : (n : ℕ) → n ≡ 0 + n
      zero_more n = omega arith
  at-cons i x xs h p (suc k) y e = subst (λ n. slice_get all n ≡ Some y) (one_earlier k i) (p k y e)
    where
      one_earlier : (k n : ℕ) → k + suc n ≡ suc k + n
      one_earlier k n = omega arith

  at-nil : (i : ℕ) → IsAt all i []
  at-nil i k y e = absurd (no_none y e)

  at-front : (i : ℕ) (xs ys : List A) → IsAt all i (xs ++ ys) → IsAt all i xs
  at-front i [] ys p = at-nil i
  at-front i (x ∷ xs) ys p = at-cons i x xs (at-head i x (xs ++ ys) p) (at-front (suc i) xs ys (at-tail i x (xs ++ ys) p))

  at-back : (i : ℕ) (xs ys : List A) → IsAt all i (xs ++ ys) → (j : ℕ) → j ≡ i + length xs → IsAt all j ys
  at-back i [] ys p j e = let f : i ≡ j = omega arith in subst (λ n. IsAt all n ys) f p
  at-back i (x ∷ xs) ys p j e = at-back (suc i) xs ys (at-tail i x (xs ++ ys) p) j (omega arith)

  at-append : (i : ℕ) (xs ys : List A) → IsAt all i xs → (j : ℕ) → j ≡ i + length xs → IsAt all j ys → IsAt all i (xs ++ ys)
  at-append i [] ys p j e q = let f : j ≡ i = omega arith in subst (λ n. IsAt all n ys) f q
  at-append i (x ∷ xs) ys p j e q = at-cons i x (xs ++ ys) (at-head i x xs p) (at-append (suc i) xs ys (at-tail i x xs p) j (omega arith) q)

  at-all : IsAt all 0 all
  at-all k x e = subst (λ n. slice_get all n ≡ Some x) (plus_zero k) e
    where
      plus_zero : (n : ℕ) → n ≡ n + 0
      plus_zero n = omega arith

pub at-same : {A : Type 0} (xs ys : List A) → IsAt ys 0 xs → length xs ≡ length ys → xs ≡ ys
at-same [] [] p e = refl
at-same [] (y ∷ ys) p e = absurd (omega arith)
at-same (x ∷ xs) [] p e = absurd (omega arith)
at-same {A} (x ∷ xs) (y ∷ ys) p e =
    let first : y ≡ x = some_one y x (at-head (y ∷ ys) 0 x xs p) in
    ap (λ z. z ∷ xs) (sym first) ∙ ap (λ zs. y ∷ zs) (at-same xs ys rest (omega arith))
  where
    rest : IsAt ys 0 xs
    rest k z q = subst (λ n. slice_get (y ∷ ys) n ≡ Some z) (one_more k) (p (suc k) z q)
      where
        one_more : (k : ℕ) → suc k + 0 ≡ suc (k + 0)
        one_more k = omega arith

-- ---- tokens

same_text : (a b : List ℕ) → a ≡ b → bytes_eq a b ≡ true
same_text a b e = (bytes_eq-Decides a b).1 e

text_same : (a b : List ℕ) → bytes_eq a b ≡ true → a ≡ b
text_same a b e = (bytes_eq-Decides a b).0 e

word_kind : (k : Kind) → is_word_kind k ≡ true → k ≡ Word
word_kind Word e = refl
word_kind Number e = absurd (no_true e)
word_kind Sign e = absurd (no_true e)

number_kind : (k : Kind) → is_number_kind k ≡ true → k ≡ Number
number_kind Word e = absurd (no_true e)
number_kind Number e = refl
number_kind Sign e = absurd (no_true e)

sign_kind : (k : Kind) → is_sign_kind k ≡ true → k ≡ Sign
sign_kind Word e = absurd (no_true e)
sign_kind Number e = absurd (no_true e)
sign_kind Sign e = refl

is-sign : (byte : ℕ) (t : Lexeme) → is_sign byte t ≡ true → t ≡ sign_token byte
is-sign byte t e =
    let two : _ = both_true (is_sign_kind t.kind) (bytes_eq t.text (byte ∷ [])) e in
    ap (λ k. record { kind = k; text = t.text }) (sign_kind t.kind two.0) ∙ ap (λ x. record { kind = Sign; text = x }) (text_same t.text (byte ∷ []) two.1)

sign-is : (byte : ℕ) → is_sign byte (sign_token byte) ≡ true
sign-is byte = same_text (byte ∷ []) (byte ∷ []) refl

-- ---- from the run to its place

-- the piece that is next is one of the operator's
abbrev IsRest : Operator → ℕ → List Piece → Type 0
IsRest o k ps = IsAt o.pieces k ps × (k + length ps ≡ length o.pieces)

abbrev IsRestArgs : Operator → ℕ → List SortId → Type 0
IsRestArgs o h ss = IsAt o.args h ss × (h + length ss ≡ length o.args)

one_arg : (g : Signature) (o : Operator) (s : SortId) → is_injection o ≡ true → o.args ≡ s ∷ [] → is_injection_from o s ≡ true
one_arg g o s is e =
    and_true (is_injection o) ((length o.args == 1) && is_arg_at o 0 s) is
    (subst (λ xs. ((length xs == 1) && is_sort (slice_get xs 0) s) ≡ true) (sym e) (nat_self s.0))

the_arg : (ss : List SortId) (s : SortId) → (length ss == 1) ≡ true → is_sort (slice_get ss 0) s ≡ true → ss ≡ s ∷ []
the_arg [] s a b = absurd (no_true b)
the_arg (r ∷ []) s a b = ap (λ n. record { 0 = n } ∷ []) (nat_same r.0 s.0 b)
the_arg (r ∷ q ∷ rs) s a b = absurd (let e : length (r ∷ q ∷ rs) ≡ 1 = nat_same (length (r ∷ q ∷ rs)) 1 a in omega arith)

is_more_than : (k : ℕ) → nat_lt 0 (suc k) ≡ true
is_more_than k = grind arith

var-head : (g : Signature) (x : ℕ) (s : SortId) → head g (var_pattern x s) ≡ None
unfolding head
var-head g x s = refl

int-head : (g : Signature) (z : ℤ) → head g (int_pattern z) ≡ None
unfolding head
int-head g z = refl

var-injected : (g : Signature) (x : ℕ) (s : SortId) → is_injected g (var_pattern x s) ≡ false
var-injected g x s = refl

int-injected : (g : Signature) (z : ℤ) → is_injected g (int_pattern z) ≡ false
int-injected g z = refl

tie-injection : (g : Signature) (op : OpId) (o : Operator) → slice_get g.operators op.0 ≡ Some o → is_injection o ≡ true → (t : Pattern) (grouped : Bool)
    → tree_tie g t grouped ≡ tree_tie g (app_pattern op (t ∷ [])) grouped
tie-injection g op o at is t true = refl
tie-injection g op o at is t false = ap tie_of (sym (head-injection g op o at t is))

no_piece : (k : ℕ) (o : Operator) (token : Lexeme) → length o.pieces ≤ k → is_word_at o k token ≡ true → ⊥
no_piece k o token le e = no_true (sym (ap (λ x. is_its_word x token) (slice_get_past o.pieces k le)) ∙ e)

no_hole : (k : ℕ) (o : Operator) → length o.pieces ≤ k → is_hole_at o k ≡ true → ⊥
no_hole k o le e = no_true (sym (ap is_hole_of (slice_get_past o.pieces k le)) ∙ e)

no_arg : (h : ℕ) (o : Operator) (s : SortId) → length o.args ≤ h → is_arg_at o h s ≡ true → ⊥
no_arg h o s le e = no_true (sym (ap (λ x. is_sort x s) (slice_get_past o.args h le)) ∙ e)

module _ (g : Signature) (vs : List Variable) (tokens : List Lexeme) where
  abbrev R : ℕ → ℕ → SortId → Option ℕ → Bool → Pattern → Type 0
  R = span.Reads g vs tokens

  moved : (i j j' : ℕ) (s : SortId) (tie tie' : Option ℕ) (injected injected' : Bool) (t : Pattern) → j' ≡ j → tie' ≡ tie → injected' ≡ injected
      → R i j' s tie' injected' t → R i j s tie injected t
  moved i j j' s tie tie' injected injected' t a b c r =
      subst (λ x. R i x s tie injected t) a (subst (λ x. R i j' s x injected t) b (subst (λ x. R i j' s tie' x t) c r))

  mutual
    pub reads-span : (s : SortId) (xs : List Lexeme) (t : Pattern) (grouped : Bool) → run.Reads g vs s xs t grouped → (i j : ℕ) → IsAt tokens i xs → j ≡ i + length xs
        → R i j s (tree_tie g t grouped) (is_injected g t) t
    reads-span _ _ _ _ (run.variable v among) i j p e =
        let n : ℕ = among.0 in let at : slice_get vs n ≡ Some v = slice_get-get_or vs n v among.1 ∙ ap (λ w. Some w) among.2 in
        moved i j (suc i) v.sort (tree_tie g (var_pattern v.number v.sort) false) None (is_injected g (var_pattern v.number v.sort)) false (var_pattern v.number v.sort)
        (omega arith) (sym (ap tie_of (var-head g v.number v.sort))) (sym (var-injected g v.number v.sort))
        (span.variable i n (word_token v.name.bytes) v (at-head tokens i (word_token v.name.bytes) [] p) refl (same_text v.name.bytes v.name.bytes refl) at)
    reads-span _ _ _ _ (run.number s digits int) i j p e =
        moved i j (suc i) s (tree_tie g (int_pattern (pos (value digits))) false) None (is_injected g (int_pattern (pos (value digits)))) false (int_pattern (pos (value digits)))
        (omega arith) (sym (ap tie_of (int-head g (pos (value digits))))) (sym (int-injected g (pos (value digits))))
        (span.number i (number_token digits) s (at-head tokens i (number_token digits) [] p) refl int)
    reads-span _ _ _ _ (run.minus s digits int) i j p e =
        moved i j (suc (suc i)) s (tree_tie g (int_pattern (neg_ℤ (pos (value digits)))) false) None (is_injected g (int_pattern (neg_ℤ (pos (value digits))))) false
        (int_pattern (neg_ℤ (pos (value digits))))
        (omega arith) (sym (ap tie_of (int-head g (neg_ℤ (pos (value digits)))))) (sym (int-injected g (neg_ℤ (pos (value digits)))))
        (span.minus i (sign_token 45) (number_token digits) s (at-head tokens i (sign_token 45) (number_token digits ∷ []) p) (sign-is 45)
        (at-head tokens (suc i) (number_token digits) [] (at-tail tokens i (sign_token 45) (number_token digits ∷ []) p)) refl int)
    reads-span _ _ _ _ (run.operator op o xs ts at is f) i j p e =
        moved i j j o.sort (tree_tie g (app_pattern op ts) false) (own_tie o) (is_injected g (app_pattern op ts)) false (app_pattern op ts)
        refl (sym (ap tie_of (head-operator g op o at ts is))) (sym (injected-app g op o at ts ∙ is))
        (span.operator i j op o ts at is
        (fills-span o First o.pieces o.args xs ts f i j 0 0 p e (at-all o.pieces, omega arith) (at-all o.args, omega arith) refl))
    reads-span _ _ _ _ (run.injection op o s xs t grouped at is args r) i j p e =
        moved i j j o.sort (tree_tie g (app_pattern op (t ∷ [])) grouped) (tree_tie g t grouped) (is_injected g (app_pattern op (t ∷ []))) true (app_pattern op (t ∷ []))
        refl (tie-injection g op o at is t grouped) (sym (injected-app g op o at (t ∷ []) ∙ is))
        (span.injection i j op o s (tree_tie g t grouped) (is_injected g t) t at (one_arg g o s is args) (reads-span s xs t grouped r i j p e))
    reads-span _ _ _ _ (run.group s xs t grouped r) i j p e =
        let inner : IsAt tokens (suc i) (xs ++ sign_token 41 ∷ []) = at-tail tokens i (sign_token 40) (xs ++ sign_token 41 ∷ []) p in
        let size : length (xs ++ sign_token 41 ∷ []) ≡ length xs + 1 = length-append xs (sign_token 41 ∷ []) in
        moved i j (suc (suc i + length xs)) s None None (is_injected g t) (is_injected g t) t (omega arith) refl refl
        (span.group i (suc i + length xs) (sign_token 40) (sign_token 41) s (tree_tie g t grouped) (is_injected g t) t
        (at-head tokens i (sign_token 40) (xs ++ sign_token 41 ∷ []) p) (sign-is 40)
        (at-head tokens (suc i + length xs) (sign_token 41) [] (at-back tokens (suc i) xs (sign_token 41 ∷ []) inner (suc i + length xs) refl)) (sign-is 41)
        (reads-span s xs t grouped r (suc i) (suc i + length xs) (at-front tokens (suc i) xs (sign_token 41 ∷ []) inner) refl))

    fills-span : (o : Operator) (position : Position) (ps : List Piece) (ss : List SortId) (xs : List Lexeme) (ts : List Pattern) → run.Fills g vs o position ps ss xs ts
        → (i j k h : ℕ) → IsAt tokens i xs → j ≡ i + length xs → IsRest o k ps → IsRestArgs o h ss → position ≡ position_at k
        → span.Fills g vs tokens o i j k h ts
    fills-span _ _ _ _ _ _ (run.done o position) i j k h p e q r b =
        let f : i ≡ j = omega arith in
        let all_pieces : k + 0 ≡ length o.pieces = q.1 in let all_args : h + 0 ≡ length o.args = r.1 in
        subst (λ x. span.Fills g vs tokens o i x k h []) f (span.done o i k h (omega arith) (omega arith))
    fills-span _ _ _ _ _ _ (run.word o position name ps ss token xs ts same f) i j k h p e q r b =
        let all_pieces : k + suc (length ps) ≡ length o.pieces = q.1 in
        span.word o i j k h token ts (at-head tokens i token xs p)
        (subst (λ x. is_its_word x token ≡ true) (sym (at-head o.pieces k (piece.Word name) ps q.0)) (same_text name.bytes token.text (sym same)))
        (fills-span o Later ps ss xs ts f (suc i) j (suc k) h (at-tail tokens i token xs p) (omega arith)
        (at-tail o.pieces k (piece.Word name) ps q.0, omega arith) r refl)
    fills-span _ _ _ _ _ _ (run.hole o position ps s ss part xs t grouped ts some rd may f) i j k h p e q r b =
        let all_pieces : k + suc (length ps) ≡ length o.pieces = q.1 in let all_args : h + suc (length ss) ≡ length o.args = r.1 in
        let size : length (part ++ xs) ≡ length part + length xs = length-append part xs in
        let allowed : fits o (side_before o (suc k)) (tree_tie g t grouped) ≡ true =
        subst (λ x. fits o x (tree_tie g t grouped) ≡ true) (ap (λ x. side_of x ps) b ∙ side-place o k ps all_pieces)
        (sym (allowed-tie g o position ps t grouped) ∙ may) in
        span.hole o i (i + length part) j k h s (tree_tie g t grouped) (is_injected g t) t ts (omega arith)
        (and_true (takes_hole o (suc k) (suc h)) (fits_arg o (suc k) (suc h) s (tree_tie g t grouped))
        (and_true (nat_lt 0 (suc k) && nat_lt 0 (suc h)) (is_hole_at o (suc k - 1))
        (and_true (nat_lt 0 (suc k)) (nat_lt 0 (suc h)) (is_more_than k) (is_more_than h))
        (subst (λ n. is_hole_at o n ≡ true) (sym (less_one k)) (ap is_hole_of (at-head o.pieces k piece.Hole ps q.0))))
        (and_true (is_arg_at o (suc h - 1) s) (fits o (side_before o (suc k)) (tree_tie g t grouped))
        (subst (λ n. is_arg_at o n s ≡ true) (sym (less_one h)) (ap (λ x. is_sort x s) (at-head o.args h s ss r.0) ∙ nat_self s.0))
        allowed))
        (reads-span s part t grouped rd i (i + length part) (at-front tokens i part xs p) refl)
        (fills-span o Later ps ss xs ts f (i + length part) j (suc k) (suc h) (at-back tokens i part xs p (i + length part) refl) (omega arith)
        (at-tail o.pieces k piece.Hole ps q.0, omega arith) (at-tail o.args h s ss r.0, omega arith) refl)

  -- ---- from a place to the run

  pub record IsReadAs (i j : ℕ) (s : SortId) (tie : Option ℕ) (injected : Bool) (t : Pattern) : Type 0 where
    pub xs : List Lexeme
    pub grouped : Bool
    pub placed : IsAt tokens i xs
    pub ends : i + length xs ≡ j
    pub reads : run.Reads g vs s xs t grouped
    pub its_tie : tie ≡ tree_tie g t grouped
    pub its_head : injected ≡ is_injected g t

  record IsFilledAs (o : Operator) (i j k : ℕ) (ps : List Piece) (ss : List SortId) (ts : List Pattern) : Type 0 where
    xs : List Lexeme
    placed : IsAt tokens i xs
    ends : i + length xs ≡ j
    fills : run.Fills g vs o (position_at k) ps ss xs ts

  word-filled : (o : Operator) (i j k h : ℕ) (token : Lexeme) (ts : List Pattern) → slice_get tokens i ≡ Some token → is_word_at o k token ≡ true
      → (ps : List Piece) (ss : List SortId) → IsRest o k ps
      → ((qs : List Piece) → IsRest o (suc k) qs → IsFilledAs o (suc i) j (suc k) qs ss ts) → IsFilledAs o i j k ps ss ts
  word-filled o i j k h token ts at is [] ss q later = absurd (no_piece k o token (let e : k + 0 ≡ length o.pieces = q.1 in omega arith) is)
  word-filled o i j k h token ts at is (piece.Hole ∷ ps) ss q later =
      absurd (no_true (sym (ap (λ x. is_its_word x token) (at-head o.pieces k piece.Hole ps q.0)) ∙ is))
  word-filled o i j k h token ts at is (piece.Word name ∷ ps) ss q later =
      let all_pieces : k + suc (length ps) ≡ length o.pieces = q.1 in
      let F : IsFilledAs o (suc i) j (suc k) ps ss ts = later ps (at-tail o.pieces k (piece.Word name) ps q.0, omega arith) in
      let size : suc i + length F.xs ≡ j = F.ends in
      record {
        xs = token ∷ F.xs;
        placed = at-cons tokens i token F.xs at F.placed;
        ends = omega arith;
        fills = run.word o (position_at k) name ps ss token F.xs ts
            (sym (text_same name.bytes token.text (sym (ap (λ x. is_its_word x token) (at-head o.pieces k (piece.Word name) ps q.0)) ∙ is)))
            F.fills;
      }

  hole-filled : (o : Operator) (i m j k h : ℕ) (s : SortId) (tie : Option ℕ) (injected : Bool) (t : Pattern) (ts : List Pattern) → i < m
      → fits_hole o (suc k) (suc h) s tie ≡ true → IsReadAs i m s tie injected t → (ps : List Piece) (ss : List SortId) → IsRest o k ps → IsRestArgs o h ss
      → ((qs : List Piece) (rs : List SortId) → IsRest o (suc k) qs → IsRestArgs o (suc h) rs → IsFilledAs o m j (suc k) qs rs ts)
      → IsFilledAs o i j k ps ss (t ∷ ts)
  hole-filled o i m j k h s tie injected t ts some can A ps ss q r later =
      let two : _ = both_true (takes_hole o (suc k) (suc h)) (fits_arg o (suc k) (suc h) s tie) can in
      let hole : _ = both_true (nat_lt 0 (suc k) && nat_lt 0 (suc h)) (is_hole_at o (suc k - 1)) two.0 in
      let arg : _ = both_true (is_arg_at o (suc h - 1) s) (fits o (side_before o (suc k)) tie) two.1 in
      by ps ss q r (subst (λ n. is_hole_at o n ≡ true) (less_one k) hole.1) (subst (λ n. is_arg_at o n s ≡ true) (less_one h) arg.0) arg.1
    where
      by : (ps : List Piece) (ss : List SortId) → IsRest o k ps → IsRestArgs o h ss → is_hole_at o k ≡ true → is_arg_at o h s ≡ true
          → fits o (side_before o (suc k)) tie ≡ true → IsFilledAs o i j k ps ss (t ∷ ts)
      by [] ss q r a b c = absurd (no_hole k o (let e : k + 0 ≡ length o.pieces = q.1 in omega arith) a)
      by (piece.Word name ∷ ps) ss q r a b c = absurd (no_true (sym (ap is_hole_of (at-head o.pieces k (piece.Word name) ps q.0)) ∙ a))
      by (piece.Hole ∷ ps) [] q r a b c = absurd (no_arg h o s (let e : h + 0 ≡ length o.args = r.1 in omega arith) b)
      by (piece.Hole ∷ ps) (z ∷ ss) q r a b c =
          let all_pieces : k + suc (length ps) ≡ length o.pieces = q.1 in let all_args : h + suc (length ss) ≡ length o.args = r.1 in
          let same : s ≡ z = ap (λ n. record { 0 = n }) (sym (nat_same z.0 s.0 (sym (ap (λ x. is_sort x s) (at-head o.args h z ss r.0)) ∙ b))) in
          let F : IsFilledAs o m j (suc k) ps ss ts =
          later ps ss (at-tail o.pieces k piece.Hole ps q.0, omega arith) (at-tail o.args h z ss r.0, omega arith) in
          let part_size : i + length A.xs ≡ m = A.ends in let size : m + length F.xs ≡ j = F.ends in
          let both_size : length (A.xs ++ F.xs) ≡ length A.xs + length F.xs = length-append A.xs F.xs in
          let may : is_allowed g o (position_at k) ps t A.grouped ≡ true =
          allowed-tie g o (position_at k) ps t A.grouped
          ∙ subst (λ x. fits o (side_of (position_at k) ps) x ≡ true) A.its_tie
          (subst (λ x. fits o x tie ≡ true) (sym (side-place o k ps all_pieces)) c) in
          record {
            xs = A.xs ++ F.xs;
            placed = at-append tokens i A.xs F.xs A.placed m (sym part_size) F.placed;
            ends = omega arith;
            fills = run.hole o (position_at k) ps z ss A.xs F.xs t A.grouped ts (omega arith) (subst (λ x. run.Reads g vs x A.xs t A.grouped) same A.reads) may
                F.fills;
          }

  done-filled : (o : Operator) (i k h : ℕ) → k ≡ length o.pieces → h ≡ length o.args → (ps : List Piece) (ss : List SortId) → IsRest o k ps → IsRestArgs o h ss
      → IsFilledAs o i i k ps ss []
  done-filled o i k h a b (p ∷ ps) ss q r = absurd (let e : k + suc (length ps) ≡ length o.pieces = q.1 in omega arith)
  done-filled o i k h a b [] (s ∷ ss) q r = absurd (let e : h + suc (length ss) ≡ length o.args = r.1 in omega arith)
  done-filled o i k h a b [] [] q r = record { xs = []; placed = at-nil tokens i; ends = omega arith; fills = run.done o (position_at k) }

  mutual
    pub span-reads : (i j : ℕ) (s : SortId) (tie : Option ℕ) (injected : Bool) (t : Pattern) → R i j s tie injected t → IsReadAs i j s tie injected t
    span-reads _ _ _ _ _ _ (span.variable i n token v at a b c) =
        let is : token ≡ word_token v.name.bytes =
        ap (λ k. record { kind = k; text = token.text }) (word_kind token.kind a) ∙ ap (λ x. record { kind = Word; text = x }) (sym (text_same v.name.bytes token.text b)) in
        record {
          xs = word_token v.name.bytes ∷ [];
          grouped = false;
          placed = at-cons tokens i (word_token v.name.bytes) [] (at ∙ ap (λ x. Some x) is) (at-nil tokens (suc i));
          ends = omega arith;
          reads = run.variable v (n, slice_get_within vs n v c, get_or_from_slice_get vs n v v c);
          its_tie = sym (ap tie_of (var-head g v.number v.sort));
          its_head = sym (var-injected g v.number v.sort);
        }
    span-reads _ _ _ _ _ _ (span.number i token s at a int) =
        let is : token ≡ number_token token.text = ap (λ k. record { kind = k; text = token.text }) (number_kind token.kind a) in
        record {
          xs = number_token token.text ∷ [];
          grouped = false;
          placed = at-cons tokens i (number_token token.text) [] (at ∙ ap (λ x. Some x) is) (at-nil tokens (suc i));
          ends = omega arith;
          reads = run.number s token.text int;
          its_tie = sym (ap tie_of (int-head g (pos (value token.text))));
          its_head = sym (int-injected g (pos (value token.text)));
        }
    span-reads _ _ _ _ _ _ (span.minus i first token s at a there b int) =
        let is : token ≡ number_token token.text = ap (λ k. record { kind = k; text = token.text }) (number_kind token.kind b) in
        record {
          xs = sign_token 45 ∷ number_token token.text ∷ [];
          grouped = false;
          placed = at-cons tokens i (sign_token 45) (number_token token.text ∷ []) (at ∙ ap (λ x. Some x) (is-sign 45 first a))
              (at-cons tokens (suc i) (number_token token.text) [] (there ∙ ap (λ x. Some x) is) (at-nil tokens (suc (suc i))));
          ends = omega arith;
          reads = run.minus s token.text int;
          its_tie = sym (ap tie_of (int-head g (neg_ℤ (pos (value token.text)))));
          its_head = sym (int-injected g (neg_ℤ (pos (value token.text))));
        }
    span-reads _ _ _ _ _ _ (span.operator i j op o ts at is f) =
        let F : IsFilledAs o i j 0 o.pieces o.args ts = span-fills o i j 0 0 ts f o.pieces o.args (at-all o.pieces, omega arith) (at-all o.args, omega arith) in
        record {
          xs = F.xs;
          grouped = false;
          placed = F.placed;
          ends = F.ends;
          reads = run.operator op o F.xs ts at is F.fills;
          its_tie = sym (ap tie_of (head-operator g op o at ts is));
          its_head = sym (injected-app g op o at ts ∙ is);
        }
    span-reads _ _ _ _ _ _ (span.injection i j op o s tie injected t at from r) =
        let A : IsReadAs i j s tie injected t = span-reads i j s tie injected t r in
        let two : _ = both_true (is_injection o) ((length o.args == 1) && is_arg_at o 0 s) from in
        let args : _ = both_true (length o.args == 1) (is_arg_at o 0 s) two.1 in
        record {
          xs = A.xs;
          grouped = A.grouped;
          placed = A.placed;
          ends = A.ends;
          reads = run.injection op o s A.xs t A.grouped at two.0 (the_arg o.args s args.0 args.1) A.reads;
          its_tie = A.its_tie ∙ tie-injection g op o at two.0 t A.grouped;
          its_head = sym (injected-app g op o at (t ∷ []) ∙ two.0);
        }
    span-reads _ _ _ _ _ _ (span.group i j first last s tie injected t at a there b r) =
        let A : IsReadAs (suc i) j s tie injected t = span-reads (suc i) j s tie injected t r in
        let size : suc i + length A.xs ≡ j = A.ends in let more : length (A.xs ++ sign_token 41 ∷ []) ≡ length A.xs + 1 = length-append A.xs (sign_token 41 ∷ []) in
        record {
          xs = sign_token 40 ∷ (A.xs ++ sign_token 41 ∷ []);
          grouped = true;
          placed = at-cons tokens i (sign_token 40) (A.xs ++ sign_token 41 ∷ []) (at ∙ ap (λ x. Some x) (is-sign 40 first a))
              (at-append tokens (suc i) A.xs (sign_token 41 ∷ []) A.placed j (sym size)
              (at-cons tokens j (sign_token 41) [] (there ∙ ap (λ x. Some x) (is-sign 41 last b)) (at-nil tokens (suc j))));
          ends = omega arith;
          reads = run.group s A.xs t A.grouped A.reads;
          its_tie = refl;
          its_head = A.its_head;
        }

    span-fills : (o : Operator) (i j k h : ℕ) (ts : List Pattern) → span.Fills g vs tokens o i j k h ts → (ps : List Piece) (ss : List SortId) → IsRest o k ps
        → IsRestArgs o h ss → IsFilledAs o i j k ps ss ts
    span-fills _ _ _ _ _ _ (span.done o i k h a b) ps ss q r = done-filled o i k h a b ps ss q r
    span-fills _ _ _ _ _ _ (span.word o i j k h token ts at is f) ps ss q r =
        word-filled o i j k h token ts at is ps ss q (λ qs q'. span-fills o (suc i) j (suc k) h ts f qs ss q' r)
    span-fills _ _ _ _ _ _ (span.hole o i m j k h s tie injected t ts some fits rd f) ps ss q r =
        hole-filled o i m j k h s tie injected t ts some fits (span-reads i m s tie injected t rd) ps ss q r
        (λ qs rs q' r'. span-fills o m j (suc k) (suc h) ts f qs rs q' r')

  -- ---- the whole text

  pub whole-span : (s : SortId) (t : Pattern) (grouped : Bool) → run.Reads g vs s tokens t grouped → R 0 (length tokens) s (tree_tie g t grouped) (is_injected g t) t
  whole-span s t grouped r = reads-span s tokens t grouped r 0 (length tokens) (at-all tokens) (omega arith)

  pub span-whole : (s : SortId) (tie : Option ℕ) (injected : Bool) (t : Pattern) → R 0 (length tokens) s tie injected t
      → (grouped : Bool) × run.Reads g vs s tokens t grouped × (injected ≡ is_injected g t)
  span-whole s tie injected t r =
      let A : IsReadAs 0 (length tokens) s tie injected t = span-reads 0 (length tokens) s tie injected t r in
      let size : 0 + length A.xs ≡ length tokens = A.ends in
      (A.grouped, subst (λ l. run.Reads g vs s l t A.grouped) (at-same A.xs tokens A.placed (omega arith)) A.reads, A.its_head)
