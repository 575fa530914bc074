-- The front of a text is cut exactly: what is cut is a piece or a fault, and a piece or a fault is what is cut.
use Rattle.std.proofs.Common.{◌≡◌, ℕ, suc, ◌+◌, ◌≤◌, ◌<◌, Bool, true, false, cond, List, [], ◌∷◌, ◌++◌, append_assoc, length, take, drop, Option, Some, None, Ok, Err, refl, sym, ap, subst, ◌∙◌, inl, inr, arith}
use Rattle.std.specs.Prelude.{nat_le, ◌==◌, ◌&&◌}
use Rattle.std.proofs.lemmas.List.{take_at, length-append, take-append-drop}
use Rattle.std.proofs.lemmas.Grind.{common_steps}
use Rattle.elan_lexer.specs.declared.token.Kind.{Kind}
use Rattle.elan_lexer.specs.declared.token.Kind.TheVariants.{Word, Number, Sign}
use Rattle.elan_lexer.specs.declared.bytes.Class.TheVariants as class
use Rattle.elan_lexer.specs.declared.fault.Fault.{Fault}
use Rattle.elan_lexer.specs.declared.fault.Fault.TheVariants.{BadByte, Unclosed, TooLarge}
use Rattle.elan_lexer.specs.Bytes.{is_white, is_letter, is_digit, is_visible, is_in, value, max_number, begins, begins_pair, is_pair}
use Rattle.elan_lexer.specs.Pieces.{AllIn, StopsAt, Open, AreDigits, IsSignByte, IsPiece, IsFault}
use Rattle.elan_lexer.specs.Cut.{Cut, run, close, block, slash, number, piece}

-- the piece at the front of a text; the end of the text is white space of no bytes
abbrev pub front : List ℕ → Cut
front [] = Ok (None, 0)
front (b ∷ bs) = piece b bs

-- what cutting at the front of a text says of it
abbrev pub Front : List ℕ → Cut → Type 0
Front bytes (Ok found) = IsPiece found.0 (take found.1 bytes) (drop found.1 bytes)
Front bytes (Err fault) = IsFault fault bytes

pub run_take : (p : ℕ → Bool) (bs : List ℕ) → AllIn p (take (run p bs) bs)
run_take p [] = tt
run_take p (b ∷ bs) = go (run_take p bs) (p b) refl
  where
    go : AllIn p (take (run p bs) bs) → (d : Bool) → p b ≡ d → AllIn p (take (cond d (suc (run p bs)) 0) (b ∷ bs))
    go h true e = (e, h)
    go h false e = tt

pub run_drop : (p : ℕ → Bool) (bs : List ℕ) → StopsAt p (drop (run p bs) bs)
run_drop p [] = tt
run_drop p (b ∷ bs) = go (run_drop p bs) (p b) refl
  where
    go : StopsAt p (drop (run p bs) bs) → (d : Bool) → p b ≡ d → StopsAt p (drop (cond d (suc (run p bs)) 0) (b ∷ bs))
    go h true e = h
    go h false e = e

pub run_exact : (p : ℕ → Bool) (t rest : List ℕ) → AllIn p t → StopsAt p rest → run p (t ++ rest) ≡ length t
run_exact p [] [] a s = refl
run_exact p [] (b ∷ rest) a s = rw s refl
run_exact p (x ∷ t) rest a s = rw a.0 (ap suc (run_exact p t rest a.1 s))

letter_not_white : (b : ℕ) → is_letter b ≡ true → is_white b ≡ false
letter_not_white b e = grind (arith, common_steps)

digit_not_white : (b : ℕ) → is_digit b ≡ true → is_white b ≡ false
digit_not_white b e = grind (arith, common_steps)

digit_not_letter : (b : ℕ) → is_digit b ≡ true → is_letter b ≡ false
digit_not_letter b e = grind (arith, common_steps)

visible_not_white : (b : ℕ) → is_visible b ≡ true → is_white b ≡ false
visible_not_white b e = grind (arith, common_steps)

-- ---- words

pub word_exact : (text rest : List ℕ) (b : ℕ) (bs : List ℕ) → is_letter b ≡ true → AllIn (is_in class.Word) bs →
    StopsAt (is_in class.Word) rest →
    piece b (bs ++ rest) ≡ Ok (Some Word, suc (length bs))
unfolding piece
word_exact text rest b bs l a s = rw (letter_not_white b l, l, run_exact (is_in class.Word) bs rest a s) refl

pub digits_exact : (rest : List ℕ) (b : ℕ) (bs : List ℕ) → is_digit b ≡ true → AllIn is_digit bs →
    StopsAt is_digit rest →
    piece b (bs ++ rest) ≡ number (suc (length bs)) (b ∷ bs ++ rest)
unfolding piece is_in
digits_exact rest b bs l a s = rw (digit_not_white b l, digit_not_letter b l, l, run_exact is_digit bs rest a s) refl

-- ---- comments

head_is : (a b : ℕ) (x y : List ℕ) → a ∷ x ≡ b ∷ y → a ≡ b
head_is a b x y e = cc

tail_is : (a b : ℕ) (x y : List ℕ) → a ∷ x ≡ b ∷ y → x ≡ y
tail_is a b x y e = cc

abbrev ends : ℕ → List ℕ → Bool
ends b bs = b == 42 && begins 47 bs

open_more : (b : ℕ) (bs : List ℕ) → Open bs → ends b bs ≡ false → Open (b ∷ bs)
open_more b bs o e [] v s =
    let e2 : ends 42 (47 ∷ v) ≡ false =
    subst (λ z. ends z (47 ∷ v) ≡ false) (head_is b 42 bs (47 ∷ v) s)
    (subst (λ z. ends b z ≡ false) (tail_is b 42 bs (47 ∷ v) s) e) in cc
open_more b bs o e (x ∷ u) v s = o u v (tail_is b x bs (u ++ 42 ∷ 47 ∷ v) s)

open_less : (b : ℕ) (bs : List ℕ) → Open (b ∷ bs) → Open bs
open_less b bs o u v s = o (b ∷ u) v (ap (λ z. b ∷ z) s)

-- the star of the end does not begin with a slash
begins_star : (body rest : List ℕ) → begins 47 (body ++ 42 ∷ rest) ≡ begins 47 (body ++ 42 ∷ [])
begins_star [] rest = refl
begins_star (y ∷ body) rest = refl

not_end : (b : ℕ) (bs : List ℕ) → Open (b ∷ bs) → ends b bs ≡ false
not_end b [] o = and_false (b == 42)
  where
    and_false : (d : Bool) → d && false ≡ false
    and_false true = refl
    and_false false = refl
not_end b (c ∷ bs) o = go (b == 42) refl (c == 47) refl
  where
    go : (d : Bool) → b == 42 ≡ d → (f : Bool) → c == 47 ≡ f → d && f ≡ false
    go false e f e2 = refl
    go true e false e2 = refl
    go true e true e2 =
        let b42 : b ≡ 42 = grind (arith, common_steps) in
        let c47 : c ≡ 47 = grind (arith, common_steps) in
        absurd (o [] bs (ap (λ z. z ∷ c ∷ bs) b42 ∙ ap (λ z. 42 ∷ z ∷ bs) c47))

pub close_none : (bs : List ℕ) → Open bs → close bs ≡ None
unfolding close
close_none [] o = refl
close_none (b ∷ bs) o = rw (not_end b bs o, close_none bs (open_less b bs o)) refl

pub close_some : (body rest : List ℕ) → Open (body ++ 42 ∷ []) → close (body ++ 42 ∷ 47 ∷ rest) ≡ Some (length body + 2)
unfolding close
close_some [] rest o = refl
close_some (b ∷ body) rest o =
    let e : ends b (body ++ 42 ∷ 47 ∷ rest) ≡ false = ap (λ z. b == 42 && z) (begins_star body (47 ∷ rest))
    ∙ not_end b (body ++ 42 ∷ []) o in
    rw (e, close_some body rest (open_less b (body ++ 42 ∷ []) o)) (ap (λ z. Some z) (omega arith))

abbrev Says : List ℕ → Option ℕ → Type 0
Says bs None = Open bs
Says bs (Some n) = (body : List ℕ) × (rest : List ℕ) × (bs ≡ body ++ 42 ∷ 47 ∷ rest) × (n ≡ length body + 2)
    × Open (body ++ 42 ∷ [])

open_none : Open []
open_none [] v s = let e : 42 ∷ 47 ∷ v ≡ [] = sym s in cc
open_none (x ∷ u) v s = let e : x ∷ u ++ 42 ∷ 47 ∷ v ≡ [] = sym s in cc

open_star : Open (42 ∷ [])
open_star = open_more 42 [] open_none refl

pub close_says : (bs : List ℕ) → Says bs (close bs)
unfolding close
close_says [] = open_none
close_says (b ∷ bs) = go (close_says bs) (ends b bs) refl
  where
    more : (o : Option ℕ) → Says bs o → ends b bs ≡ false →
        Says (b ∷ bs) (elim o [ None ↦ None | Some n ↦ Some (suc n) ])
    more None h e = open_more b bs h e
    more (Some n) (body, rest, s, len, o) e =
        let e2 : ends b (body ++ 42 ∷ []) ≡ false =
        ap (λ z. b == 42 && z) (sym (begins_star body (47 ∷ rest)) ∙ ap (begins 47) (sym s)) ∙ e in
        (b ∷ body, rest, ap (λ z. b ∷ z) s, omega arith, open_more b (body ++ 42 ∷ []) o e2)

    first : (c : List ℕ) → bs ≡ c → b == 42 && begins 47 c ≡ true → Says (b ∷ bs) (Some 2)
    first [] s e = absurd (and_no (b == 42) e)
      where
        and_no : (d : Bool) → d && false ≡ true → ⊥
        and_no true e = cc
        and_no false e = cc
    first (x ∷ c) s e =
        let b42 : b ≡ 42 = grind (arith, common_steps) in
        let x47 : x ≡ 47 = grind (arith, common_steps) in
        ([], c, ap (λ z. b ∷ z) s ∙ ap (λ z. z ∷ x ∷ c) b42 ∙ ap (λ z. 42 ∷ z ∷ c) x47, refl, open_star)

    go : Says bs (close bs) → (d : Bool) → ends b bs ≡ d →
        Says (b ∷ bs) (cond d (Some 2) (elim (close bs) [ None ↦ None | Some n ↦ Some (suc n) ]))
    go h true e = first bs refl e
    go h false e = more (close bs) h e

-- ---- what is a piece or a fault is cut so

open_comment : (b : ℕ) → b ≡ 47 → is_white b ≡ false
open_comment b e = rw e refl

pair_white : (b c : ℕ) → is_pair b c ≡ true → is_white b ≡ false
pair_white b c e = grind (arith, common_steps)

pair_letter : (b c : ℕ) → is_pair b c ≡ true → is_letter b ≡ false
pair_letter b c e = grind (arith, common_steps)

pair_digit : (b c : ℕ) → is_pair b c ≡ true → is_digit b ≡ false
pair_digit b c e = grind (arith, common_steps)

pair_slash : (b c : ℕ) → is_pair b c ≡ true → b == 47 ≡ false
pair_slash b c e = grind (arith, common_steps)

pair_visible : (b c : ℕ) → is_pair b c ≡ true → is_visible b ≡ true
pair_visible b c e = grind (arith, common_steps)

hidden_letter : (b : ℕ) → is_visible b ≡ false → is_letter b ≡ false
hidden_letter b e = grind (arith, common_steps)

hidden_digit : (b : ℕ) → is_visible b ≡ false → is_digit b ≡ false
hidden_digit b e = grind (arith, common_steps)

hidden_slash : (b : ℕ) → is_visible b ≡ false → b == 47 ≡ false
hidden_slash b e = grind (arith, common_steps)

take_text : (text rest : List ℕ) → take (length text) (text ++ rest) ≡ text
take_text text rest = take_at text rest (length text) refl

abbrev cut_to : Option Kind → ℕ → Cut
cut_to c n = Ok (c, n)

number_ok : (text rest : List ℕ) → AreDigits text rest → value text ≤ max_number →
    front (text ++ rest) ≡ cut_to (Some Number) (length text)
unfolding number
number_ok text rest (b, bs, d, a, s, e) le =
    let v : value (b ∷ bs) ≤ max_number = subst (λ z. value z ≤ max_number) e le in
    ap (λ z. front (z ++ rest)) e ∙ digits_exact rest b bs d a s ∙ rw (take_text (b ∷ bs) rest, le-ltb' v) refl
    ∙ ap (λ z. cut_to (Some Number) (length z)) (sym e)
  where
    le-ltb' : {x : ℕ} → x ≤ max_number → nat_le x max_number ≡ true
    le-ltb' h = grind (arith, common_steps)

number_large : (text rest : List ℕ) → AreDigits text rest → max_number < value text →
    front (text ++ rest) ≡ Err TooLarge
unfolding number
number_large text rest (b, bs, d, a, s, e) lt =
    let v : max_number < value (b ∷ bs) = subst (λ z. max_number < value z) e lt in
    ap (λ z. front (z ++ rest)) e ∙ digits_exact rest b bs d a s ∙ rw (take_text (b ∷ bs) rest, above v) refl
  where
    above : {x : ℕ} → max_number < x → nat_le x max_number ≡ false
    above h = grind (arith, common_steps)

sign_one : (b : ℕ) (rest : List ℕ) → IsSignByte b → begins_pair b rest ≡ false →
    (b ≡ 47 → (begins 47 rest ≡ false) × (begins 42 rest ≡ false)) → (d : Bool) → b == 47 ≡ d →
    piece b rest ≡ cut_to (Some Sign) 1
unfolding piece slash
sign_one b rest (v, l, g) pr c true e =
    let b47 : b ≡ 47 = grind (arith, common_steps) in
    rw (visible_not_white b v, l, g, e, (c b47).0, (c b47).1) refl
sign_one b rest (v, l, g) pr c false e = rw (visible_not_white b v, l, g, e, v, pr) refl

pub piece_cut : (c : Option Kind) (text rest : List ℕ) → IsPiece c text rest →
    front (text ++ rest) ≡ cut_to c (length text)
unfolding piece slash is_in
piece_cut None text rest (inl (b, w, e)) = ap (λ z. front (z ++ rest)) e ∙ rw w refl
    ∙ ap (λ z. cut_to None (length z)) (sym e)
piece_cut None text rest (inr (inl (body, a, s, e))) =
    ap (λ z. front (z ++ rest)) e ∙ ap (λ n. cut_to None (suc (suc n))) (run_exact (is_in class.Line) body rest a s)
    ∙ ap (λ z. cut_to None (length z)) (sym e)
piece_cut None text rest (inr (inr (body, o, e))) =
    ap (λ z. front (z ++ rest)) e ∙ ap (λ z. block (close z)) (append_assoc body (42 ∷ 47 ∷ []) rest)
    ∙ ap block (close_some body rest o)
    ∙ ap (λ n. cut_to None n) (omega (arith, length-append body (42 ∷ 47 ∷ [])))
    ∙ ap (λ z. cut_to None (length z)) (sym e)
piece_cut (Some Word) text rest (b, bs, l, a, s, e) = ap (λ z. front (z ++ rest)) e ∙ word_exact text rest b bs l a s
    ∙ ap (λ z. cut_to (Some Word) (length z)) (sym e)
piece_cut (Some Number) text rest (d, le) = number_ok text rest d le
piece_cut (Some Sign) text rest (inl (b, c, p, e)) =
    ap (λ z. front (z ++ rest)) e
    ∙ rw (pair_white b c p, pair_letter b c p, pair_digit b c p, pair_slash b c p, pair_visible b c p, p) refl
    ∙ ap (λ z. cut_to (Some Sign) (length z)) (sym e)
piece_cut (Some Sign) text rest (inr (b, v, p, c, e)) =
    ap (λ z. front (z ++ rest)) e ∙ sign_one b rest v p c (b == 47) refl
    ∙ ap (λ z. cut_to (Some Sign) (length z)) (sym e)

pub fault_cut : (f : Fault) (bytes : List ℕ) → IsFault f bytes → front bytes ≡ Err f
unfolding piece slash
fault_cut BadByte bytes (b, bs, w, v, e) = ap front e
    ∙ rw (w, hidden_letter b v, hidden_digit b v, hidden_slash b v, v) refl
fault_cut Unclosed bytes (bs, o, e) = ap front e ∙ ap block (close_none bs o)
fault_cut TooLarge bytes (text, rest, d, lt, e) = ap front e ∙ number_large text rest d lt

-- ---- what is cut is a piece or a fault

eq_of : (b c : ℕ) → b == c ≡ true → b ≡ c
eq_of b c e = grind (arith, common_steps)

says_digits : (b : ℕ) (bs : List ℕ) → is_digit b ≡ true →
    AreDigits (b ∷ take (run is_digit bs) bs) (drop (run is_digit bs) bs)
says_digits b bs d = (b, take (run is_digit bs) bs, d, run_take is_digit bs, run_drop is_digit bs, refl)

says_number : (b : ℕ) (bs : List ℕ) → is_digit b ≡ true → Front (b ∷ bs) (number (suc (run is_digit bs)) (b ∷ bs))
unfolding number
says_number b bs d = go (nat_le (value (b ∷ take (run is_digit bs) bs)) max_number) refl
  where
    go : (t : Bool) → nat_le (value (b ∷ take (run is_digit bs) bs)) max_number ≡ t →
        Front (b ∷ bs) (cond t (Ok (Some Number, suc (run is_digit bs))) (Err TooLarge))
    go true e = (says_digits b bs d, grind (arith, common_steps))
    go false e = (
      b ∷ take (run is_digit bs) bs,
      drop (run is_digit bs) bs,
      says_digits b bs d,
      grind (arith, common_steps),
      ap
          (λ z. b ∷ z) (sym (take-append-drop (run is_digit bs) bs)),
    )

says_block : (bs : List ℕ) (o : Option ℕ) → Says bs o → Front (47 ∷ 42 ∷ bs) (block o)
says_block bs None h = (bs, h, refl)
says_block bs (Some n) (body, rest, s, len, o) =
    let text = body ++ 42 ∷ 47 ∷ [] in
    let whole : bs ≡ text ++ rest = s ∙ sym (append_assoc body (42 ∷ 47 ∷ []) rest) in
    let cut : take n bs ≡ text = ap (take n) whole
    ∙ take_at text rest n (omega (arith, length-append body (42 ∷ 47 ∷ []))) in
    inr (inr (body, o, ap (λ z. 47 ∷ 42 ∷ z) cut))

says_slash : (bs : List ℕ) → Front (47 ∷ bs) (slash bs)
unfolding slash is_in
says_slash [] = inr (47, (refl, refl, refl), refl, (λ e. (refl, refl)), refl)
says_slash (c ∷ bs) = go (c == 47) refl (c == 42) refl
  where
    line : Front (47 ∷ 47 ∷ bs) (Ok (None, suc (run (is_in class.Line) (47 ∷ bs))))
    line = inr
        (inl (
          take (run (is_in class.Line) bs) bs,
          run_take (is_in class.Line) bs,
          run_drop
              (is_in class.Line) bs,
          refl,
        ))

    go : (d : Bool) → c == 47 ≡ d → (f : Bool) → c == 42 ≡ f →
        Front (47 ∷ c ∷ bs)
        (cond d (Ok (None, suc (run (is_in class.Line) (c ∷ bs)))) (cond f (block (close bs)) (Ok (Some Sign, 1))))
    go true e f e2 =
        subst (λ z. Front (47 ∷ z ∷ bs) (Ok (None, suc (run (is_in class.Line) (z ∷ bs))))) (sym (eq_of c 47 e)) line
    go false e true e2 =
        subst (λ z. Front (47 ∷ z ∷ bs) (block (close bs))) (sym (eq_of c 42 e2))
        (says_block bs (close bs) (close_says bs))
    go false e false e2 = inr (47, (refl, refl, refl), refl, (λ _. (e, e2)), refl)

says_sign : (b : ℕ) (bs : List ℕ) → IsSignByte b → b == 47 ≡ false → (d : Bool) → begins_pair b bs ≡ d →
    Front (b ∷ bs) (Ok (Some Sign, cond d 2 1))
says_sign b bs v n false e =
    inr (b, v, e, (λ b47. let e2 : b == 47 ≡ true = grind (arith, common_steps) in absurd cc), refl)
says_sign b [] v n true e = absurd cc
says_sign b (c ∷ bs) v n true e = inl (b, c, e, refl)

-- the front of a text is cut so
pub front_says : (b : ℕ) (bs : List ℕ) → Front (b ∷ bs) (piece b bs)
unfolding piece
front_says b bs = white (is_white b) refl
  where
    visible : is_white b ≡ false → is_letter b ≡ false → is_digit b ≡ false → b == 47 ≡ false → (d : Bool) →
        is_visible b ≡ d → Front (b ∷ bs) (cond d (Ok (Some Sign, cond (begins_pair b bs) 2 1)) (Err BadByte))
    visible w l g s true e = says_sign b bs (e, l, g) s (begins_pair b bs) refl
    visible w l g s false e = (b, bs, w, e, refl)

    slashed : is_white b ≡ false → is_letter b ≡ false → is_digit b ≡ false → (d : Bool) → b == 47 ≡ d →
        Front (b ∷ bs)
        (cond d (slash bs) (cond (is_visible b) (Ok (Some Sign, cond (begins_pair b bs) 2 1)) (Err BadByte)))
    slashed w l g true e = subst (λ z. Front (z ∷ bs) (slash bs)) (sym (eq_of b 47 e)) (says_slash bs)
    slashed w l g false e = visible w l g e (is_visible b) refl

    digit : is_white b ≡ false → is_letter b ≡ false → (d : Bool) → is_digit b ≡ d →
        Front (b ∷ bs)
        (cond d (number (suc (run (is_in class.Digit) bs)) (b ∷ bs))
        (cond (b == 47) (slash bs) (cond (is_visible b) (Ok (Some Sign, cond (begins_pair b bs) 2 1)) (Err BadByte))))
    digit w l true e = unfold is_in in says_number b bs e
    digit w l false e = slashed w l e (b == 47) refl

    letter : is_white b ≡ false → (d : Bool) → is_letter b ≡ d →
        Front (b ∷ bs)
        (cond d (Ok (Some Word, suc (run (is_in class.Word) bs)))
        (cond (is_digit b) (number (suc (run (is_in class.Digit) bs)) (b ∷ bs))
        (cond (b == 47) (slash bs) (cond (is_visible b) (Ok (Some Sign, cond (begins_pair b bs) 2 1)) (Err BadByte)))))
    letter w true e = (
      b,
      take (run (is_in class.Word) bs) bs,
      e,
      run_take (is_in class.Word) bs,
      run_drop
          (is_in class.Word) bs,
      refl,
    )
    letter w false e = digit w e (is_digit b) refl

    white : (d : Bool) → is_white b ≡ d →
        Front (b ∷ bs)
        (cond d (Ok (None, 1))
        (cond (is_letter b) (Ok (Some Word, suc (run (is_in class.Word) bs)))
        (cond (is_digit b) (number (suc (run (is_in class.Digit) bs)) (b ∷ bs))
        (cond (b == 47) (slash bs) (cond (is_visible b) (Ok (Some Sign, cond (begins_pair b bs) 2 1)) (Err BadByte))))))
    white true e = inl (b, e, refl)
    white false e = letter e (is_letter b) refl
