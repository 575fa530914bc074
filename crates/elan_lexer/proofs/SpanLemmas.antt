-- The tokens of a text are its spans.
use Rattle.std.proofs.Common.{◌≡◌, ℕ, ◌+◌, ◌-◌, ◌≤◌, ◌<◌, List, [], ◌∷◌, ◌++◌, append_assoc, length, take, drop, Option, Some, None, refl, sym, ap, subst, ◌∙◌, arith}
use Rattle.std.specs.Prelude.{slice_range}
use Rattle.std.proofs.Math.Seq.{take-add}
use Rattle.std.proofs.lemmas.List.Folds.{drop_split}
use Rattle.std.proofs.lemmas.List.{length-append, take_at, drop_at, append-nil, length-drop, length-take-le}
use Rattle.elan_text.specs.declared.refusal.Place.{Place}
use Rattle.elan_lexer.specs.declared.token.Kind.{Kind}
use Rattle.elan_lexer.specs.declared.token.Token.{Token}
use Rattle.elan_lexer.specs.declared.places.Spot.{Spot}
use Rattle.elan_lexer.specs.Pieces.{IsPiece, IsBlank, IsToken}
use Rattle.elan_lexer.specs.Places.{start, moved, first_place, next_place, place_after}
use Rattle.elan_lexer.specs.Text.{Piece, Spells, token_of, tokens_of, Fits, token_text}
use Rattle.elan_lexer.specs.Spans.{Blanks, IsGap, IsSpan, SpansFrom, HasSpans}
use Rattle.elan_lexer.proofs.Texts.{some_byte}

place_after-append : (at : Place) (xs ys : List ℕ) → place_after at (xs ++ ys) ≡ place_after (place_after at xs) ys
place_after-append at [] ys = refl
place_after-append at (x ∷ xs) ys = place_after-append (next_place at x) xs ys

moved-moved : (s : Spot) (xs ys : List ℕ) → moved (moved s xs) ys ≡ moved s (xs ++ ys)
moved-moved s xs ys =
    same (s.offset + length xs + length ys) (s.offset + length (xs ++ ys)) (place_after (place_after s.at xs) ys)
    (place_after s.at (xs ++ ys))
    (omega (arith, length-append xs ys)) (sym (place_after-append s.at xs ys))
  where
    spot : ℕ → Place → Spot
    spot n at = record { offset = n; at = at }

    same : (m n : ℕ) (a b : Place) → m ≡ n → a ≡ b → spot m a ≡ spot n b
    same m n a b e f = cc

one_blank_more : (bs : List (List ℕ)) (bytes text after : List ℕ) → Blanks bs bytes (text ++ after) →
    IsBlank text after → Blanks (bs ++ text ∷ []) bytes after
one_blank_more [] bytes text after h blank = (after, blank, refl, h)
one_blank_more (b ∷ bs) bytes text after (next, is, more, e) blank =
    (next, is, one_blank_more bs next text after more blank, e)

gap_more : (gap text after : List ℕ) → IsGap gap (text ++ after) → IsBlank text after → IsGap (gap ++ text) after
gap_more gap text after (bs, h) blank = (
  bs ++ text ∷ [],
  subst (λ z. Blanks (bs ++ text ∷ []) z after) (sym (append_assoc gap text after))
      (one_blank_more bs (gap ++ (text ++ after)) text after h blank),
)

no_gap : (rest : List ℕ) → IsGap [] rest
no_gap rest = ([], refl)

-- a token between what was read and what follows
token_span : (whole done text after : List ℕ) (k : Kind) → whole ≡ (done ++ text) ++ after → 0 < length text →
    IsToken k text after →
    IsSpan whole
    (record { kind = k; start = 0 + length done; «end» = 0 + length done + length text; at = place_after first_place done })
token_span whole done text after k e some is =
    let len : length whole ≡ length done + length text + length after = ap length e
    ∙ omega (arith, length-append (done ++ text) after, length-append done text) in
    let e2 : whole ≡ done ++ (text ++ after) = e ∙ append_assoc done text after in
    let from : drop (0 + length done) whole ≡ text ++ after = ap (drop (0 + length done)) e2
    ∙ drop_at done (text ++ after) (0 + length done) (omega arith) in
    let cut : take (0 + length done + length text - (0 + length done)) (drop (0 + length done) whole) ≡ text =
    ap (take (0 + length done + length text - (0 + length done))) from
    ∙ take_at text after (0 + length done + length text - (0 + length done)) (omega arith) in
    let past : drop (0 + length done + length text) whole ≡ after =
    ap (drop (0 + length done + length text)) e
    ∙ drop_at (done ++ text) after (0 + length done + length text) (omega (arith, length-append done text)) in
    let before : take (0 + length done) whole ≡ done = ap (take (0 + length done)) e2
    ∙ take_at done (text ++ after) (0 + length done) (omega arith) in
    record {
      inside = (omega arith, omega arith);
      longest = subst (λ z. IsToken k z (drop (0 + length done + length text) whole)) (sym cut)
          (subst (λ z. IsToken k text z) (sym past) is);
      placed = ap (place_after first_place) (sym before);
    }

spans_of : (whole base gap rest : List ℕ) (ps : List Piece) → whole ≡ (base ++ gap) ++ rest → IsGap gap rest →
    Spells ps rest [] →
    SpansFrom (length base) whole (tokens_of (moved start (base ++ gap)) ps)
spans_of whole base gap rest [] e g h =
    let e2 : whole ≡ base ++ gap = e ∙ ap (λ z. (base ++ gap) ++ z) h ∙ append-nil (base ++ gap) in
    let from : drop (length base) whole ≡ gap = ap (drop (length base)) e2 ∙ drop_at base gap (length base) refl in
    subst (λ z. IsGap z []) (sym from) (subst (λ z. IsGap gap z) h g)
spans_of whole base gap rest (p ∷ ps) e g (after, h, more, s) =
    go (λ b2 g2 e2 gap2. spans_of whole b2 g2 after ps e2 gap2 more) p.kind h
  where
    onward : whole ≡ ((base ++ gap) ++ p.text) ++ after
    onward = e ∙ ap (λ z. (base ++ gap) ++ z) s ∙ sym (append_assoc (base ++ gap) p.text after)

    further : moved (moved start (base ++ gap)) p.text ≡ moved start ((base ++ gap) ++ p.text)
    further = moved-moved start (base ++ gap) p.text

    from : drop (length base) whole ≡ gap ++ rest
    from = ap (drop (length base)) (e ∙ append_assoc base gap rest) ∙ drop_at base (gap ++ rest) (length base) refl

    blank : ((base gap : List ℕ) → whole ≡ (base ++ gap) ++ after → IsGap gap after →
        SpansFrom (length base) whole (tokens_of (moved start (base ++ gap)) ps)) → IsBlank p.text after →
        SpansFrom (length base) whole (tokens_of (moved (moved start (base ++ gap)) p.text) ps)
    blank spans b =
        let again : SpansFrom (length base) whole (tokens_of (moved start (base ++ (gap ++ p.text))) ps) =
        spans base (gap ++ p.text) (onward
        ∙ ap (λ z. z ++ after) (append_assoc base gap p.text))
        (gap_more gap p.text after (subst (λ z. IsGap gap z) s g) b) in
        subst (λ z. SpansFrom (length base) whole (tokens_of z ps))
        (ap (moved start) (sym (append_assoc base gap p.text)) ∙ sym further) again

    here : drop (0 + length (base ++ gap)) whole ≡ rest
    here = ap (drop (0 + length (base ++ gap))) e ∙ drop_at (base ++ gap) rest (0 + length (base ++ gap)) (omega arith)

    between : take (0 + length (base ++ gap) - length base) (drop (length base) whole) ≡ gap
    between = ap (take (0 + length (base ++ gap) - length base)) from
        ∙ take_at gap rest (0 + length (base ++ gap) - length base) (omega (arith, length-append base gap))

    token : ((base gap : List ℕ) → whole ≡ (base ++ gap) ++ after → IsGap gap after →
        SpansFrom (length base) whole (tokens_of (moved start (base ++ gap)) ps)) → (k : Kind) →
        IsToken k p.text after →
        SpansFrom (length base) whole
        (token_of (Some k) (moved start (base ++ gap)) (moved (moved start (base ++ gap)) p.text) ++ tokens_of
        (moved (moved start (base ++ gap)) p.text) ps)
    token spans k is =
        let done = (base ++ gap) ++ p.text in
        let again : SpansFrom (length done) whole (tokens_of (moved start (done ++ [])) ps) =
        (spans done [] (onward ∙ ap (λ z. z ++ after) (sym (append-nil done))) (no_gap after)) in
        let spot : moved start (done ++ []) ≡ moved (moved start (base ++ gap)) p.text =
        ap (moved start) (append-nil done) ∙ sym further in
        let until : length done ≡ 0 + length (base ++ gap) + length p.text =
        omega (arith, length-append (base ++ gap) p.text) in (
          omega (arith, length-append base gap),
          subst (λ z. IsGap z (drop (0 + length (base ++ gap)) whole)) (sym between)
              (subst (λ z. IsGap gap z) (sym here) g),
          token_span whole (base ++ gap) p.text after k onward (some_byte (Some k) p.text after is) is,
          subst (λ z. SpansFrom z whole (tokens_of (moved (moved start (base ++ gap)) p.text) ps)) until
              (subst (λ z. SpansFrom (length done) whole (tokens_of z ps)) spot again),
        )

    go : ((base gap : List ℕ) → whole ≡ (base ++ gap) ++ after → IsGap gap after →
        SpansFrom (length base) whole (tokens_of (moved start (base ++ gap)) ps)) → (k : Option Kind) →
        IsPiece k p.text after →
        SpansFrom (length base) whole
        (token_of k (moved start (base ++ gap)) (moved (moved start (base ++ gap)) p.text) ++ tokens_of
        (moved (moved start (base ++ gap)) p.text) ps)
    go spans None b = blank spans b
    go spans (Some k) is = token spans k is

pub has_spans : (bytes : List ℕ) (found : List Token) → Fits bytes found → HasSpans bytes found
has_spans bytes found (ps, h, e) = subst (HasSpans bytes) (sym e) (spans_of bytes [] [] bytes ps refl (no_gap bytes) h)

-- ---- and spans are its tokens

-- the bytes of pieces that are no tokens
joined : List (List ℕ) → List ℕ
joined [] = []
joined (b ∷ bs) = b ++ joined bs

blank_pieces : List (List ℕ) → List Piece
blank_pieces [] = []
blank_pieces (b ∷ bs) = record { kind = None; text = b } ∷ blank_pieces bs

blanks_text : (bs : List (List ℕ)) (bytes rest : List ℕ) → Blanks bs bytes rest → bytes ≡ joined bs ++ rest
unfolding joined
blanks_text [] bytes rest h = h
blanks_text (b ∷ bs) bytes rest (after, is, more, e) = e ∙ ap (λ z. b ++ z) (blanks_text bs after rest more)
    ∙ sym (append_assoc b (joined bs) rest)

front_is : (xs ys rest : List ℕ) → xs ++ rest ≡ ys ++ rest → xs ≡ ys
front_is xs ys rest e =
    let len : length xs + length rest ≡ length ys + length rest = sym (length-append xs rest) ∙ ap length e
    ∙ length-append ys rest in
    sym (take_at xs rest (length xs) refl) ∙ ap (take (length xs)) e ∙ take_at ys rest (length xs) (omega arith)

blanks_then : (bs : List (List ℕ)) (ps : List Piece) (bytes middle rest : List ℕ) → Blanks bs bytes middle →
    Spells ps middle rest → Spells (blank_pieces bs ++ ps) bytes rest
unfolding blank_pieces
blanks_then [] ps bytes middle rest h more = subst (λ z. Spells ps z rest) (sym h) more
blanks_then (b ∷ bs) ps bytes middle rest (after, is, next, e) more =
    (after, is, blanks_then bs ps after middle rest next more, e)

moved_none : (s : Spot) → moved s [] ≡ s
moved_none s = same (s.offset + 0) s.offset (omega arith)
  where
    same : (m n : ℕ) → m ≡ n → (let a : Spot = record { offset = m; at = s.at } in a) ≡ record { offset = n; at = s.at }
    same m n e = cc

blanks_apart : (bs : List (List ℕ)) (s : Spot) (ps : List Piece) →
    tokens_of s (blank_pieces bs ++ ps) ≡ tokens_of (moved s (joined bs)) ps
unfolding blank_pieces joined
blanks_apart [] s ps = ap (λ z. tokens_of z ps) (sym (moved_none s))
blanks_apart (b ∷ bs) s ps = blanks_apart bs (moved s b) ps ∙ ap (λ z. tokens_of z ps) (moved-moved s b (joined bs))

range_after : (bytes : List ℕ) (from to : ℕ) → from ≤ to → take from bytes ++ slice_range bytes from to ≡ take to bytes
range_after bytes from to le = sym (take-add from (to - from) bytes) ∙ ap (λ n. take n bytes) (omega arith)

token_is : (bytes : List ℕ) (t : Token) → IsSpan bytes t →
    t ∷ [] ≡ token_of (Some t.kind) (moved start (take t.start bytes))
    (moved (moved start (take t.start bytes)) (token_text bytes t))
token_is bytes t span =
    let before : length (take t.start bytes) ≡ t.start =
    length-take-le t.start bytes (omega (arith, span.inside.0, span.inside.1)) in
    let past : length (drop t.start bytes) ≡ length bytes - t.start = length-drop t.start bytes in
    let long : length (token_text bytes t) ≡ t.end - t.start =
    length-take-le (t.end - t.start) (drop t.start bytes) (omega (arith, span.inside.0, span.inside.1)) in
    ap (λ z. z ∷ [])
    (same t.start t.end t.at (0 + length (take t.start bytes))
    (0 + length (take t.start bytes) + length (token_text bytes t)) (place_after first_place (take t.start bytes))
    (omega arith) (omega (arith, span.inside.0)) span.placed)
  where
    same : (a b : ℕ) (at : Place) (m n : ℕ) (to : Place) → a ≡ m → b ≡ n → at ≡ to →
        (let x : Token = record { kind = t.kind; start = a; «end» = b; at = at } in
        x) ≡ record { kind = t.kind; start = m; «end» = n; at = to }
    same a b at m n to e f g = cc

-- the pieces from so many bytes on, whose tokens these are
abbrev FitsFrom : ℕ → List ℕ → List Token → Type 0
FitsFrom from bytes tokens = (ps : List Piece) × Spells ps (drop from bytes) []
    × (tokens ≡ tokens_of (moved start (take from bytes)) ps)

fits_from : (bytes : List ℕ) (from : ℕ) (tokens : List Token) → SpansFrom from bytes tokens → FitsFrom from bytes tokens
fits_from bytes from [] (bs, h) = (
  blank_pieces bs ++ [],
  blanks_then bs [] (drop from bytes) [] [] (subst (λ z. Blanks bs z []) (append-nil (drop from bytes)) h) refl,
  sym (blanks_apart bs (moved start (take from bytes)) []),
)
fits_from bytes from (t ∷ ts) (le, (bs, h), span, more) = go (fits_from bytes t.end ts more)
  where
    gap : List ℕ
    gap = slice_range bytes from t.start

    text : List ℕ
    text = token_text bytes t

    before : moved (moved start (take from bytes)) (joined bs) ≡ moved start (take t.start bytes)
    before =
        moved-moved start (take from bytes) (joined bs)
        ∙ ap (λ z. moved start (take from bytes ++ z))
        (sym (front_is (slice_range bytes from t.start) (joined bs) (drop t.start bytes)
        (blanks_text bs (slice_range bytes from t.start ++ drop t.start bytes) (drop t.start bytes) h)))
        ∙ ap (moved start) (range_after bytes from t.start le)

    past : moved (moved start (take t.start bytes)) (token_text bytes t) ≡ moved start (take t.end bytes)
    past = moved-moved start (take t.start bytes) (token_text bytes t)
        ∙ ap (moved start) (range_after bytes t.start t.end (omega (arith, span.inside.0)))

    go : FitsFrom t.end bytes ts → FitsFrom from bytes (t ∷ ts)
    go (ps, spelled, e) =
        let p : Piece = record { kind = Some t.kind; text = token_text bytes t } in
        let tail : ts ≡ tokens_of (moved (moved start (take t.start bytes)) (token_text bytes t)) ps = e
        ∙ ap (λ z. tokens_of z ps) (sym past) in
        let whole : t ∷ ts ≡ tokens_of (moved start (take t.start bytes)) (p ∷ ps) =
        ap (λ z. z ++ ts) (token_is bytes t span)
        ∙ ap (λ z. token_of (Some t.kind) (moved start (take t.start bytes))
        (moved (moved start (take t.start bytes)) (token_text bytes t)) ++ z) tail in (
          blank_pieces bs ++ p ∷ ps,
          blanks_then bs (p ∷ ps) (drop from bytes) (drop t.start bytes) []
              (subst (λ z. Blanks bs z (drop t.start bytes)) (sym (drop_split bytes from t.start le)) h)
              (drop t.end bytes, span.longest, spelled, drop_split bytes t.start t.end (omega (arith, span.inside.0))),
          whole ∙ ap (λ z. tokens_of z (p ∷ ps)) (sym before)
              ∙ sym (blanks_apart bs (moved start (take from bytes)) (p ∷ ps)),
        )

pub spans_fit : (bytes : List ℕ) (found : List Token) → HasSpans bytes found → Fits bytes found
spans_fit bytes found h = fits_from bytes 0 found h
