-- Numbers are in range; a reading is of its sort and has declared variables; and a text has one answer.
use Rattle.std.proofs.Common.{◌≡◌, refl, sym, subst, ◌∙◌, ℕ, ◌<◌, ◌≤◌, ◌^◌, Bool, true, ◌&&◌, ◌==◌, Option, None, Some, List, [], ◌∷◌, ◌⊎◌, inl, inr, map, drop, arith}
use Rattle.std.specs.List.{All, list_all}
use Rattle.elan_lexer.specs.declared.token.Token.{Token}
use Rattle.elan_lexer.specs.Bytes.{value, max_number}
use Rattle.elan_lexer.specs.Pieces.{IsToken}
use Rattle.elan_lexer.specs.Text.{Fits, token_text}
use Rattle.elan_lexer.specs.Spans.{IsSpan, SpansFrom}
use Rattle.elan_lexer.proofs.SpanLemmas.{has_spans}
use Rattle.elan_terms.specs.declared.tree.SortId.{SortId}
use Rattle.elan_terms.specs.declared.tree.Pattern.{Pattern}
use Rattle.elan_terms.proofs.Lists.{AllOf, In, all_from, in_of_contains}
use Rattle.elan_program.specs.declared.signature.Piece.{Piece}
use Rattle.elan_program.specs.declared.signature.Operator.{Operator}
use Rattle.elan_program.specs.declared.signature.Signature.{Signature}
use Rattle.elan_program.specs.Soundness.{is_sound}
use Rattle.elan_program.specs.Patterns.{uses, is_bound}
use Rattle.elan_program.specs.Extension.{var_pattern, int_pattern, app_pattern}
use Rattle.elan_program.proofs.PatternLemmas.{uses-var, uses-int, uses-app}
use Rattle.elan_reading.specs.declared.lexeme.Lexeme.{Lexeme}
use Rattle.elan_reading.specs.declared.lexeme.Variable.{Variable}
use Rattle.elan_reading.specs.declared.edge.Position.{Position}
use Rattle.elan_reading.specs.declared.edge.Position.TheVariants.{First, Later}
use Rattle.elan_reading.specs.declared.sought.Sought.{Sought}
use Rattle.elan_reading.specs.declared.sought.Sought.TheVariants as sought
use Rattle.elan_reading.specs.Lexemes.{lexeme_of, IsInRange}
use Rattle.elan_reading.specs.Readings.{Reads, Fills, variable, number, minus, operator, injection, group, done, word, hole}
use Rattle.elan_reading.specs.Answers.{IsReading, IsOnly, HasNone, HasSeveral}
use Rattle.elan_reading.proofs.SortLaws.{sorted}
use Rattle.elan_entries.specs.declared.found.Found.{Found}
use Rattle.elan_entries.specs.declared.found.Found.TheVariants.{One, Several}
use Rattle.elan_chart.specs.Chart.{rows, scope_of}
use Rattle.elan_chart.specs.Answer.{all_sought, longest}
use Rattle.elan_chart.specs.Result.{IsOutcome}
use Rattle.elan_chart.specs.Fitting.{as_numbered, IsOfSought}
use Rattle.elan_entries.proofs.SameLemmas.{nat_self}
use Rattle.elan_chart.proofs.StepsFull.{and_true}
use Rattle.elan_chart.proofs.ChartFull.{or_left, or_right}
use Rattle.elan_chart.proofs.AnswerLemmas.{outcome}

-- ---- numbers

below : (n : ℕ) → n ≤ max_number → n < 2 ^ 63
below n le = omega arith

in_range : (bytes : List ℕ) (t : Token) → IsSpan bytes t → IsInRange (lexeme_of bytes t)
in_range bytes t s is =
    below (value (token_text bytes t)) (subst (λ k. IsToken k (token_text bytes t) (drop t.end bytes)) is s.longest).1

all_in_range : (bytes : List ℕ) (from : ℕ) (ts : List Token) → SpansFrom from bytes ts → AllOf IsInRange (map (lexeme_of bytes) ts)
all_in_range bytes from [] h = tt
all_in_range bytes from (t ∷ ts) h = (in_range bytes t h.2, all_in_range bytes t.end ts h.3)

pub numbers : (bytes : List ℕ) (found : List Token) → Fits bytes found → All IsInRange (map (lexeme_of bytes) found)
numbers bytes found h = all_from IsInRange (map (lexeme_of bytes) found) (all_in_range bytes 0 found (has_spans bytes found h))

-- ---- variables

bound : (v : Variable) (ws : List Variable) → In v ws → is_bound (map as_numbered ws) (v.number, v.sort) ≡ true
bound v [] i = elim i [ ]
bound v (w ∷ ws) (inl e) =
    or_left (w.number == v.number && w.sort.0 == v.sort.0) (is_bound (map as_numbered ws) (v.number, v.sort))
    (subst (λ (x : Variable). (x.number == v.number && x.sort.0 == v.sort.0) ≡ true) e
    (and_true (v.number == v.number) (v.sort.0 == v.sort.0) (nat_self v.number) (nat_self v.sort.0)))
bound v (w ∷ ws) (inr i) =
    or_right (w.number == v.number && w.sort.0 == v.sort.0) (is_bound (map as_numbered ws) (v.number, v.sort)) (bound v ws i)

module _ (g : Signature) (vs : List Variable) where
  abbrev declared : List (ℕ × SortId)
  declared = map as_numbered vs

  mutual
    reads-use : (s : SortId) (run : List Lexeme) (t : Pattern) (grouped : Bool) → Reads g vs s run t grouped → uses declared t ≡ true
    reads-use _ _ _ _ (variable v among) =
        uses-var declared (var_pattern v.number v.sort) v.number v.sort refl ∙ bound v vs (in_of_contains vs v among)
    reads-use _ _ _ _ (number s digits int) = uses-int declared (int_pattern _) _ refl
    reads-use _ _ _ _ (minus s digits int) = uses-int declared (int_pattern _) _ refl
    reads-use _ _ _ _ (operator op o run ts at is f) =
        uses-app declared (app_pattern op ts) op ts refl ∙ fills-use o First o.pieces o.args run ts f
    reads-use _ _ _ _ (injection op o s run t grouped at is args r) =
        uses-app declared (app_pattern op (t ∷ [])) op (t ∷ []) refl ∙ and_true (uses declared t) true (reads-use s run t grouped r) refl
    reads-use _ _ _ _ (group s run t grouped r) = reads-use s run t grouped r

    fills-use : (o : Operator) (position : Position) (ps : List Piece) (ss : List SortId) (run : List Lexeme) (ts : List Pattern)
        → Fills g vs o position ps ss run ts → list_all (uses declared) ts ≡ true
    fills-use _ _ _ _ _ _ (done o position) = refl
    fills-use _ _ _ _ _ _ (word o position name ps ss token run ts e f) = fills-use o Later ps ss run ts f
    fills-use _ _ _ _ _ _ (hole o position ps s ss part run t grouped ts some r a f) =
        and_true (uses declared t) (list_all (uses declared) ts) (reads-use s part t grouped r) (fills-use o Later ps ss run ts f)

  pub used : (run : List Lexeme) (what : Sought) (t : Pattern) → IsReading g vs run what t → uses declared t ≡ true
  used run (sought.Sort s) t (grouped, r) = reads-use s run t grouped r
  used run sought.Any t (s, grouped, r, is) = reads-use s run t grouped r

  pub of_sought : (run : List Lexeme) (what : Sought) (t : Pattern) → is_sound g ≡ true → All IsInRange run → IsReading g vs run what t → IsOfSought g what t
  of_sought run (sought.Sort s) t sound h (grouped, r) = sorted g vs sound s run t grouped h r
  of_sought run sought.Any t sound h (s, grouped, r, is) = (s, sorted g vs sound s run t grouped h r)

  -- ---- answers

  module _ (run : List Lexeme) (what : Sought) where
    decided : (x : Option Found) → IsOutcome g vs run what x → ((t : Pattern) × IsOnly g vs run what t) ⊎ (HasNone g vs run what ⊎ HasSeveral g vs run what)
    decided None o = inr (inl o)
    decided (Some (One ts)) o = inl (o.0, o.2)
    decided (Some Several) o = inr (inr o)

    pub some_answer : is_sound g ≡ true → ((t : Pattern) × IsOnly g vs run what t) ⊎ (HasNone g vs run what ⊎ HasSeveral g vs run what)
    some_answer sound = decided (all_sought what None (longest (rows (scope_of g vs run) None run))) (outcome g sound vs run what)

    pub one_only : (t u : Pattern) → IsOnly g vs run what t → IsOnly g vs run what u → t ≡ u
    one_only t u p q = q.1 t p.0

    pub not_none : (t : Pattern) → IsOnly g vs run what t → HasNone g vs run what → ⊥
    not_none t p q = q t p.0

    pub not_several : (t : Pattern) → IsOnly g vs run what t → HasSeveral g vs run what → ⊥
    not_several t p (x, y, a, b, other) = other (p.1 x a ∙ sym (p.1 y b))

    pub none_several : HasNone g vs run what → HasSeveral g vs run what → ⊥
    none_several p (x, y, a, b, other) = p x a
