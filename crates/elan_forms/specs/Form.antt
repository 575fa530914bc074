-- A form is a part of a grammar: which tokens it spells and as what value, and how it is read.
use Rattle.std.specs.Prelude.{◌≡◌, ℕ, zero, suc, ◌+◌, ◌-◌, Bool, true, false, cond, ◌||◌, List, [], ◌∷◌, ◌++◌, length, ◌⊎◌, Option, Some, None}
use Rattle.elan_forms.specs.Whole.{Answer, done, refused, stuck, over}

pub record Form (T V : Type 0) : Type 1 where
  -- from this token number on, these tokens spell the value
  pub words : ℕ → List T → V → Type 0
  -- these tokens are the front of a spelling, up to a token that is one too many
  pub marks : ℕ → List T → Type 0
  -- the tokens with which a spelling may begin
  pub first : T → Bool
  -- reading, once from the left
  pub read : ℕ → List T → Answer T V

-- what was read, and then the form that its value chooses; a refusal stays
abbrev pub after : {T A B : Type 0} → Answer T A → (A → Form T B) → Answer T B
after (done x n rest) k = (k x).read n rest
after (refused why rest) k = refused why rest

-- one form, and then the one that its value chooses
infixl 10 ◌>>=◌
abbrev pub ◌>>=◌ : {T A B : Type 0} → Form T A → (A → Form T B) → Form T B
◌>>=◌ {T} {A} {B} f k = record {
  words = λ n ts y. (u : List T) × (v : List T) × (x : A) × f.words n u x × (k x).words (n + length u) v y ×
      (ts ≡ u ++ v);
  marks = λ n ts. f.marks n ts ⊎ ((u : List T) × (v : List T) × (x : A) × f.words n u x × (k x).marks (n + length u) v
      × (ts ≡ u ++ v));
  first = f.first;
  read = λ n ts. after (f.read n ts) k;
}

-- one form, and then another one
infixl 10 ◌>>◌
abbrev pub ◌>>◌ : {T A B : Type 0} → Form T A → Form T B → Form T B
f >> g = f >>= (λ _. g)

-- reads one token of this kind
abbrev pub read_token : {T : Type 0} → (T → Bool) → ℕ → List T → Answer T T
read_token p n [] = stuck []
read_token p n (t ∷ ts) = cond (p t) (done t (n + 1) ts) (stuck (t ∷ ts))

-- one token of this kind
abbrev pub token : {T : Type 0} → (T → Bool) → Form T T
token {T} p = record {
  words = λ n ts t. (ts ≡ t ∷ []) × (p t ≡ true);
  marks = λ n ts. ⊥;
  first = p;
  read = read_token p;
}

-- no token, with a value that may hold the number of the next one
abbrev pub silent : {T V : Type 0} → (ℕ → V) → Form T V
silent value = record {
  words = λ n ts w. (ts ≡ []) × (w ≡ value n);
  marks = λ n ts. ⊥;
  first = λ t. false;
  read = λ n ts. done (value n) n ts;
}

-- no token, with this value
abbrev pub pure : {T V : Type 0} → V → Form T V
pure v = silent (λ n. v)

-- the number of the next token
abbrev pub place : {T : Type 0} → Form T ℕ
place = silent (λ n. n)

-- the first token is of this kind
abbrev pub begins_with : {T : Type 0} → (T → Bool) → List T → Bool
begins_with p [] = false
begins_with p (t ∷ ts) = p t

-- the one form or the other, by the first token
abbrev pub either : {T V : Type 0} → Form T V → Form T V → Form T V
either f g = record {
  words = λ n ts v. f.words n ts v ⊎ g.words n ts v;
  marks = λ n ts. f.marks n ts ⊎ g.marks n ts;
  first = λ t. f.first t || g.first t;
  read = λ n ts. cond (begins_with f.first ts) (f.read n ts) (g.read n ts);
}

-- the form, or nothing
abbrev pub optional : {T V : Type 0} → Form T V → Form T (Option V)
optional f = either (f >>= (λ v. pure (Some v))) (pure None)

-- this many turns, each from the state that the one before left
abbrev pub loop_words : {T S : Type 0} → (S → Form T S) → ℕ → S → ℕ → List T → S → Type 0
loop_words f zero s n ts y = (ts ≡ []) × (y ≡ s)
loop_words {T} {S} f (suc i) s n ts y = (u : List T) × (v : List T) × (x : S) × (f s).words n u x × loop_words f i x
    (n + length u) v y × (ts ≡ u ++ v)

-- what one turn read, and then more of them; a refusal stays
abbrev pub next_turn : {T A B : Type 0} → Answer T A → (A → ℕ → List T → Answer T B) → Answer T B
next_turn (done x n rest) more = more x n rest
next_turn (refused why rest) more = refused why rest

-- The number bounds the turns. Each turn takes a token, so the count of tokens is enough.
unfoldable pub turns : {T S : Type 0} → (S → T → Bool) → (S → Form T S) → ℕ → S → ℕ → List T → Answer T S
turns p f zero s n ts = done s n ts
turns p f (suc left) s n ts = cond (begins_with (p s) ts) (next_turn ((f s).read n ts) (turns p f left)) (done s n ts)

-- any number of turns; a further one is made where the next token may begin one
abbrev pub loop : {T S : Type 0} → (S → T → Bool) → (S → Form T S) → S → Form T S
loop {T} {S} p f s = record {
  words = λ n ts y. (i : ℕ) × loop_words f i s n ts y;
  marks = λ n ts. (i : ℕ) × (u : List T) × (v : List T) × (x : S) × loop_words f i s n u x × (f x).marks
      (n + length u) v × (ts ≡ u ++ v);
  first = p s;
  read = λ n ts. turns p f (length ts) s n ts;
}

-- any number of them, one after the other
abbrev pub many : {T V : Type 0} → Form T V → Form T (List V)
many f = loop (λ _. f.first) (λ vs. f >>= (λ v. pure (vs ++ v ∷ []))) []

-- no tokens at all, which reading refuses at once
abbrev pub never : {T V : Type 0} → Form T V
never = record { words = λ n ts v. ⊥; marks = λ n ts. ⊥; first = λ t. false; read = λ n ts. stuck ts }

-- A form that stands in itself, to this depth. It takes a token before it stands in itself again.
unfoldable pub level : {T S V : Type 0} → ((S → Form T V) → S → Form T V) → ℕ → S → Form T V
level body zero s = never
level body (suc d) s = body (level body d) s

-- A form that stands in itself: a text is no deeper than it is long.
unfoldable pub nested : {T S V : Type 0} → (T → Bool) → ((S → Form T V) → S → Form T V) → S → Form T V
nested p body s = record {
  words = λ n ts v. (level body (suc (length ts)) s).words n ts v;
  marks = λ n ts. (level body (suc (length ts)) s).marks n ts;
  first = p;
  read = λ n ts. (level body (suc (length ts)) s).read n ts;
}

-- reads one token of this kind, or refuses it where none is left
abbrev pub read_counted : {T : Type 0} → (T → Bool) → ℕ → ℕ → List T → Answer T ℕ
read_counted p left n [] = stuck []
read_counted p zero n (t ∷ ts) = cond (p t) (over (t ∷ ts)) (stuck (t ∷ ts))
read_counted p (suc left) n (t ∷ ts) = cond (p t) (done left (n + 1) ts) (stuck (t ∷ ts))

-- one token of this kind, of which so many are left; the value is how many are left then
abbrev pub counted : {T : Type 0} → (T → Bool) → ℕ → Form T ℕ
counted {T} p left = record {
  words = λ n ts v. (t : T) × (ts ≡ t ∷ []) × (p t ≡ true) × (v ≡ left - 1);
  marks = λ n ts. (left ≡ 0) × (t : T) × (ts ≡ t ∷ []) × (p t ≡ true);
  first = p;
  read = read_counted p left;
}

-- reads the end of the text
abbrev pub read_end : {T V : Type 0} → V → ℕ → List T → Answer T V
read_end v n [] = done v n []
read_end v n (t ∷ ts) = stuck (t ∷ ts)

-- the end of the text
abbrev pub finish : {T V : Type 0} → V → Form T V
finish v = record {
  words = λ n ts w. (ts ≡ []) × (w ≡ v);
  marks = λ n ts. ⊥;
  first = λ t. false;
  read = read_end v;
}

-- the form, whose value is made of the number of its first token, its own value and the number after its last token
abbrev pub ranged : {T V S : Type 0} → (ℕ → V → ℕ → S) → Form T V → Form T S
ranged make f = place >>= (λ first. f >>= (λ v. silent (λ past. make first v past)))

-- the same form, which begins as the form in it does
abbrev pub placed : {T V S : Type 0} → (ℕ → V → ℕ → S) → Form T V → Form T S
placed make f = record {
  words = (ranged make f).words;
  marks = (ranged make f).marks;
  first = f.first;
  read = (ranged make f).read;
}

-- the same, of the two numbers alone
abbrev pub spanned : {T V S : Type 0} → (ℕ → ℕ → S) → Form T V → Form T S
spanned make = placed (λ first v past. make first past)

-- the same, of the number of the first token and the form's own value
abbrev pub numbered : {T V S : Type 0} → (ℕ → V → S) → Form T V → Form T S
numbered make = placed (λ first v past. make first v)

-- the form, and then the end of the text
abbrev pub whole : {T V : Type 0} → Form T V → Form T V
whole form = form >>= finish
