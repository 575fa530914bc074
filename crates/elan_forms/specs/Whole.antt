-- What reading a whole text may answer, for a language of whole texts and the marks at which a text is too long.
use Rattle.std.specs.Prelude.{◌≡◌, ℕ, ◌+◌, ◌<◌, ◌≤◌, Bool, true, List, [], ◌∷◌, ◌++◌, length, take, drop}
use Rattle.elan_forms.specs.declared.why.Why.{Why}
use Rattle.elan_forms.specs.declared.why.Why.TheVariants.{Unexpected, TooMany}

-- A value that ends at a token number, with the tokens after it; or the tokens from the refused one on.
pub data Answer (T V : Type 0) : Type 0 where
  done : V → ℕ → List T → Answer T V
  refused : Why → List T → Answer T V

-- no text goes on with the next token
pattern abbrev pub stuck : {T V : Type 0} → List T → Answer T V
stuck rest = refused Unexpected rest

-- the next token is one too many
pattern abbrev pub over : {T V : Type 0} → List T → Answer T V
over rest = refused TooMany rest

-- some text of the language begins with these tokens
abbrev pub Possible : {T V : Type 0} → (List T → V → Type 0) → List T → Type 0
Possible {T} {V} W front = (more : List T) × (v : V) × W (front ++ more) v

-- with the next token, or the end, no text of the language begins so
abbrev pub Impossible : {T V : Type 0} → (List T → V → Type 0) → List T → List T → Type 0
Impossible {T} {V} W front [] = (v : V) → W front v → ⊥
Impossible {T} {V} W front (t ∷ rest) = Possible W (front ++ t ∷ []) → ⊥

-- no front of the text ends at a mark
abbrev pub Unmarked : {T : Type 0} → (List T → Type 0) → List T → Type 0
Unmarked {T} M ts = (u c : List T) → ts ≡ u ++ c → M u → ⊥

pub record Fits {T V : Type 0} (W : List T → V → Type 0) (M : List T → Type 0) (ts : List T) (v : V) : Type 0 where
  pub spelled : W ts v
  pub only : (w : V) → W ts w → w ≡ v
  pub unmarked : Unmarked M ts

-- the first token of the rest, or the end, is the least impossible one, and no mark comes before it
pub record Stops {T V : Type 0} (W : List T → V → Type 0) (M : List T → Type 0) (ts rest : List T) : Type 0 where
  pub front : List T
  pub split : ts ≡ front ++ rest
  pub possible : Possible W front
  pub impossible : Impossible W front rest
  pub unmarked : Unmarked M front

-- the first token of the rest is the first mark, and is possible
pub record Exceeds {T V : Type 0} (W : List T → V → Type 0) (M : List T → Type 0) (ts rest : List T) : Type 0 where
  pub front : List T
  pub token : T
  pub after : List T
  pub split : ts ≡ front ++ token ∷ after
  pub here : rest ≡ token ∷ after
  pub possible : Possible W (front ++ token ∷ [])
  pub marked : M (front ++ token ∷ [])
  pub unmarked : Unmarked M front

abbrev pub Gives : {T V : Type 0} → (List T → V → Type 0) → (List T → Type 0) → List T → Answer T V → Type 0
Gives W M ts (done v n rest) = Fits W M ts v
Gives W M ts (stuck rest) = Stops W M ts rest
Gives W M ts (over rest) = Exceeds W M ts rest

-- The token of this number, or the end where it is the number of tokens, is the least impossible one; no mark is
-- before it.
pub record StopsAt {T V : Type 0} (W : List T → V → Type 0) (M : List T → Type 0) (ts : List T) (at : ℕ) : Type 0 where
  pub within : at ≤ length ts
  pub possible : Possible W (take at ts)
  pub impossible : Impossible W (take at ts) (drop at ts)
  pub unmarked : Unmarked M (take at ts)

-- the token of this number is the first one that is one too many, and all up to it are possible
pub record ExceedsAt {T V : Type 0} (W : List T → V → Type 0) (M : List T → Type 0) (ts : List T) (at : ℕ) : Type 0
  where
    pub within : at < length ts
    pub possible : Possible W (take (at + 1) ts)
    pub marked : M (take (at + 1) ts)
    pub unmarked : Unmarked M (take at ts)

-- the last token passes the test
abbrev pub EndsWith : {T : Type 0} → (T → Bool) → List T → Type 0
EndsWith {T} p ts = (front : List T) × (token : T) × (ts ≡ front ++ token ∷ []) × (p token ≡ true)

-- the front is a mark with this token behind it, and no front before it is one
abbrev pub IsFirstMark : {T : Type 0} → (List T → Type 0) → List T → T → Type 0
IsFirstMark M front token = M (front ++ token ∷ []) × Unmarked M front
