-- What a list of loaders answers, from what the first one answers.
use Rattle.std.proofs.Common.{◌≡◌, ◌≢◌, ◌≤◌, ◌<◌, ◌+◌, inl, inr, ℕ, List, [], ◌∷◌, ◌++◌, Option, Some, None, refl, arith, length, ap, ◌∙◌, subst}
use Rattle.elan_text.specs.Streams.{Rose}
use Rattle.elan_loaders.specs.declared.loader.Fetched.{Fetched}
use Rattle.elan_loaders.specs.declared.loader.Fetched.TheVariants.{Found, Absent, Failed, NoMemory}
use Rattle.elan_loaders.specs.Libraries.{Library, Answers, AnswersAll, first_told, SomeRose, NoneFell, sum_of}

-- the first one decides, unless it has no text
pub first_answers : (told : Option Library) (others : List (Option Library)) (name : List ℕ) (answer : Fetched) (before after : List ℕ)
    → answer ≢ Absent → Answers told name answer before after → AnswersAll (first_told (told ∷ others) name) answer before after
first_answers None others name Found before after not h = h
first_answers (Some library) others name Found before after not h = rw h.2 (h.0, h.1, refl)
first_answers told others name Absent before after not h = absurd (not refl)
first_answers told others name Failed before after not h = h
first_answers told others name NoMemory before after not h = h

-- where it has none, the others decide
pub first_absent : (told : Option Library) (others : List (Option Library)) (name : List ℕ) (answer : Fetched) (before middle after : List ℕ)
    → Answers told name Absent before middle → AnswersAll (first_told others name) answer middle after
    → AnswersAll (first_told (told ∷ others) name) answer before after
first_absent None others name Found before middle after h more = (more.0, more.1 ∙ ap (λ front. front ++ more.0) h.0, tt)
first_absent None others name Absent before middle after h more = (more.0 ∙ h.0, tt)
first_absent None others name Failed before middle after h more = more ∙ h.0
first_absent None others name NoMemory before middle after h more = more ∙ h.0
first_absent (Some library) others name answer before middle after h more = rw h.1 (subst (λ x. AnswersAll (first_told others name) answer x after) h.0 more)

-- no count is less than itself
pub none_fell : (ns : List ℕ) → NoneFell ns ns
none_fell [] = tt
none_fell (n ∷ ns) = (omega arith, none_fell ns)

add_less : (m n k : ℕ) → m < n → m + k < n + k
add_less m n k less = omega (arith, less)

-- the first count rose
pub first_rose : (m n : ℕ) (ms : List ℕ) → Rose m n → SomeRose (m ∷ ms) (n ∷ ms)
first_rose m n ms (inl less) = inl (add_less m n (sum_of ms) less)
first_rose m n ms (inr full) = inr (inl full)

-- a later one did
pub later_rose : (m n : ℕ) (ms ns : List ℕ) → m ≤ n → SomeRose ms ns → SomeRose (m ∷ ms) (n ∷ ns)
later_rose m n ms ns le (inl less) = inl (add_both m n (sum_of ms) (sum_of ns) le less)
  where
    add_both : (m n k l : ℕ) → m ≤ n → k < l → m + k < n + l
    add_both m n k l le less = omega (arith, le, less)
later_rose m n ms ns le (inr full) = inr (inr full)

-- no items
pub no_items : {A : Type 0} (xs : List A) → length xs ≡ 0 → xs ≡ []
no_items [] e = refl
no_items (x ∷ xs) e = absurd (omega (arith, e))
