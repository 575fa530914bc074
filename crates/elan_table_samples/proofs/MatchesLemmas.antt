-- What the tests need: the variables of a pair, and that they are numbered in order.
use Rattle.std.proofs.Common.{◌≡◌, refl, sym, ap, ◌∙◌, subst, ℕ, List, [], ◌∷◌, ◌++◌, flat_map}
use Rattle.std.proofs.lemmas.List.{append-nil}
use Rattle.elan_terms.specs.declared.tree.OpId.{OpId}
use Rattle.elan_terms.specs.declared.tree.SortId.{SortId}
use Rattle.elan_terms.specs.declared.tree.Pattern.{Pattern}
use Rattle.elan_terms.specs.declared.tree.PatternNode as pattern
use Rattle.elan_terms.specs.Match.{occurrences, new_in, variables}
use Rattle.elan_terms.proofs.MatchLemmas.{occurrences-app}
use Rattle.elan_match.specs.Plain.{AreNumbered}

pub occurrences-pair : (op : OpId) (left right : Pattern) (none one two : List Pattern) → none ≡ []
    → one ≡ none ++ left ∷ [] → two ≡ one ++ right ∷ []
    → occurrences (record { node = pattern.App op two }) ≡ occurrences left ++ occurrences right
occurrences-pair op left right none one two e f g =
    occurrences-app (record { node = pattern.App op two }) op two refl
    ∙ ap (flat_map occurrences) (g ∙ ap (λ ps. ps ++ right ∷ []) (f ∙ ap (λ ps. ps ++ left ∷ []) e))
    ∙ ap (λ vs. occurrences left ++ vs) (append-nil (occurrences right))

pub ruleset occurrences_pairs = (occurrences-pair)

pub numbered-twice : (p : Pattern) (s r : SortId) → occurrences p ≡ ((0, s) ∷ []) ++ ((0, r) ∷ [])
    → AreNumbered 0 (variables p)
unfolding variables
numbered-twice p s r e = subst (λ vs. AreNumbered 0 (new_in [] vs)) (sym e) (refl, tt)

pub numbered-both : (p : Pattern) (s r : SortId) → occurrences p ≡ ((7, s) ∷ []) ++ ((8, r) ∷ [])
    → AreNumbered 7 (variables p)
unfolding variables
numbered-both p s r e = subst (λ vs. AreNumbered 7 (new_in [] vs)) (sym e) (refl, (refl, tt))

pub numbered-one : (p : Pattern) (k : ℕ) (s : SortId) → occurrences p ≡ (k, s) ∷ [] → AreNumbered k (variables p)
unfolding variables
numbered-one p k s e = subst (λ vs. AreNumbered k (new_in [] vs)) (sym e) (refl, tt)

pub ruleset numbered_pairs = (numbered-twice, numbered-both, numbered-one)
