-- Words that are seen, one after the other.
use Rattle.std.proofs.Common.{◌≡◌, refl, sym, ap, ◌∙◌, ℕ, Bool, true, false, ◌&&◌, ◌||◌, List, [], ◌∷◌, ◌++◌}
use Rattle.std.specs.Prelude.{Option, Some, None, not, if◌then◌else◌}
use Rattle.std.specs.Str.{bytes_eq}
use Rattle.elan_program.specs.Soundness.{is_some_list}
use Rattle.elan_modules.specs.declared.flat.LoadedText.{LoadedText}
use Rattle.elan_modules.specs.Sorts.{word_at}
use Rattle.elan_names.specs.declared.groups.Groups.{Groups}
use Rattle.elan_names.specs.Names.{Word, where_passed}
use Rattle.elan_names.specs.Groups.{KeyValue, under, by_name, same_key, with_number}
use Rattle.elan_names.proofs.IndexLemmas.{and_true}
use Rattle.elan_clauses.specs.Rules.{none_seen, second_of}
use Rattle.elan_clauses.specs.Seen.{has_seen}

some_more : (ns : List ℕ) (b : Bool) (n : ℕ) → is_some_list (ns ++ where_passed b n) ≡ (is_some_list ns || b)
some_more [] true n = refl
some_more [] false n = refl
some_more (m ∷ ms) b n = refl

-- a word more was seen
pub seen_more : (old new : Groups) (key : KeyValue) (word : Word) (n : ℕ) → key ≡ by_name word
    → ((asked : KeyValue) → under new asked ≡ with_number asked (Some key) n (under old asked))
    → (other : Word) → has_seen new other ≡ (has_seen old other || bytes_eq word other)
seen_more old new key word n asked h other =
    ap is_some_list (h (by_name other)) ∙ some_more (under old (by_name other)) (same_key key (by_name other)) n
    ∙ ap (λ b. has_seen old other || b) (ap (λ k. same_key k (by_name other)) asked ∙ and_true (bytes_eq word other))

-- which words were seen decides
same_second : (text : LoadedText) (p q : Word → Bool) → ((word : Word) → p word ≡ q word) → (ts : List ℕ) → second_of text p ts ≡ second_of text q ts
same_second text p q e [] = refl
same_second text p q e (t ∷ ts) =
    ap (λ b. if b then Some t else second_of text (λ word. p word || bytes_eq (word_at text t) word) ts) (e (word_at text t))
    ∙ ap (λ r. if q (word_at text t) then Some t else r)
    (same_second text (λ word. p word || bytes_eq (word_at text t) word) (λ word. q word || bytes_eq (word_at text t) word)
    (λ word. ap (λ b. b || bytes_eq (word_at text t) word) (e word)) ts)

-- before the first word none was seen
pub begun : (text : LoadedText) (seen : Groups) → ((key : KeyValue) → under seen key ≡ []) → (ts : List ℕ) → second_of text (has_seen seen) ts ≡ second_of text none_seen ts
begun text seen e ts = same_second text (has_seen seen) none_seen (λ word. ap is_some_list (e (by_name word))) ts

not_seen : (b : Bool) → true ≡ not b → b ≡ false
not_seen true e = cc
not_seen false e = refl

was_seen : (b : Bool) → false ≡ not b → b ≡ true
was_seen true e = refl
was_seen false e = cc

-- behind a new word the others decide
pub step_new : (text : LoadedText) (old new : Groups) (t : ℕ) (ts : List ℕ) (whole : Option ℕ) → second_of text (has_seen old) (t ∷ ts) ≡ whole
    → true ≡ not (has_seen old (word_at text t)) → ((other : Word) → has_seen new other ≡ (has_seen old other || bytes_eq (word_at text t) other))
    → second_of text (has_seen new) ts ≡ whole
step_new text old new t ts whole e fresh more =
    same_second text (has_seen new) (λ word. has_seen old word || bytes_eq (word_at text t) word) more ts
    ∙ sym (ap (λ b. if b then Some t else second_of text (λ word. has_seen old word || bytes_eq (word_at text t) word) ts) (not_seen (has_seen old (word_at text t)) fresh))
    ∙ e

-- a word that was seen is the second one
pub step_old : (text : LoadedText) (old : Groups) (t : ℕ) (ts : List ℕ) (whole : Option ℕ) → second_of text (has_seen old) (t ∷ ts) ≡ whole
    → false ≡ not (has_seen old (word_at text t)) → Some t ≡ whole
step_old text old t ts whole e again =
    sym (ap (λ b. if b then Some t else second_of text (λ word. has_seen old word || bytes_eq (word_at text t) word) ts) (was_seen (has_seen old (word_at text t)) again)) ∙ e
