-- The laws.
use Rattle.std.proofs.Common.{◌≡◌, sym, ap, ◌∙◌, ◌⊎◌, ℕ, ◌+◌, ◌*◌, ◌/◌, ◌<◌, ◌≤◌, List, ◌++◌, length, take, length-append, arith}
use Rattle.std.proofs.lemmas.Nat.{le-div}
use Rattle.elan_terms.specs.declared.tree.Term.{Term}
use Rattle.elan_terms.specs.Ascending.{Ascends}
use Rattle.elan_laws.specs.Parts.{SomeOf, times}
use Rattle.elan_bags.specs.Choices.{BeginsAfter, NotAfterList}
use Rattle.elan_bags.specs.Bags.{IsLeft, IsOver}
use Rattle.elan_bags.proofs.TimesLemmas.{times-append, some_of_times, equal_of_times, length_of_times}
use Rattle.elan_bags.proofs.ManyLemmas.{many_times, many_times-times, many_times-length}
use Rattle.elan_bags.proofs.ChoiceLemmas.{begins_or_after}

pub choice_law : (k : ℕ) (xs ys : List Term) → k ≤ length xs → NotAfterList xs ys → (take k xs ≡ take k ys) ⊎ BeginsAfter (take k xs) ys
choice_law = begins_or_after

pub ruleset choice_laws = (choice_law)

pub equal_law : (us ts : List Term) → Ascends us → Ascends ts → ((t : Term) → times t us ≡ times t ts) → us ≡ ts
equal_law = equal_of_times

pub long_law : (us ts : List Term) → ((t : Term) → times t us ≡ times t ts) → length us ≡ length ts
long_law = length_of_times

pub left_law : (us vs ws : List Term) → IsLeft us vs ws → length us ≡ length vs + length ws
left_law us vs ws h = length_of_times us (vs ++ ws) (λ t. h.all t ∙ sym (times-append t vs ws)) ∙ length-append vs ws

pub ruleset bag_laws = (equal_law, long_law, left_law)

pub share_among : (many : ℕ) (us ms os ws : List Term) → 0 < many → Ascends ms → IsOver many us ws → ((t : Term) → times t us ≡ many * times t ms + times t os) → SomeOf ms ws
share_among many us ms os ws some up h e = some_of_times ms ws up h.ascends (λ t.
    let all : times t us ≡ many * times t ms + times t os = e t in
    let each : times t ws ≡ times t us / many = h.each t in
    let le : times t ms ≤ times t us / many = le-div (times t ms) (times t us) many some (omega arith) in
    omega arith)

pub share_long : (many : ℕ) (us ms os : List Term) → ((t : Term) → times t us ≡ many * times t ms + times t os) → length us ≡ many * length ms + length os
share_long many us ms os e =
    length_of_times us (many_times many ms ++ os) (λ t. e t ∙ ap (λ n. n + times t os) (sym (many_times-times many ms t)) ∙ sym (times-append t (many_times many ms) os))
    ∙ length-append (many_times many ms) os ∙ ap (λ n. n + length os) (many_times-length many ms)

pub ruleset share_laws = (share_among, share_long)
