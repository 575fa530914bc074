-- What an index of sorts finds, and how many sorts and operators there are.
use Rattle.std.proofs.Common.{◌≡◌, ap, ◌∙◌, ℕ, ◌<◌, ◌^◌, true, ◌&&◌, List, length, arith}
use Rattle.std.proofs.lemmas.Grind.{common_steps}
use Rattle.std.specs.Prelude.{nat_lt}
use Rattle.elan_text.specs.declared.name.Name.{Name}
use Rattle.elan_program.specs.declared.signature.Signature.{Signature}
use Rattle.elan_program.specs.Soundness.{is_sound, most}
use Rattle.elan_names.specs.declared.groups.Groups.{Groups}
use Rattle.elan_names.specs.Names.{Word, places}
use Rattle.elan_names.specs.Groups.{KeyValue, under, is_key, by_name}
use Rattle.elan_names.proofs.IndexLemmas.{same_places, and_true}
use Rattle.elan_clauses.proofs.NumberLemmas.{left_true, right_true}
use Rattle.elan_check.specs.Laid.{is_sort_named, first_sort}
use Rattle.elan_check.specs.SortIndex.{sort_key, AreSorts}

at_sort : (w : Word) (name : Name) → is_key (by_name w) (sort_key name) ≡ is_sort_named w name
at_sort w name = and_true (is_sort_named w name)

pub sort_found : (index : Groups) (g : Signature) → AreSorts index g → (w : Word) (key : KeyValue) → key ≡ by_name w → (ns : List ℕ) → ns ≡ under index key
    → first_sort ns ≡ first_sort (places (is_sort_named w) 0 g.sorts)
sort_found index g known w key asked ns e =
    ap first_sort (e ∙ ap (under index) asked ∙ known (by_name w) ∙ same_places (λ name. is_key (by_name w) (sort_key name)) (is_sort_named w) (at_sort w) 0 g.sorts)

-- ---- how many there are

below_most : (n : ℕ) → nat_lt n most ≡ true → n < 2 ^ 32
below_most n e = grind (arith, common_steps)

-- a sound signature has fewer than 4,294,967,296 sorts
pub few_sorts : (g : Signature) → is_sound g ≡ true → length g.sorts < 2 ^ 32
unfolding is_sound
few_sorts g e = below_most (length g.sorts) (left_true (nat_lt (length g.sorts) most) (nat_lt (length g.operators) most)
    (left_true (nat_lt (length g.sorts) most && nat_lt (length g.operators) most) _ e))

-- and as few operators
pub few_operators : (g : Signature) → is_sound g ≡ true → length g.operators < 2 ^ 32
unfolding is_sound
few_operators g e = below_most (length g.operators) (right_true (nat_lt (length g.sorts) most) (nat_lt (length g.operators) most)
    (left_true (nat_lt (length g.sorts) most && nat_lt (length g.operators) most) _ e))
