-- Where the module of a name is.
use Rattle.std.proofs.Common.{◌≡◌, ℕ, zero, suc, ◌+◌, true, List, [], ◌∷◌, drop, slice_get, Option, Some, None, refl}
use Rattle.std.specs.Str.{bytes_eq}
use Rattle.elan_syntax.specs.declared.parts.ModuleOutline.{ModuleOutline}
use Rattle.elan_modules.specs.declared.flat.LoadedText.{LoadedText}
use Rattle.elan_modules.specs.Modules.{find_in, find, found_first, name_of}
use Rattle.elan_modules.specs.Finds.{FindsIn, Finds}

-- the first item that is left is the one of this number
pub get_at_drop : {A : Type 0} (xs : List A) (n : ℕ) (x : A) (rest : List A) → x ∷ rest ≡ drop n xs → slice_get xs n ≡ Some x
get_at_drop [] zero x rest e = absurd cc
get_at_drop [] (suc n) x rest e = absurd cc
get_at_drop (y ∷ ys) zero x rest e = cc
get_at_drop (y ∷ ys) (suc n) x rest e = get_at_drop ys n x rest e

pub found_at : (text : LoadedText) (j : ℕ) (m : ModuleOutline) (rest : List ModuleOutline) (name : List ℕ)
    → m ∷ rest ≡ drop j text.modules → bytes_eq (name_of text m) name ≡ true
    → FindsIn text.modules (Some j) (find_in text j (m ∷ rest) name)
unfolding find_in
found_at text j m rest name here is = rw is (refl, get_at_drop text.modules j m rest here)

pub finds_here : (texts : List LoadedText) (i j : ℕ) (text : LoadedText) (rest : List LoadedText) (name : List ℕ)
    → text ∷ rest ≡ drop i texts → FindsIn text.modules (Some j) (find_in text 0 text.modules name)
    → Finds texts (Some (record { text = i; «module» = j })) (find i (text ∷ rest) name)
unfolding find
finds_here texts i j text rest name here is = go (find_in text 0 text.modules name) is
  where
    go : (x : Option (ℕ × ModuleOutline)) → FindsIn text.modules (Some j) x
        → Finds texts (Some (record { text = i; «module» = j })) (found_first i text x (find (i + 1) rest name))
    go None is = absurd is
    go (Some at) is = record {
      text_number = refl;
      module_number = is.0;
      text = get_at_drop texts i text rest here;
      outline = is.1;
    }

pub finds_later : (texts : List LoadedText) (i : ℕ) (text : LoadedText) (rest : List LoadedText) (name : List ℕ)
    → FindsIn text.modules None (find_in text 0 text.modules name) → find (i + 1) rest name ≡ find i (text ∷ rest) name
unfolding find
finds_later texts i text rest name is = go (find_in text 0 text.modules name) is
  where
    go : (x : Option (ℕ × ModuleOutline)) → FindsIn text.modules None x
        → find (i + 1) rest name ≡ found_first i text x (find (i + 1) rest name)
    go None is = refl
    go (Some at) is = absurd is
