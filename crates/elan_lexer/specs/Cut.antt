-- The piece at the front of a text, step by step.
use Rattle.std.specs.Prelude.{ℕ, suc, ◌==◌, Bool, cond, ◌&&◌, nat_le, List, [], ◌∷◌, take, drop, Option, Some, None, Result, Ok, Err}
use Rattle.elan_lexer.specs.declared.token.Kind.{Kind}
use Rattle.elan_lexer.specs.declared.token.Kind.TheVariants.{Word, Number, Sign}
use Rattle.elan_lexer.specs.declared.bytes.Class.TheVariants as class
use Rattle.elan_lexer.specs.declared.fault.Fault.{Fault}
use Rattle.elan_lexer.specs.declared.fault.Fault.TheVariants.{BadByte, Unclosed, TooLarge}
use Rattle.elan_lexer.specs.Bytes.{is_white, is_letter, is_digit, is_visible, is_in, value, max_number, begins, begins_pair}

-- the kind and the length of a piece, or its fault
abbrev pub Cut : Type 0
Cut = Result (Option Kind × ℕ) Fault

-- how many bytes of a kind stand at the front
abbrev pub run : (ℕ → Bool) → List ℕ → ℕ
run p [] = 0
run p (b ∷ bs) = cond (p b) (suc (run p bs)) 0

-- how many bytes there are up to the end of a comment, with that end
unfoldable pub close : List ℕ → Option ℕ
close [] = None
close (b ∷ bs) = cond (b == 42 && begins 47 bs) (Some 2) (elim (close bs) [ None ↦ None | Some n ↦ Some (suc n) ])

-- a comment that has its end so many bytes after `/*`, or no end
abbrev pub block : Option ℕ → Cut
block None = Err Unclosed
block (Some n) = Ok (None, suc (suc n))

-- a text after a slash
unfoldable pub slash : List ℕ → Cut
slash bs = cond (begins 47 bs) (Ok (None, suc (run (is_in class.Line) bs)))
    (cond (begins 42 bs) (block (close (drop 1 bs))) (Ok (Some Sign, 1)))

-- a number of so many digits
unfoldable pub number : ℕ → List ℕ → Cut
number n bytes = cond (nat_le (value (take n bytes)) max_number) (Ok (Some Number, n)) (Err TooLarge)

-- the piece of a text with this first byte and these further ones
unfoldable pub piece : ℕ → List ℕ → Cut
piece b bs =
    cond (is_white b) (Ok (None, 1))
    (cond (is_letter b) (Ok (Some Word, suc (run (is_in class.Word) bs)))
    (cond (is_digit b) (number (suc (run (is_in class.Digit) bs)) (b ∷ bs))
    (cond (b == 47) (slash bs)
    (cond (is_visible b) (Ok (Some Sign, cond (begins_pair b bs) 2 1)) (Err BadByte)))))
