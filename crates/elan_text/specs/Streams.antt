-- What one read of a source and one write to a sink do.
use Rattle.std.specs.Prelude.{◌≡◌, ◌<◌, ◌≤◌, ◌⊎◌, ℕ, Option, Some, None, List, [], ◌++◌, take}
use Rattle.std.specs.Option.{option_map}
use Rattle.elan_text.specs.declared.stream.Got.{Got}
use Rattle.elan_text.specs.declared.stream.Got.TheVariants as got
use Rattle.elan_text.specs.declared.stream.Put.{Put}
use Rattle.elan_text.specs.declared.stream.Put.TheVariants as put

-- a count rose in a call where it is greater at the return than at the call, or stands at the end of its type at the return
abbrev pub Rose : ℕ → ℕ → Type 0
Rose before after = (before < after) ⊎ (after ≡ 18446744073709551615)

-- a count of bytes out of so many that were offered: at least one where any were
abbrev pub IsCount : ℕ → ℕ → Type 0
IsCount n offered = (n ≤ offered) × (0 < offered → 0 < n)

-- what was left is this text and then what is left afterwards; who does not tell what is left does not tell afterwards either
abbrev pub Consumes : Option (List ℕ) → List ℕ → Option (List ℕ) → Type 0
Consumes before text after = before ≡ option_map (λ rest. text ++ rest) after

-- what is written afterwards is what was written and then this text; who does not tell what is written does not tell afterwards either
abbrev pub Appends : Option (List ℕ) → List ℕ → Option (List ℕ) → Type 0
Appends before text after = after ≡ option_map (λ bytes. bytes ++ text) before

-- nothing is left, where that is told
abbrev pub IsAtEnd : Option (List ℕ) → Type 0
IsAtEnd None = Unit {0}
IsAtEnd (Some bytes) = bytes ≡ []

-- a read puts the next bytes into the buffer, or leaves what is left as it is; the end comes only where nothing is left
abbrev pub Gives : Option (List ℕ) → Got → List ℕ → Option (List ℕ) → Type 0
Gives before (got.Bytes n) buffer after = Consumes before (take n buffer) after
Gives before got.End buffer after = (after ≡ before) × IsAtEnd before
Gives before got.Failed buffer after = after ≡ before

-- a write appends bytes from the front of the piece, or leaves what is written as it is
abbrev pub Takes : Option (List ℕ) → List ℕ → Put → Option (List ℕ) → Type 0
Takes before piece (put.Bytes n) after = Appends before (take n piece) after
Takes before piece put.Failed after = after ≡ before
