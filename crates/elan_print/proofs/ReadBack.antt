-- The tokens of a valid canonical term have a reading whose canonical form is the term, and its text is cut into them.
use Rattle.std.proofs.Common.{◌≡◌, ◌∙◌, true, List, map}
use Rattle.elan_terms.specs.declared.tree.SortId.{SortId}
use Rattle.elan_terms.specs.declared.tree.Term.{Term}
use Rattle.elan_terms.specs.Valid.{IsValid, IsValidOf}
use Rattle.elan_terms.specs.Canonical.{IsCanonical}
use Rattle.elan_program.specs.declared.signature.Signature.{Signature}
use Rattle.elan_program.specs.Signature.{shapes_of}
use Rattle.elan_program.specs.Soundness.{is_sound}
use Rattle.elan_reading.specs.declared.lexeme.Variable.{Variable}
use Rattle.elan_print.specs.Tokens.{token_of}
use Rattle.elan_print.specs.Terms.{nested, shown_of, term_tokens, term_text}
use Rattle.elan_print.specs.Laws.{ReadsAs, IsCutInto}
use Rattle.elan_print.proofs.Nesting.{canon-nested, FitsLike, nested_fits}
use Rattle.elan_print.proofs.Reading.{term_read}
use Rattle.elan_print.proofs.Ascii.{good_tokens}
use Rattle.elan_print.proofs.Lexing.{tokens_again}

pub reads_back : (g : Signature) (variables : List Variable) (s : SortId) (t : Term) → is_sound g ≡ true → IsValidOf (shapes_of g) s t → IsCanonical (shapes_of g) t
    → ReadsAs g variables s (map token_of (term_tokens g t)) t
unfolding term_tokens shown_of
reads_back g variables s t sound valid canonical =
    let k : FitsLike g t (nested g t) = nested_fits g sound t valid.0 in
    (nested g t, term_read g variables sound (nested g t) k.0 s (k.1 ∙ valid.1), canon-nested g t canonical)

pub text_cut : (g : Signature) (t : Term) → is_sound g ≡ true → IsValid (shapes_of g) t → IsCutInto (term_text g t) (map token_of (term_tokens g t))
unfolding term_text
text_cut g t sound valid = tokens_again (term_tokens g t) (good_tokens g t sound valid)
