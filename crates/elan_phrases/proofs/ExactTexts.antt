-- Texts are read exactly.
use Rattle.std.proofs.Common.{◌≡◌, ℕ, cond, List, refl}
use Rattle.elan_forms.specs.Whole.{done}
use Rattle.elan_forms.specs.Form.{after, begins_with}
use Rattle.elan_forms.proofs.Takes.{Takes, May, none, takes_token, may_pure, then_last, takes_spanned, may_loop, apart_none, none_within, within_itself, loop_turn}
use Rattle.elan_phrases.specs.declared.symbol.Symbol.TheVariants.{Name}
use Rattle.elan_phrases.specs.Symbols.{Seen, a, names, in_text}
use Rattle.elan_phrases.specs.Tokens.{span}
use Rattle.elan_phrases.specs.Texts.{text_token, more_text, text}
use Rattle.elan_phrases.proofs.ExactTokens.{kind, sample}

module _ (m : ℕ) where
  text_token_takes : Takes kind m in_text none text_token
  unfolding text_token in_text names
  text_token_takes = then_last (takes_token in_text (sample Name) refl) (λ _. may_pure)

  more_text_may : May kind m in_text in_text more_text
  unfolding more_text
  more_text_may = may_loop (λ _. text_token_takes) apart_none within_itself none_within tt

  pub text_takes : Takes kind m in_text in_text text
  unfolding text
  text_takes = takes_spanned span (then_last text_token_takes (λ _. more_text_may))

pub more_text_reads : (n : ℕ) (ts : List Seen) →
    more_text.read n ts ≡ cond (begins_with (a in_text) ts) (after (text_token.read n ts) (λ _. more_text))
    (done tt n ts)
unfolding more_text
more_text_reads n ts = loop_turn (λ _. a in_text) (λ _. text_token) (λ _. (text_token_takes 0).shrinks) tt n ts
