use Rattle.std.proofs.Common.{◌≡◌, chars, ap, subst, ◌∙◌, inr}
use Rattle.phrase_tokens.specs.Tokens.{Lays}
use Rattle.phrase_tokens.specs.View.{tokens_of}
use Rattle.phrase_scripts.specs.Lines.{Line, Tell}
use Rattle.phrase_scripts.proofs.Telling.{says_none}
use Rattle.phrase_scripts.proofs.script_line.phrase_line.Goals as goal

pub returns-in-Ok-tokens_of-clause-refused : goal.returns-in-Ok-tokens_of-clause-refused
returns-in-Ok-tokens_of-clause-refused c =
    let tokens = tokens_of c.in-Ok-tokens_of.tokens.items in
    let text_is : c.as_slice-characters.result.now ≡ chars c.args.text.now =
    c.as_slice-characters.ensures.value ∙ c.in_ok-characters.ensures ∙ ap chars c.in-Ok.ensures.cases.0 in
    inr (
      c.in_ok-unsaid-in-None.ensures,
      says_none c.args.region c.args.text.now tokens
          (subst (Lays tokens) text_is c.in-Ok-tokens_of.ensures.ok)
          (subst (λ ts. (line : Line) → Tell c.args.region (tokens_of ts) line → ⊥) c.as_slice-tokens.ensures.value
          c.in-None.ensures.none),
    )
