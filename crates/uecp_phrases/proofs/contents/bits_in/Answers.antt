use Rattle.std.proofs.Common.{[], ◌∷◌, ap, sym, ◌∙◌}
use Rattle.std.proofs.lemmas.Bool.{false≢true}
use Rattle.phrase_tokens.specs.View.{token_of, tokens_of}
use Rattle.uecp_phrases.specs.declared.head.Head.TheVariants as head
use Rattle.uecp_phrases.specs.declared.expectation.Expectation.TheVariants as what
use Rattle.uecp_phrases.specs.Stops.{Each, IsStuck, IsEnd}
use Rattle.uecp_phrases.proofs.Behind.{ms_bits}
use Rattle.uecp_phrases.proofs.FirstWanted.{no_ms, behind_err}
use Rattle.uecp_phrases.proofs.Stopping.{stuck_at, stuck_at_end}
use Rattle.uecp_phrases.proofs.contents.bits_in.Goals as goal
use Rattle.uecp_phrases.proofs.contents.bits_in.Goals.{in_default-via-in-Some+else-is_word, in_default-via-in_default}

pub returns-in-Some-clause-err : goal.returns-in-Some-clause-err
returns-in-Some-clause-err c =
    behind_err c.byte_last.result head.Ms (token_of c.in-Some.first.now)
    (λ region. Each region (what.TwoDigits ∷ []) IsEnd) (tokens_of c.args.tokens.now) (tokens_of c.in-Some.rest.now)
    (ap tokens_of c.in-Some.ensures.cases.0)
    (λ region. ms_bits region (token_of c.in-Some.first.now) (c.is_word.ensures.0 c.if-is_word.true))
    c.byte_last.ensures.err

pub returns-in_default-clause-err : goal.returns-in_default-clause-err
returns-in_default-clause-err c =
    let stop = c.stop_at.result in
    no_ms (tokens_of c.args.tokens.now) stop.what stop.left (λ region.
    elim c.in_default.branch as (λ _. IsStuck region what.Bits (tokens_of c.args.tokens.now) stop.what stop.left) [
      | in_default-via-in-Some+else-is_word w ↦ stuck_at region what.Bits c.args.tokens.now
          (tokens_of w.in-Some.rest.now) (token_of w.in-Some.first.now) stop.what stop.left
          (ap tokens_of w.in-Some.ensures.cases.0) c.stop_at.ensures.what c.stop_at.ensures.left
          (λ is. false≢true (sym w.if-is_word.false ∙ w.is_word.ensures.1 is))
      | in_default-via-in_default w ↦ stuck_at_end region what.Bits c.args.tokens.now stop.what stop.left
          c.stop_at.ensures.what c.stop_at.ensures.left w.in_default.ensures.cases
    ])
