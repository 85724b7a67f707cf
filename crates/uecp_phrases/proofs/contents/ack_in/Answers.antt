use Rattle.std.proofs.Common.{[], ◌∷◌, refl, rules}
use Rattle.phrase_tokens.specs.Tokens.{Word}
use Rattle.phrase_tokens.specs.View.{tokens_of}
use Rattle.uecp_phrases.specs.declared.head.Head.TheVariants as head
use Rattle.uecp_phrases.specs.declared.expectation.Expectation.TheVariants as what
use Rattle.uecp_phrases.specs.Stops.{Each, IsEnd}
use Rattle.uecp_phrases.proofs.Behind.{ack_behind}
use Rattle.uecp_phrases.proofs.FirstWanted.{no_ack, behind_told}
use Rattle.uecp_phrases.proofs.Stopping.{err_is}
use Rattle.uecp_phrases.proofs.contents.ack_in.Goals as goal

pub returns-in_err-code-clause-err : goal.returns-in_err-code-clause-err
returns-in_err-code-clause-err c =
    let stop = c.in_err-code.field-0.0 in
    err_is c.from_residual.result stop _ (search rules)
    (no_ack (tokens_of c.args.tokens.now) stop.what stop.left c.in_err-code.ensures.err)

pub returns-in_err-counter-clause-err : goal.returns-in_err-counter-clause-err
returns-in_err-counter-clause-err c =
    let stop = c.in_err-counter.field-0.0 in
    let first = c.in_ok-code.ensures.ok in
    err_is c.from_residual-in_err-counter.result stop _ (search rules)
    (behind_told head.Ack (Word first.0) (λ region. Each region (what.TwoDigits ∷ []) IsEnd)
    (tokens_of c.args.tokens.now) (tokens_of c.in_ok-code.rest.now) stop.what stop.left first.1
    (λ region. ack_behind region (Word first.0) (first.0, c.in_ok-code.code, refl, first.2))
    c.in_err-counter.ensures.err)
