use Rattle.std.proofs.Common.{refl, rules}
use Rattle.phrase_tokens.specs.Tokens.{Word}
use Rattle.phrase_tokens.specs.View.{tokens_of}
use Rattle.uecp_phrases.specs.declared.head.Head.TheVariants as head
use Rattle.uecp_phrases.specs.Stops.{IsEnd}
use Rattle.uecp_phrases.proofs.Behind.{pi_behind}
use Rattle.uecp_phrases.proofs.FirstWanted.{no_pi, behind_told}
use Rattle.uecp_phrases.proofs.Stopping.{err_is}
use Rattle.uecp_phrases.proofs.contents.pi_in.Goals as goal

pub returns-in_err-pi-clause-err : goal.returns-in_err-pi-clause-err
returns-in_err-pi-clause-err c =
    let stop = c.in_err-pi.field-0.0 in
    err_is c.from_residual.result stop _ (search rules)
    (no_pi (tokens_of c.args.tokens.now) stop.what stop.left c.in_err-pi.ensures.err)

pub returns-in_err-end_in-clause-err : goal.returns-in_err-end_in-clause-err
returns-in_err-end_in-clause-err c =
    let stop = c.in_err-end_in.field-0.0 in
    let first = c.in_ok-pi.ensures.ok in
    err_is c.from_residual-in_err-end_in.result stop _ (search rules)
    (behind_told head.Pi (Word first.0) (λ _. IsEnd) (tokens_of c.args.tokens.now) (tokens_of c.in_ok-pi.rest.now)
    stop.what stop.left first.1
    (λ region. pi_behind region (Word first.0) (first.0, c.in_ok-pi.pi, refl, first.2)) c.in_err-end_in.ensures.err)
