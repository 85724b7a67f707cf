use Rattle.std.proofs.Common.{refl, rules}
use Rattle.phrase_tokens.specs.Tokens.{Quoted}
use Rattle.phrase_tokens.specs.View.{tokens_of}
use Rattle.uecp_phrases.specs.declared.head.Head.TheVariants as head
use Rattle.uecp_phrases.specs.Stops.{IsEnd}
use Rattle.uecp_phrases.proofs.Behind.{ps_behind}
use Rattle.uecp_phrases.proofs.FirstWanted.{no_ps, behind_told}
use Rattle.uecp_phrases.proofs.Stopping.{err_is}
use Rattle.uecp_phrases.proofs.contents.name_in.Goals as goal

pub returns-in_err-text-clause-err : goal.returns-in_err-text-clause-err
returns-in_err-text-clause-err c =
    let stop = c.in_err-text.field-0.0 in
    err_is c.from_residual.result stop _ (search rules)
    (no_ps (tokens_of c.args.tokens.now) stop.what stop.left c.in_err-text.ensures.err)

pub returns-in_err-end_in-clause-err : goal.returns-in_err-end_in-clause-err
returns-in_err-end_in-clause-err c =
    let stop = c.in_err-end_in.field-0.0 in
    let text = c.in_ok-text.text.now in
    err_is c.from_residual-in_err-end_in.result stop _ (search rules)
    (behind_told head.Ps (Quoted text) (λ _. IsEnd) (tokens_of c.args.tokens.now) (tokens_of c.in_ok-text.rest.now)
    stop.what stop.left c.in_ok-text.ensures.ok
    (λ region. ps_behind region (Quoted text) (text, refl, c.in_ok-text.ensures.short)) c.in_err-end_in.ensures.err)
