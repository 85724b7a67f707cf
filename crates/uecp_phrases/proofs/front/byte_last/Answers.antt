use Rattle.std.proofs.Common.{[], refl, rules}
use Rattle.phrase_tokens.specs.View.{tokens_of}
use Rattle.uecp_phrases.specs.declared.expectation.Expectation.TheVariants as what
use Rattle.uecp_phrases.specs.Stops.{IsEnd}
use Rattle.uecp_phrases.proofs.Slots.{byte_on, byte_slots, each_stuck}
use Rattle.uecp_phrases.proofs.Stopping.{err_is}
use Rattle.uecp_phrases.proofs.front.byte_last.Goals as goal

pub returns-in_err-byte-clause-err : goal.returns-in_err-byte-clause-err
returns-in_err-byte-clause-err c =
    let stop = c.in_err-byte.field-0.0 in
    err_is c.from_residual.result stop _ (search rules) (λ region.
    each_stuck region what.TwoDigits [] IsEnd [] (tokens_of c.args.tokens.now) stop.what stop.left refl
    (byte_slots region) (c.in_err-byte.ensures.err region))

pub returns-in_err-end_in-clause-err : goal.returns-in_err-end_in-clause-err
returns-in_err-end_in-clause-err c =
    let stop = c.in_err-end_in.field-0.0 in
    err_is c.from_residual-in_err-end_in.result stop _ (search rules) (λ region.
    byte_on region [] IsEnd (tokens_of c.args.tokens.now) (tokens_of c.in_ok-byte.rest.now) c.in_ok-byte.byte stop.what
    stop.left c.in_ok-byte.ensures.ok (c.in_err-end_in.ensures.err region))
