use Rattle.std.proofs.Common.{ap, rules}
use Rattle.phrase_tokens.specs.View.{token_of, tokens_of}
use Rattle.uecp_phrases.specs.declared.expectation.Expectation.TheVariants as what
use Rattle.uecp_phrases.proofs.Stopping.{err_is, stuck_at, stuck_at_end}
use Rattle.uecp_phrases.proofs.Switching.{no_switch, switch_stop}
use Rattle.uecp_phrases.proofs.contents.switch_in.Goals as goal

pub returns-in_default-clause-err : goal.returns-in_default-clause-err
returns-in_default-clause-err c =
    let stop = c.stop_at-stop.result in
    λ region. no_switch region (tokens_of c.args.tokens.now) stop.what stop.left
    (stuck_at_end region what.Switch c.args.tokens.now stop.what stop.left c.stop_at-stop.ensures.what
    c.stop_at-stop.ensures.left c.in_default.ensures.cases)

pub returns-in_default-is_on-clause-err : goal.returns-in_default-is_on-clause-err
returns-in_default-is_on-clause-err c =
    let stop = c.stop_at-stop.result in
    λ region. no_switch region (tokens_of c.args.tokens.now) stop.what stop.left
    (stuck_at region what.Switch c.args.tokens.now (tokens_of c.in-Some.rest.now) (token_of c.in-Some.first.now)
    stop.what stop.left (ap tokens_of c.in-Some.ensures.cases.0) c.stop_at-stop.ensures.what
    c.stop_at-stop.ensures.left (λ m. c.in_default-is_on.ensures.none m.0 m.1))

pub returns-in_err-end_in-clause-err : goal.returns-in_err-end_in-clause-err
returns-in_err-end_in-clause-err c =
    let stop = c.in_err-end_in.field-0.0 in
    err_is c.from_residual.result stop _ (search rules)
    (λ region. switch_stop region (token_of c.in-Some.first.now) c.in-Some-is_on.is_on (tokens_of c.args.tokens.now)
    (tokens_of c.in-Some.rest.now) stop.what stop.left c.in-Some-is_on.ensures.some
    (ap tokens_of c.in-Some.ensures.cases.0) (c.in_err-end_in.ensures.err region))
