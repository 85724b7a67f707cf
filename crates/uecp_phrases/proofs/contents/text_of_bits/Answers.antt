use Rattle.std.proofs.Common.{[], ◌∷◌, refl, rules}
use Rattle.phrase_tokens.specs.View.{tokens_of}
use Rattle.uecp_phrases.specs.declared.expectation.Expectation.TheVariants as what
use Rattle.uecp_phrases.specs.Stops.{IsEnd}
use Rattle.uecp_phrases.proofs.Slots.{byte_on, text_on, text_slots, each_stuck}
use Rattle.uecp_phrases.proofs.Stopping.{err_is}
use Rattle.uecp_phrases.proofs.contents.text_of_bits.Goals as goal

pub returns-in_err-head-clause-err : goal.returns-in_err-head-clause-err
returns-in_err-head-clause-err c =
    let stop = c.in_err-head.field-0.0 in
    err_is c.from_residual.result stop _ (search rules) (λ region.
    each_stuck region what.TwoDigits (what.Text ∷ []) IsEnd [] (tokens_of c.args.tokens.now) stop.what stop.left refl
    (text_slots region) (c.in_err-head.ensures.err region))

pub returns-in_err-text-clause-err : goal.returns-in_err-text-clause-err
returns-in_err-text-clause-err c =
    let stop = c.in_err-text.field-0.0 in
    let one = tokens_of c.in_ok-head.rest.now in
    err_is c.from_residual-in_err-text.result stop _ (search rules) (λ region.
    byte_on region (what.Text ∷ []) IsEnd (tokens_of c.args.tokens.now) one c.in_ok-head.head stop.what stop.left
    c.in_ok-head.ensures.ok
    (each_stuck region what.Text [] IsEnd [] one stop.what stop.left refl (text_slots region).2
    (c.in_err-text.ensures.err region)))

pub returns-in_err-end_in-clause-err : goal.returns-in_err-end_in-clause-err
returns-in_err-end_in-clause-err c =
    let stop = c.in_err-end_in.field-0.0 in
    let one = tokens_of c.in_ok-head.rest.now in
    err_is c.from_residual-in_err-end_in.result stop _ (search rules) (λ region.
    byte_on region (what.Text ∷ []) IsEnd (tokens_of c.args.tokens.now) one c.in_ok-head.head stop.what stop.left
    c.in_ok-head.ensures.ok
    (text_on region [] IsEnd one (tokens_of c.in_ok-text.rest.now) c.in_ok-text.text.now stop.what stop.left
    c.in_ok-text.ensures.ok (c.in_err-end_in.ensures.err region)))
