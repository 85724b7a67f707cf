use Rattle.std.proofs.Common.{[], ◌∷◌, inl, refl, rules}
use Rattle.phrase_tokens.specs.View.{tokens_of}
use Rattle.uecp_phrases.specs.declared.expectation.Expectation.TheVariants as what
use Rattle.uecp_phrases.specs.Stops.{IsAddOrEnd}
use Rattle.uecp_phrases.proofs.Slots.{five_on, number_on, called_slots, each_stuck}
use Rattle.uecp_phrases.proofs.Stopping.{err_is}
use Rattle.uecp_phrases.proofs.groups.called_group.Goals as goal

pub returns-in_err-bits-clause-err : goal.returns-in_err-bits-clause-err
returns-in_err-bits-clause-err c =
    let stop = c.in_err-bits.field-0.0 in
    err_is c.from_residual.result stop _ (search rules) (λ region.
    each_stuck region what.FiveBits (what.FourDigits ∷ what.FourDigits ∷ []) IsAddOrEnd []
    (tokens_of c.args.tokens.now) stop.what stop.left (inl refl) (called_slots region)
    (c.in_err-bits.ensures.err region))

pub returns-in_err-block3-clause-err : goal.returns-in_err-block3-clause-err
returns-in_err-block3-clause-err c =
    let stop = c.in_err-block3.field-0.0 in
    let one = tokens_of c.in_ok-bits.rest.now in
    err_is c.from_residual-in_err-block3.result stop _ (search rules) (λ region.
    five_on region (what.FourDigits ∷ what.FourDigits ∷ []) IsAddOrEnd (tokens_of c.args.tokens.now) one
    c.in_ok-bits.bits stop.what stop.left c.in_ok-bits.ensures.ok
    (each_stuck region what.FourDigits (what.FourDigits ∷ []) IsAddOrEnd [] one stop.what stop.left (inl refl)
    (called_slots region).2 (c.in_err-block3.ensures.err region)))

pub returns-in_err-block4-clause-err : goal.returns-in_err-block4-clause-err
returns-in_err-block4-clause-err c =
    let stop = c.in_err-block4.field-0.0 in
    let one = tokens_of c.in_ok-bits.rest.now in
    let two = tokens_of c.in_ok-block3.rest.now in
    err_is c.from_residual-in_err-block4.result stop _ (search rules) (λ region.
    five_on region (what.FourDigits ∷ what.FourDigits ∷ []) IsAddOrEnd (tokens_of c.args.tokens.now) one
    c.in_ok-bits.bits stop.what stop.left c.in_ok-bits.ensures.ok
    (number_on region (what.FourDigits ∷ []) IsAddOrEnd one two c.in_ok-block3.block3 stop.what stop.left
    c.in_ok-block3.ensures.ok
    (each_stuck region what.FourDigits [] IsAddOrEnd [] two stop.what stop.left (inl refl) (called_slots region).2.2
    (c.in_err-block4.ensures.err region))))

pub returns-in_err-adds-clause-err : goal.returns-in_err-adds-clause-err
returns-in_err-adds-clause-err c =
    let stop = c.in_err-adds.field-0.0 in
    let one = tokens_of c.in_ok-bits.rest.now in
    let two = tokens_of c.in_ok-block3.rest.now in
    let three = tokens_of c.in_ok-block4.rest.now in
    err_is c.from_residual-in_err-adds.result stop _ (search rules) (λ region.
    five_on region (what.FourDigits ∷ what.FourDigits ∷ []) IsAddOrEnd (tokens_of c.args.tokens.now) one
    c.in_ok-bits.bits stop.what stop.left c.in_ok-bits.ensures.ok
    (number_on region (what.FourDigits ∷ []) IsAddOrEnd one two c.in_ok-block3.block3 stop.what stop.left
    c.in_ok-block3.ensures.ok
    (number_on region [] IsAddOrEnd two three c.in_ok-block4.block4 stop.what stop.left c.in_ok-block4.ensures.ok
    (c.in_err-adds.ensures.err region))))
