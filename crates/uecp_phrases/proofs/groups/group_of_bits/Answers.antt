use Rattle.std.proofs.Common.{[], ◌∷◌, refl, rules}
use Rattle.phrase_tokens.specs.View.{tokens_of}
use Rattle.uecp_phrases.specs.declared.expectation.Expectation.TheVariants as what
use Rattle.uecp_phrases.specs.Stops.{IsEnd}
use Rattle.uecp_phrases.proofs.Slots.{byte_on, number_on, group_slots, each_stuck}
use Rattle.uecp_phrases.proofs.Stopping.{err_is}
use Rattle.uecp_phrases.proofs.groups.group_of_bits.Goals as goal

pub returns-in_err-kind-clause-err : goal.returns-in_err-kind-clause-err
returns-in_err-kind-clause-err c =
    let stop = c.in_err-kind.field-0.0 in
    err_is c.from_residual.result stop _ (search rules) (λ region.
    each_stuck region what.TwoDigits (what.TwoDigits ∷ what.FourDigits ∷ what.FourDigits ∷ []) IsEnd []
    (tokens_of c.args.tokens.now) stop.what stop.left refl (group_slots region) (c.in_err-kind.ensures.err region))

pub returns-in_err-mode-clause-err : goal.returns-in_err-mode-clause-err
returns-in_err-mode-clause-err c =
    let stop = c.in_err-mode.field-0.0 in
    let behind = tokens_of c.in_ok-kind.rest.now in
    err_is c.from_residual-in_err-mode.result stop _ (search rules) (λ region.
    byte_on region (what.TwoDigits ∷ what.FourDigits ∷ what.FourDigits ∷ []) IsEnd (tokens_of c.args.tokens.now) behind
    c.in_ok-kind.kind stop.what stop.left c.in_ok-kind.ensures.ok
    (each_stuck region what.TwoDigits (what.FourDigits ∷ what.FourDigits ∷ []) IsEnd [] behind stop.what stop.left refl
    (group_slots region).2 (c.in_err-mode.ensures.err region)))

pub returns-in_err-block3-clause-err : goal.returns-in_err-block3-clause-err
returns-in_err-block3-clause-err c =
    let stop = c.in_err-block3.field-0.0 in
    let one = tokens_of c.in_ok-kind.rest.now in
    let two = tokens_of c.in_ok-mode.rest.now in
    err_is c.from_residual-in_err-block3.result stop _ (search rules) (λ region.
    byte_on region (what.TwoDigits ∷ what.FourDigits ∷ what.FourDigits ∷ []) IsEnd (tokens_of c.args.tokens.now) one
    c.in_ok-kind.kind stop.what stop.left c.in_ok-kind.ensures.ok
    (byte_on region (what.FourDigits ∷ what.FourDigits ∷ []) IsEnd one two c.in_ok-mode.mode stop.what stop.left
    c.in_ok-mode.ensures.ok
    (each_stuck region what.FourDigits (what.FourDigits ∷ []) IsEnd [] two stop.what stop.left refl
    (group_slots region).2.2 (c.in_err-block3.ensures.err region))))

pub returns-in_err-block4-clause-err : goal.returns-in_err-block4-clause-err
returns-in_err-block4-clause-err c =
    let stop = c.in_err-block4.field-0.0 in
    let one = tokens_of c.in_ok-kind.rest.now in
    let two = tokens_of c.in_ok-mode.rest.now in
    let three = tokens_of c.in_ok-block3.rest.now in
    err_is c.from_residual-in_err-block4.result stop _ (search rules) (λ region.
    byte_on region (what.TwoDigits ∷ what.FourDigits ∷ what.FourDigits ∷ []) IsEnd (tokens_of c.args.tokens.now) one
    c.in_ok-kind.kind stop.what stop.left c.in_ok-kind.ensures.ok
    (byte_on region (what.FourDigits ∷ what.FourDigits ∷ []) IsEnd one two c.in_ok-mode.mode stop.what stop.left
    c.in_ok-mode.ensures.ok
    (number_on region (what.FourDigits ∷ []) IsEnd two three c.in_ok-block3.block3 stop.what stop.left
    c.in_ok-block3.ensures.ok
    (each_stuck region what.FourDigits [] IsEnd [] three stop.what stop.left refl (group_slots region).2.2.2
    (c.in_err-block4.ensures.err region)))))

pub returns-in_err-end_in-clause-err : goal.returns-in_err-end_in-clause-err
returns-in_err-end_in-clause-err c =
    let stop = c.in_err-end_in.field-0.0 in
    let one = tokens_of c.in_ok-kind.rest.now in
    let two = tokens_of c.in_ok-mode.rest.now in
    let three = tokens_of c.in_ok-block3.rest.now in
    let four = tokens_of c.in_ok-block4.rest.now in
    err_is c.from_residual-in_err-end_in.result stop _ (search rules) (λ region.
    byte_on region (what.TwoDigits ∷ what.FourDigits ∷ what.FourDigits ∷ []) IsEnd (tokens_of c.args.tokens.now) one
    c.in_ok-kind.kind stop.what stop.left c.in_ok-kind.ensures.ok
    (byte_on region (what.FourDigits ∷ what.FourDigits ∷ []) IsEnd one two c.in_ok-mode.mode stop.what stop.left
    c.in_ok-mode.ensures.ok
    (number_on region (what.FourDigits ∷ []) IsEnd two three c.in_ok-block3.block3 stop.what stop.left
    c.in_ok-block3.ensures.ok
    (number_on region [] IsEnd three four c.in_ok-block4.block4 stop.what stop.left c.in_ok-block4.ensures.ok
    (c.in_err-end_in.ensures.err region)))))
