use Rattle.std.proofs.Common.{◌≡◌, [], ◌∷◌, Err, ap, sym, ◌∙◌, subst, rules}
use Rattle.phrase_tokens.specs.Tokens.{Word}
use Rattle.phrase_tokens.specs.View.{token_of, tokens_of}
use Rattle.uecp_phrases.specs.Phrases.{Make}
use Rattle.uecp_phrases.specs.Reading.{choices_of, choice_word, choices_left, IsStep}
use Rattle.uecp_phrases.specs.Expecting.{IsStopAlways}
use Rattle.uecp_phrases.specs.Stops.{AreChosen}
use Rattle.uecp_phrases.proofs.Stepping.{step_then}
use Rattle.uecp_phrases.proofs.Choosing.{choice_next, no_choice_here, step_stop}
use Rattle.uecp_phrases.proofs.Stopping.{stop_here, stop_behind, counted, err_is, if_err, if_ok}
use Rattle.uecp_phrases.proofs.choices.+made_in.Goals as goal

pub returns-in_default-free_choice-clause-err : goal.returns-in_default-free_choice-clause-err
returns-in_default-free_choice-clause-err _ c region =
    stop_here region (AreChosen (choices_of c.args.before)) (tokens_of c.args.tokens.now) (tokens_of c.in-Some.rest.now)
    (token_of c.in-Some.first.now) (choices_left (choices_of c.args.before)) c.stop_at.result.what c.stop_at.result.left
    (ap tokens_of c.in-Some.ensures.cases.0) (c.stop_at.ensures.what ∙ c.wanted_behind.ensures)
    (counted c.args.tokens.now c.stop_at.result.left c.stop_at.ensures.left)
    (choice_next region (choices_of c.args.before))
    (no_choice_here region (choices_of c.args.before) (token_of c.in-Some.first.now)
    c.in_default-free_choice.ensures.none)

pub returns-in_err-made-clause-err : goal.returns-in_err-made-clause-err
returns-in_err-made-clause-err _ c =
    let stop = c.in_err-made.field-0.0 in
    let is : c.from_residual.result ≡ Err stop = search rules in
    let whole : tokens_of c.args.tokens.now ≡ Word (choice_word c.in-Some-free_choice.choice)
    ∷ tokens_of c.in-Some.rest.now =
    ap tokens_of c.in-Some.ensures.cases.0 ∙ ap (λ t. t ∷ tokens_of c.in-Some.rest.now)
    c.in-Some-free_choice.ensures.known in
    err_is c.from_residual.result stop _ is (λ region.
    stop_behind region (AreChosen (choices_of c.args.before)) (Word (choice_word c.in-Some-free_choice.choice) ∷ [])
    (tokens_of c.args.tokens.now) (tokens_of c.in-Some.rest.now) stop.what stop.left whole
    (c.in_err-made.ensures.err region))

pub returns-clause-ok : goal.returns-clause-ok
returns-clause-ok _ c =
    let whole : tokens_of c.args.tokens.now ≡ Word (choice_word c.in-Some-free_choice.choice)
    ∷ tokens_of c.in-Some.rest.now =
    ap tokens_of c.in-Some.ensures.cases.0 ∙ ap (λ t. t ∷ tokens_of c.in-Some.rest.now)
    c.in-Some-free_choice.ensures.known in
    let step = subst (λ l. IsStep (choices_of c.args.before) l (choices_of c.in_ok-made.made)
    (tokens_of c.in_ok-made.rest.now)) (sym whole) c.in_ok-made.ensures.ok in
    if_ok c.made_in.result (λ made. Make (choices_of c.in_ok-made.made) (tokens_of c.in_ok-made.rest.now)
    (choices_of made)) (λ made. Make (choices_of c.args.before) (tokens_of c.args.tokens.now) (choices_of made))
    (λ made others. step_then (choices_of c.args.before) (choices_of c.in_ok-made.made) (choices_of made)
    (tokens_of c.args.tokens.now) (tokens_of c.in_ok-made.rest.now) step others) c.made_in.ensures.ok

pub returns-clause-err : goal.returns-clause-err
returns-clause-err _ c =
    let whole : tokens_of c.args.tokens.now ≡ Word (choice_word c.in-Some-free_choice.choice)
    ∷ tokens_of c.in-Some.rest.now =
    ap tokens_of c.in-Some.ensures.cases.0 ∙ ap (λ t. t ∷ tokens_of c.in-Some.rest.now)
    c.in-Some-free_choice.ensures.known in
    let step = subst (λ l. IsStep (choices_of c.args.before) l (choices_of c.in_ok-made.made)
    (tokens_of c.in_ok-made.rest.now)) (sym whole) c.in_ok-made.ensures.ok in
    if_err c.made_in.result (λ stop. IsStopAlways (AreChosen (choices_of c.in_ok-made.made))
    (tokens_of c.in_ok-made.rest.now) stop.what stop.left)
    (λ stop. IsStopAlways (AreChosen (choices_of c.args.before)) (tokens_of c.args.tokens.now) stop.what stop.left)
    (λ stop stops region. step_stop region (choices_of c.args.before) (choices_of c.in_ok-made.made)
    (tokens_of c.args.tokens.now) (tokens_of c.in_ok-made.rest.now) stop.what stop.left step (stops region))
    c.made_in.ensures.err
