use Rattle.std.proofs.Common.{[], ◌∷◌, ap, sym, ◌∙◌, rules}
use Rattle.std.proofs.lemmas.Bool.{false≢true}
use Rattle.phrase_tokens.specs.View.{token_of, tokens_of}
use Rattle.uecp_phrases.specs.declared.head.Head.TheVariants as head
use Rattle.uecp_phrases.specs.declared.expectation.Expectation.TheVariants as what
use Rattle.uecp_phrases.specs.Expecting.{IsStop}
use Rattle.uecp_phrases.specs.Stops.{Each, IsEnd, IsUnmet, Told}
use Rattle.uecp_phrases.proofs.Behind.{pty_bits, pty_other}
use Rattle.uecp_phrases.proofs.FirstWanted.{no_pty, not_type, a_type}
use Rattle.uecp_phrases.proofs.Stopping.{behind_stop, err_is, if_err, stuck_at, stuck_at_end}
use Rattle.uecp_phrases.proofs.contents.programme_type_in.Goals as goal

pub returns-in_default-clause-err : goal.returns-in_default-clause-err
returns-in_default-clause-err c =
    let stop = c.stop_at-stop.result in
    no_pty c.args.region (tokens_of c.args.tokens.now) stop.what stop.left
    (stuck_at_end c.args.region what.ProgrammeType c.args.tokens.now stop.what stop.left c.stop_at-stop.ensures.what
    c.stop_at-stop.ensures.left c.in_default.ensures.cases)

pub returns-then-is_word-clause-err : goal.returns-then-is_word-clause-err
returns-then-is_word-clause-err c =
    let t = token_of c.in-Some.first.now in
    if_err c.byte_last.result (λ s. IsUnmet (what.TwoDigits ∷ []) IsEnd (tokens_of c.in-Some.rest.now) s.what s.left)
    (λ s. IsStop c.args.region (Told c.args.region head.Pty) (tokens_of c.args.tokens.now) s.what s.left) (λ s stops.
    behind_stop c.args.region (Told c.args.region head.Pty) (Each c.args.region (what.TwoDigits ∷ []) IsEnd) t
    (tokens_of c.args.tokens.now) (tokens_of c.in-Some.rest.now) s.what s.left (ap tokens_of c.in-Some.ensures.cases.0)
    (pty_bits c.args.region t (c.is_word.ensures.0 c.if-is_word.true)) (stops c.args.region)) c.byte_last.ensures.err

pub returns-in_default-type_named-clause-err : goal.returns-in_default-type_named-clause-err
returns-in_default-type_named-clause-err c =
    let stop = c.stop_at-stop.result in
    no_pty c.args.region (tokens_of c.args.tokens.now) stop.what stop.left
    (stuck_at c.args.region what.ProgrammeType c.args.tokens.now (tokens_of c.in-Some.rest.now)
    (token_of c.in-Some.first.now) stop.what stop.left (ap tokens_of c.in-Some.ensures.cases.0)
    c.stop_at-stop.ensures.what c.stop_at-stop.ensures.left
    (not_type c.args.region (token_of c.in-Some.first.now)
    (λ is. false≢true (sym c.if-is_word.false ∙ c.is_word.ensures.1 is)) c.in_default-type_named.ensures.none))

pub returns-in_err-end_in-clause-err : goal.returns-in_err-end_in-clause-err
returns-in_err-end_in-clause-err c =
    let stop = c.in_err-end_in.field-0.0 in
    let t = token_of c.in-Some.first.now in
    err_is c.from_residual.result stop _ (search rules)
    (behind_stop c.args.region (Told c.args.region head.Pty) IsEnd t (tokens_of c.args.tokens.now)
    (tokens_of c.in-Some.rest.now) stop.what stop.left (ap tokens_of c.in-Some.ensures.cases.0)
    (pty_other c.args.region t (λ is. false≢true (sym c.if-is_word.false ∙ c.is_word.ensures.1 is))
    (a_type c.args.region t c.in-Some-type_named.raw c.in-Some-type_named.ensures.some))
    (c.in_err-end_in.ensures.err c.args.region))
