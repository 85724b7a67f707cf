use Rattle.std.proofs.Common.{[], ◌∷◌, ap, inl, sym, ◌∙◌, rules}
use Rattle.std.proofs.lemmas.Bool.{false≢true}
use Rattle.phrase_tokens.specs.View.{token_of, tokens_of}
use Rattle.uecp_phrases.specs.declared.head.Head.TheVariants as head
use Rattle.uecp_phrases.specs.declared.expectation.Expectation.TheVariants as what
use Rattle.uecp_phrases.specs.Stops.{Each, IsEnd}
use Rattle.uecp_phrases.proofs.Behind.{traffic_bits, traffic_other}
use Rattle.uecp_phrases.proofs.FirstWanted.{no_traffic, not_traffic, behind_told, behind_err}
use Rattle.uecp_phrases.proofs.Stopping.{err_is, stuck_at, stuck_at_end}
use Rattle.uecp_phrases.proofs.contents.traffic_in.Goals as goal

pub returns-in_default-clause-err : goal.returns-in_default-clause-err
returns-in_default-clause-err c =
    let stop = c.stop_at-stop.result in
    no_traffic (tokens_of c.args.tokens.now) stop.what stop.left (λ region.
    stuck_at_end region what.Traffic c.args.tokens.now stop.what stop.left c.stop_at-stop.ensures.what
    c.stop_at-stop.ensures.left c.in_default.ensures.cases)

pub returns-then-is_word-clause-err : goal.returns-then-is_word-clause-err
returns-then-is_word-clause-err c =
    behind_err c.byte_last.result head.Traffic (token_of c.in-Some.first.now)
    (λ region. Each region (what.TwoDigits ∷ []) IsEnd) (tokens_of c.args.tokens.now) (tokens_of c.in-Some.rest.now)
    (ap tokens_of c.in-Some.ensures.cases.0)
    (λ region. traffic_bits region (token_of c.in-Some.first.now) (c.is_word.ensures.0 c.if-is_word.true))
    c.byte_last.ensures.err

pub returns-in_default-flags_in-clause-err : goal.returns-in_default-flags_in-clause-err
returns-in_default-flags_in-clause-err c =
    let stop = c.stop_at-stop.result in
    no_traffic (tokens_of c.args.tokens.now) stop.what stop.left (λ region.
    stuck_at region what.Traffic c.args.tokens.now (tokens_of c.in-Some.rest.now) (token_of c.in-Some.first.now)
    stop.what stop.left (ap tokens_of c.in-Some.ensures.cases.0) c.stop_at-stop.ensures.what
    c.stop_at-stop.ensures.left
    (not_traffic region (token_of c.in-Some.first.now)
    (λ is. false≢true (sym c.if-is_word.false ∙ c.is_word.ensures.1 is)) c.in_default-flags_in.ensures.none))

pub returns-in_err-end_in-clause-err : goal.returns-in_err-end_in-clause-err
returns-in_err-end_in-clause-err c =
    let stop = c.in_err-end_in.field-0.0 in
    let named = c.in-Some-flags_in.ensures.some in
    err_is c.from_residual.result stop _ (search rules)
    (behind_told head.Traffic (token_of c.in-Some.first.now) (λ _. IsEnd) (tokens_of c.args.tokens.now)
    (tokens_of c.in-Some.rest.now) stop.what stop.left (ap tokens_of c.in-Some.ensures.cases.0) (λ region.
    traffic_other region (token_of c.in-Some.first.now)
    (λ is. false≢true (sym c.if-is_word.false ∙ c.is_word.ensures.1 is))
    (inl (named.0, c.in-Some-flags_in.raw, named.1, named.2))) c.in_err-end_in.ensures.err)
