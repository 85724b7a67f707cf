use Rattle.std.proofs.Common.{ap, sym, ◌∙◌, rules}
use Rattle.std.proofs.lemmas.Bool.{false≢true}
use Rattle.phrase_tokens.specs.View.{token_of, tokens_of}
use Rattle.uecp_phrases.specs.declared.expectation.Expectation.TheVariants as what
use Rattle.uecp_phrases.specs.Stops.{IsAddOrEnd, IsEnd}
use Rattle.uecp_phrases.proofs.Stopping.{behind_stop, stop_here, counted, err_is, added_next, added_behind}
use Rattle.uecp_phrases.proofs.groups.added_in.Goals as goal

pub returns-in_err-end_in-in-Some-clause-err : goal.returns-in_err-end_in-in-Some-clause-err
returns-in_err-end_in-in-Some-clause-err c =
    let stop = c.in_err-end_in-in-Some.field-0.0 in
    err_is c.from_residual.result stop _ (search rules) (λ region.
    behind_stop region IsAddOrEnd IsEnd (token_of c.in-Some.first.now) (tokens_of c.args.tokens.now)
    (tokens_of c.in-Some.rest.now) stop.what stop.left (ap tokens_of c.in-Some.ensures.cases.0)
    (added_behind (token_of c.in-Some.first.now) (c.is_word.ensures.0 c.if-is_word.true))
    (c.in_err-end_in-in-Some.ensures.err region))

pub returns-in-Some-2-clause-err : goal.returns-in-Some-2-clause-err
returns-in-Some-2-clause-err c region =
    stop_here region IsAddOrEnd (tokens_of c.args.tokens.now) (tokens_of c.in-Some.rest.now)
    (token_of c.in-Some.first.now) what.Added c.stop_at.result.what c.stop_at.result.left
    (ap tokens_of c.in-Some.ensures.cases.0) c.stop_at.ensures.what
    (counted c.args.tokens.now c.stop_at.result.left c.stop_at.ensures.left) (added_next region)
    (λ is. false≢true (sym c.if-is_word.false ∙ c.is_word.ensures.1 is))
