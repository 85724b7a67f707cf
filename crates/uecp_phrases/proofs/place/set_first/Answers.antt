use Rattle.std.proofs.Common.{ap}
use Rattle.phrase_tokens.specs.View.{token_of, tokens_of}
use Rattle.uecp_phrases.specs.declared.expectation.Expectation.TheVariants as what
use Rattle.uecp_phrases.proofs.Stopping.{stuck_at}
use Rattle.uecp_phrases.proofs.place.set_first.Goals as goal

pub returns-in-None-set_in-clause-err : goal.returns-in-None-set_in-clause-err
returns-in-None-set_in-clause-err c region =
    stuck_at region what.DataSet c.args.tokens.now (tokens_of c.in-Some.rest.now) (token_of c.in-Some.first.now)
    c.stop_at.result.what c.stop_at.result.left (ap tokens_of c.in-Some.ensures.cases.0) c.stop_at.ensures.what
    c.stop_at.ensures.left
    (λ (w, number, is, named). c.in-None-set_in.ensures.none number (w, is, named))
