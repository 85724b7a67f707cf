use Rattle.std.proofs.Common.{◌≡◌, Err, rules}
use Rattle.phrase_tokens.specs.View.{tokens_of}
use Rattle.uecp_phrases.specs.Reading.{choices_of}
use Rattle.uecp_phrases.proofs.Stopping.{err_is}
use Rattle.uecp_phrases.proofs.Choosing.{times_stop, times_step}
use Rattle.uecp_phrases.proofs.choices.made_by.Goals as goal

pub returns-in_err-count-in-Times-clause-err : goal.returns-in_err-count-in-Times-clause-err
returns-in_err-count-in-Times-clause-err c =
    let stop = c.in_err-count-in-Times.field-0.0 in
    let is : c.from_residual.result ≡ Err stop = search rules in
    err_is c.from_residual.result stop _ is
    (times_stop (choices_of c.args.before) c.args.choice (tokens_of c.args.tokens.now) stop.what stop.left c.in-Times.is
    c.requires.free c.in_err-count-in-Times.ensures.err)

pub returns-in-Times-clause-ok : goal.returns-in-Times-clause-ok
returns-in-Times-clause-ok c =
    times_step (choices_of c.args.before) c.args.choice (tokens_of c.args.tokens.now)
    (tokens_of c.in_ok-count-in-Times.rest.now) c.in_ok-count-in-Times.count c.in-Times.is c.requires.free
    c.in_ok-count-in-Times.ensures.ok
