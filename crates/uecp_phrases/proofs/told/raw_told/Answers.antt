use Rattle.std.proofs.Common.{◌≢◌, [], rules}
use Rattle.phrase_tokens.specs.View.{tokens_of}
use Rattle.uecp_phrases.proofs.Alone.{no_tokens}
use Rattle.uecp_phrases.proofs.FirstWanted.{no_raw}
use Rattle.uecp_phrases.proofs.RawWords.{raw_begins, raw_more, raw_stop}
use Rattle.uecp_phrases.proofs.Stopping.{err_is}
use Rattle.uecp_phrases.proofs.told.raw_told.Goals as goal

pub returns-in_err-first-clause-err : goal.returns-in_err-first-clause-err
returns-in_err-first-clause-err c =
    let stop = c.in_err-first.field-0.0 in
    err_is c.from_residual.result stop _ (search rules)
    (no_raw (tokens_of c.args.tokens.now) stop.what stop.left c.in_err-first.ensures.err)

pub loop-rest-init : goal.loop-rest-init
loop-rest-init c =
    raw_begins (tokens_of c.args.tokens.now) (tokens_of c.in_ok-first.others.now) c.in_ok-first.first
    c.with_byte-message.result c.in_ok-first.ensures.ok (c.with_byte-message.ensures [] c.new.ensures)

pub returns-in_err-byte-clause-err : goal.returns-in_err-byte-clause-err
returns-in_err-byte-clause-err c =
    let stop = c.in_err-byte.field-0.0 in
    let rest = tokens_of c.loop-rest.rest.now in
    let some : rest ≢ [] = λ e. let none = no_tokens c.loop-rest.rest.now e in search rules in
    err_is c.from_residual-in_err-byte.result stop _ (search rules)
    (raw_stop (tokens_of c.args.tokens.now) rest c.loop-rest.message stop.what stop.left c.loop-rest.invariant some
    c.in_err-byte.ensures.err)

pub loop-rest-preserved : goal.loop-rest-preserved
loop-rest-preserved c =
    raw_more (tokens_of c.args.tokens.now) (tokens_of c.loop-rest.rest.now) (tokens_of c.in_ok-byte.more.now)
    c.in_ok-byte.byte c.loop-rest.message c.with_byte-message-in-loop-rest.result c.loop-rest.invariant
    c.in_ok-byte.ensures.ok c.with_byte-message-in-loop-rest.ensures
