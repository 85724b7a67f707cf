use Rattle.std.proofs.Common.{◌≡◌, ◌<◌, ◌≤◌, ◌+◌, length, Err, rules}
use Rattle.phrase_tokens.specs.View.{tokens_of}
use Rattle.uecp_phrases.proofs.Faulting.{no_room, no_room_unsaid, adds_phrase, unread_unsaid}
use Rattle.uecp_phrases.proofs.Stopping.{counted, err_is}
use Rattle.uecp_phrases.proofs.line.with_phrase.Goals as goal

pub returns-in_err-added-clause-err : goal.returns-in_err-added-clause-err
returns-in_err-added-clause-err c =
    let stop = c.in_err-added.field-0.0 in
    let is : c.from_residual.result ≡ Err stop = search rules in
    err_is c.from_residual.result stop _ is
    (unread_unsaid c.args.region c.args.message (tokens_of c.args.tokens.now) stop.what stop.left
    c.in_err-added.ensures.err)

pub returns-in-Err-clause-none : goal.returns-in-Err-clause-none
returns-in-Err-clause-none c =
    let full : 255 < length c.args.message + length c.in_ok-added.added = search rules in
    no_room c.args.region c.args.message (tokens_of c.args.tokens.now) c.in_ok-added.added c.in_ok-added.ensures.ok full

pub returns-in-Err-clause-err : goal.returns-in-Err-clause-err
returns-in-Err-clause-err c =
    let full : 255 < length c.args.message + length c.in_ok-added.added = search rules in
    let few : length c.args.message ≤ 255 = search rules in
    no_room_unsaid c.args.region c.args.message (tokens_of c.args.tokens.now) c.in_ok-added.added
    c.stop_at.result.what c.stop_at.result.left
    (adds_phrase c.args.region c.args.message (tokens_of c.args.tokens.now) c.in_ok-added.added c.in_ok-added.ensures.ok
    few full)
    (no_room c.args.region c.args.message (tokens_of c.args.tokens.now) c.in_ok-added.added c.in_ok-added.ensures.ok
    full) c.stop_at.ensures.what (counted c.args.tokens.now c.stop_at.result.left c.stop_at.ensures.left)
