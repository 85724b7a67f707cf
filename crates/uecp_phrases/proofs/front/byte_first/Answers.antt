use Rattle.std.proofs.Common.{ap}
use Rattle.phrase_tokens.specs.View.{token_of, tokens_of}
use Rattle.uecp_phrases.proofs.Slots.{byte_wanted}
use Rattle.uecp_phrases.proofs.Stopping.{stuck_at}
use Rattle.uecp_phrases.proofs.front.byte_first.Goals as goal

pub returns-in-None-byte_in-clause-err : goal.returns-in-None-byte_in-clause-err
returns-in-None-byte_in-clause-err c region =
    stuck_at region c.args.wanted c.args.tokens.now (tokens_of c.in-Some.rest.now) (token_of c.in-Some.first.now)
    c.stop_at.result.what c.stop_at.result.left (ap tokens_of c.in-Some.ensures.cases.0) c.stop_at.ensures.what
    c.stop_at.ensures.left (λ m.
    let found = byte_wanted region c.args.wanted (token_of c.in-Some.first.now) c.requires m in
    c.in-None-byte_in.ensures.none found.1 (found.0, found.2, found.3))
