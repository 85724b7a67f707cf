use Rattle.phrase_tokens.specs.View.{tokens_of}
use Rattle.uecp_phrases.proofs.Placing.{unread_none}
use Rattle.uecp_phrases.proofs.phrase.phrase_in.Goals as goal

pub returns-in-Err-clause-none : goal.returns-in-Err-clause-none
returns-in-Err-clause-none c =
    unread_none c.args.region (tokens_of c.args.tokens.now) c.in-Err.field-0.what c.in-Err.field-0.left
    c.in-Err.ensures.err
