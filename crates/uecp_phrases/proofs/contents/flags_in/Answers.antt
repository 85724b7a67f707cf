use Rattle.phrase_tokens.specs.View.{token_of}
use Rattle.uecp_phrases.specs.Phrases.{IsTrafficWord}
use Rattle.uecp_phrases.proofs.Alone.{if_none, named_none}
use Rattle.uecp_phrases.proofs.contents.flags_in.Goals as goal

pub returns-clause-none : goal.returns-clause-none
returns-clause-none c =
    if_none c.traffic_named.result _ _
    (named_none IsTrafficWord (token_of c.args.token.now) c.in_ok-word.field-0.now c.in_ok-word.ensures.some)
    c.traffic_named.ensures.none
