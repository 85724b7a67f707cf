use Rattle.phrase_tokens.specs.View.{token_of}
use Rattle.uecp_phrases.proofs.Alone.{if_none, text_none}
use Rattle.uecp_phrases.proofs.contents.type_named.Goals as goal

pub returns-in-Some-clause-none : goal.returns-in-Some-clause-none
returns-in-Some-clause-none c =
    if_none c.number_of.result _ _
    (text_none c.args.region (token_of c.args.token.now) c.in-Some.name.now c.in-Some.ensures.some)
    c.number_of.ensures.none
