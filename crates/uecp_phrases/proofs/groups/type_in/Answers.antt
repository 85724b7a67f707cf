use Rattle.phrase_tokens.specs.View.{token_of}
use Rattle.uecp_phrases.specs.Phrases.{IsGroupType}
use Rattle.uecp_phrases.proofs.Alone.{if_none, named_none}
use Rattle.uecp_phrases.proofs.groups.type_in.Goals as goal

pub returns-clause-none : goal.returns-clause-none
returns-clause-none c =
    if_none c.type_of.result _ _
    (named_none IsGroupType (token_of c.args.token.now) c.in_ok-word.field-0.now c.in_ok-word.ensures.some)
    c.type_of.ensures.none
