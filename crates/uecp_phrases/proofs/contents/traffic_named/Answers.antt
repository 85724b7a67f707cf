use Rattle.uecp_phrases.proofs.Alone.{no_traffic_word}
use Rattle.uecp_phrases.proofs.contents.traffic_named.Goals as goal

pub returns-in-None-clause-none : goal.returns-in-None-clause-none
returns-in-None-clause-none c = no_traffic_word c.args.word.now c.in-None.ensures.unknown
