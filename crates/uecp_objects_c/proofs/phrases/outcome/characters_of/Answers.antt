use Rattle.std.proofs.lemmas.Iterator.{items_from_collect, YieldsList-from_chars}
use Rattle.uecp_objects_c.proofs.phrases.outcome.characters_of.Goals as goal

pub returns : goal.returns
returns c =
    items_from_collect c.collect.result c.collect.ensures.ran
    (YieldsList-from_chars c.args.line.now c.utf8.line c.chars.ensures.rest)
