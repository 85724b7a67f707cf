use Rattle.page.proofs.Streams.{taken_as_sent_lem}
use Rattle.page.proofs.laws.taken_as_sent.Goals as goal

pub returns : goal.returns
returns c = taken_as_sent_lem
