use Rattle.std.proofs.Common.{length}
use Rattle.sending.proofs.sent.+add_sent.Given as goal

abbrev pub decreases-add_sent : goal.decreases-add_sent
decreases-add_sent l = length l.messages.now
