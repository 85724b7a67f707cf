use Rattle.std.proofs.Common.{length}
use Rattle.sending.proofs.lines.+put_replies.Given as goal

abbrev pub decreases-put_replies : goal.decreases-put_replies
decreases-put_replies l = length l.codes.now
