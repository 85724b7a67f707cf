use Rattle.std.proofs.Common.{length}
use Rattle.sending.proofs.objects.answers.+put_answers.Given as goal

abbrev pub decreases-put_answers : goal.decreases-put_answers
decreases-put_answers l = length l.codes.now
