use Rattle.std.proofs.Common.{length}
use Rattle.sending.proofs.objects.answers.+put_held_answers.Given as goal

abbrev pub decreases-put_held_answers : goal.decreases-put_held_answers
decreases-put_held_answers l = length l.marks.now
