use Rattle.sending.proofs.objects.answers.+put_unknown.Given as goal

abbrev pub decreases-put_unknown : goal.decreases-put_unknown
decreases-put_unknown l = l.count
