use Rattle.state_files.proofs.encoder_opening.encoder_over.Goals as goal

pub returns-in-Ok-clause-settled : goal.returns-in-Ok-clause-settled
returns-in-Ok-clause-settled g c clean = c.settled.ensures (c.in-Ok.ensures.kept clean)
