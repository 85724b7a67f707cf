use Rattle.state_files.proofs.server_opening.server_over.Goals as goal

pub returns-in-Ok-clause-settled : goal.returns-in-Ok-clause-settled
returns-in-Ok-clause-settled g c clean = c.settled.ensures (c.in-Ok.ensures.kept clean)
