use Rattle.std.proofs.Common.{inl}
use Rattle.state_files.proofs.encoder_opening.found_encoder.Goals as goal

pub returns-in-Some-clause-refused : goal.returns-in-Some-clause-refused
returns-in-Some-clause-refused c = inl (_, c.in-Ok.ensures.read, c.in-Some.ensures)
