use Rattle.std.proofs.Common.{rules, refl, inr}
use Rattle.line_batches.proofs.intake.read_text.Goals as goal

pub returns-in-Ok-Frame-clause-reads : goal.returns-in-Ok-Frame-clause-reads
returns-in-Ok-Frame-clause-reads c = inr (refl, (c.in-Ok-Frame.field-0-0, c.in-Ok-Frame.field-0-1, search rules))
