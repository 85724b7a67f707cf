use Rattle.std.proofs.Common.{refl}
use Rattle.sqlite_image.proofs.names.MachineNamesNames.would_lead.Goals as goal

pub returns-then-goes_on : goal.returns-then-goes_on
returns-then-goes_on c leads = (
  record c.args.self.now { file = c.in-Some.file; log = c.in-Some.log },
  (c.if-goes_on.ensures.0 refl, c.goes_on-then-goes_on.ensures.0 leads),
)
