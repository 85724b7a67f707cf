use Rattle.promises.proofs.CrashEnding.{acknowledged_after_any_crash_lem}
use Rattle.promises.proofs.crash.acknowledged_after_any_crash.Goals as goal

pub returns : goal.returns
returns g c = acknowledged_after_any_crash_lem g.T.Target.step g.T.Target.taken
