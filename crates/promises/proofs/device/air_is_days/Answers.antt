use Rattle.promises.proofs.DeviceRuns.{air_lem}
use Rattle.promises.proofs.device.air_is_days.Goals as goal

pub returns : goal.returns
returns g c = air_lem _ _ _ _ _ _ g.M.Moments.waits g.M.Moments.closes g.M.Moments.sends g.M.Input.Read.remaining
    g.M.Output.Write.contents
