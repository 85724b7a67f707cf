use Rattle.promises.proofs.DeviceRuns.{device_lem}
use Rattle.promises.proofs.device.device_is_days.Goals as goal

pub returns : goal.returns
returns g c = device_lem _ _ _ _ _ _ _ _ _ _
