use Rattle.uecp_encoder.proofs.Damage.{damage_changes_nothing_lem}
use Rattle.uecp_encoder.proofs.laws.damage_changes_nothing.Goals as goal

pub returns : goal.returns
returns g c = damage_changes_nothing_lem g.T.Target.step
