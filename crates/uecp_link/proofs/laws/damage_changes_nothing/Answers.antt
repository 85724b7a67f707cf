use Rattle.uecp_link.proofs.Damage.{damage_changes_nothing_lem}
use Rattle.uecp_link.proofs.laws.damage_changes_nothing.Goals as goal

pub returns : goal.returns
returns c = damage_changes_nothing_lem
