use Rattle.std.proofs.Common.{refl}
use Rattle.uecp_encoder.proofs.laws.goes_on_as_it_was.Goals as goal

pub returns : goal.returns
returns g c = λ e. refl
