use Rattle.std.proofs.Common.{refl}
use Rattle.bad_line.specs.Connections.{OpensFaulty}
use Rattle.device_jobs.proofs.Stretches.{goes_on}
use Rattle.device_jobs.proofs.connections.RestartingConnections.open.Goals as goal

pub returns : goal.returns
returns g c =
    goes_on (λ line ends line'. OpensFaulty g.K.Connections.opens g.K.Connections.closes line ends line')
    (record { line = c.self.inside.faulty.now; is_over = c.self.inside.is_restart }) c.args.self.now
    (record { line = c.open.new.self; is_over = c.self.inside.is_restart }) c.takes_restart.new.self c.open.result
    c.takes_restart.result c.self.view_is c.if-takes_restart.false c.takes_restart.ensures c.open.ensures refl
