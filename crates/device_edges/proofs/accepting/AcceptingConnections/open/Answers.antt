use Rattle.device_edges.proofs.Asking.{asks_more, comes_so}
use Rattle.device_edges.proofs.accepting.AcceptingConnections.open.Goals as goal

pub returns-in-Ok-Some : goal.returns-in-Ok-Some
returns-in-Ok-Some g c =
    comes_so c.loop-wait._wait c.args.self.now c.loop-wait.self c.turn.new.self c.loop-wait.invariant c.turn.ensures

pub returns-then-tries-ge-TRIES_MAX : goal.returns-then-tries-ge-TRIES_MAX
returns-then-tries-ge-TRIES_MAX g c =
    comes_so c.loop-wait._wait c.args.self.now c.loop-wait.self c.turn.new.self c.loop-wait.invariant c.turn.ensures

pub loop-wait-preserved : goal.loop-wait-preserved
loop-wait-preserved g c =
    asks_more c.loop-wait._wait c.args.self.now c.loop-wait.self c.turn.new.self c.loop-wait.invariant c.turn.ensures

pub returns : goal.returns
returns g c = (c.loop-wait._wait, c.loop-wait.invariant)
