use Rattle.std.proofs.Common.{take, ◌++◌}
use Rattle.std.proofs.KnownBytes.{Appends-trans}
use Rattle.bad_line.proofs.Delivering.{waits_less, still_same}
use Rattle.bad_line.proofs.connections.writer.FaultyWriter.deliver.Goals as goal

pub loop-self-preserved : goal.loop-self-preserved
loop-self-preserved g c =
    let now = c.loop-self.self-inside.passage in
    let inv = c.loop-self.invariant in
    record {
      sent = inv.sent ++ take c.in_ok-count.count c.waiting-in-loop-self.result.now;
      appended = Appends-trans _ _ _ _ _ inv.appended c.in_ok-count.ensures.bytes;
      waits = waits_less c.self.inside.passage now c.give.new.self inv.sent c.waiting-in-loop-self.result.now
          c.in_ok-count.count inv.waits c.waiting-in-loop-self.ensures c.give.ensures;
      same = still_same c.self.inside.passage now c.give.new.self _ inv.same c.give.ensures;
    }
