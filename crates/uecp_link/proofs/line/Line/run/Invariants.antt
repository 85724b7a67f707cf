use Rattle.std.proofs.Common.{◌≡◌, ◌≤◌, take, map}
use Rattle.std.specs.List.{AllByRecursion}
use Rattle.uecp_link.specs.Once.{Once}
use Rattle.uecp_link.specs.Law.{Fits}
use Rattle.uecp_link.specs.Holds.{Holds, RunsAs}
use Rattle.uecp_link.specs.Events.{event_of}
use Rattle.uecp_link.proofs.line.Line.run.Given as goal

abbrev pub invariant-loop-event : goal.invariant-loop-event
invariant-loop-event g l = record {
  few : l.refused ≤ l.event-index;
  plays : (o : Once g.row.T.Denot) → Holds l.fn.self o
      → RunsAs g.T.Target.step g.T.Target.taken l.fn.self o (map event_of (take l.event-index l.events)) l.refused
      l.self;
  fits : AllByRecursion Fits (map event_of (take l.event-index l.events));
  address : l.self.encoder.address ≡ l.fn.self.encoder.address;
}
