use Rattle.std.proofs.Common.{drop}
use Rattle.uecp_encoder.specs.Batches.{HeardEach}
use Rattle.uecp_encoder.proofs.answering.tell.Given as goal

-- what is told of the rest, after what was told, is told of all
abbrev pub invariant-loop-event : goal.invariant-loop-event
invariant-loop-event g l = (end : g.row.L.Denot)
    → HeardEach g.L.Listener.hears (drop l.event-index l.batch.events.items) l.left l.listener end
    → HeardEach g.L.Listener.hears l.batch.events.items l.fn.written l.fn.listener end
