use Rattle.std.proofs.Common.{arith}
use Rattle.uecp_net.specs.Sending.{Underway}
use Rattle.uecp_net.proofs.Breaking.{window_spent, window_failed, spent_on, tried_idle, tried_failed}
use Rattle.uecp_net.proofs.Told.{follows_heard, follows_on}
use Rattle.uecp_net.proofs.sender.connections.send_waiting.Goals as goal

pub returns-in-Err-clause-tried : goal.returns-in-Err-clause-tried
returns-in-Err-clause-tried g c =
    let here : Underway _ _ = record {
      server = c.loop-before.server;
      input = c.loop-before.reader;
      output =
          c.loop-before.writer;
      marks = c.loop-before.marks.items;
    } in
    tried_failed g.R.Read.remaining g.W.Write.contents c.args.limits.turns c.loop-before.before _ here _
    c.loop-before.invariant.spent c.args.limits.tries c.in-Err.fault (omega arith) c.in-Err.ensures.windows

pub returns-in-Err-clause-outstanding : goal.returns-in-Err-clause-outstanding
returns-in-Err-clause-outstanding g c =
    let here : Underway _ _ = record {
      server = c.loop-before.server;
      input = c.loop-before.reader;
      output =
          c.loop-before.writer;
      marks = c.loop-before.marks.items;
    } in
    window_failed g.R.Read.remaining g.W.Write.contents c.args.limits.turns here _ c.in-Err.fault
    c.loop-before.invariant.busy c.in-Err.ensures.windows

pub returns-in-Err-clause-follows : goal.returns-in-Err-clause-follows
returns-in-Err-clause-follows g c =
    let windows = c.in-Err.ensures.windows in
    follows_on _ c.loop-before.server _ _ c.loop-before.marks.items _ c.loop-before.invariant.follows
    (follows_heard c.loop-before.server c.send_window.new.server c.loop-before.marks.items c.send_window.new.marks.items
    windows.read windows.state windows.marked c.send_window.ensures.room)

pub returns-in-Ok-Idle-clause-tried : goal.returns-in-Ok-Idle-clause-tried
returns-in-Ok-Idle-clause-tried g c =
    let here : Underway _ _ = record {
      server = c.loop-before.server;
      input = c.loop-before.reader;
      output =
          c.loop-before.writer;
      marks = c.loop-before.marks.items;
    } in
    tried_idle g.R.Read.remaining g.W.Write.contents c.args.limits.turns c.loop-before.before _ here _
    c.loop-before.invariant.spent c.args.limits.tries (omega arith)
    (rw c.in-Ok-Idle.field-0-is at c.in-Ok-Idle.ensures.windows)

pub returns-in-Ok-Idle-clause-follows : goal.returns-in-Ok-Idle-clause-follows
returns-in-Ok-Idle-clause-follows g c =
    let windows = rw c.in-Ok-Idle.field-0-is at c.in-Ok-Idle.ensures.windows in
    follows_on _ c.loop-before.server _ _ c.loop-before.marks.items _ c.loop-before.invariant.follows
    (follows_heard c.loop-before.server c.send_window.new.server c.loop-before.marks.items c.send_window.new.marks.items
    windows.read windows.state windows.marked c.send_window.ensures.room)

pub loop-before-preserved : goal.loop-before-preserved
loop-before-preserved g c =
    let here : Underway _ _ = record {
      server = c.loop-before.server;
      input = c.loop-before.reader;
      output =
          c.loop-before.writer;
      marks = c.loop-before.marks.items;
    } in
    let windows = rw c.in-Ok-Spent.field-0-is at c.in-Ok-Spent.ensures.windows in
    record {
      busy = window_spent g.R.Read.remaining g.W.Write.contents c.args.limits.turns here _ windows;
      spent = spent_on g.R.Read.remaining g.W.Write.contents c.args.limits.turns c.loop-before.before _ here _
          c.loop-before.invariant.spent windows;
      follows =
          follows_on _ c.loop-before.server _ _ c.loop-before.marks.items _ c.loop-before.invariant.follows
          (follows_heard c.loop-before.server c.send_window.new.server c.loop-before.marks.items
          c.send_window.new.marks.items windows.read windows.state windows.marked c.send_window.ensures.room);
    }
