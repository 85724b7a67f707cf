use Rattle.std.proofs.Common.{sym, ◌∙◌}
use Rattle.air_edges.proofs.Waiting.{due_now, silent_now, looked}
use Rattle.air_edges.proofs.on_air.OnAir.turn.Goals as goal

pub returns-then-is_due : goal.returns-then-is_due
returns-then-is_due g c =
    let s = g.S.Sockets in
    due_now s.reads s.waits s.opens s.joins c.args.is_open c.now-now.result c.sent.new.self _ c.args.self.now
    c.now-now.new.self c.self.view_is c.now-now.ensures.reads (sym c.if-is_due.ensures) c.sent.ensures

pub returns-then-is_silent : goal.returns-then-is_silent
returns-then-is_silent g c =
    let s = g.S.Sockets in
    silent_now s.reads s.waits s.opens s.joins c.args.is_open c.now-now.result _ c.args.self.now c.now-now.new.self
    c.self.view_is c.now-now.ensures.reads (sym c.if-is_due.ensures) (sym c.is_silent.ensures ∙ c.if-is_silent.true)

pub returns : goal.returns
returns g c =
    let s = g.S.Sockets in
    looked s.reads s.waits s.opens s.joins c.args.is_open c.now-now.result _ c.args.self.now c.look.new.self
    c.now-now.new.self c.look.result c.self.view_is c.now-now.ensures.reads c.look.ensures
