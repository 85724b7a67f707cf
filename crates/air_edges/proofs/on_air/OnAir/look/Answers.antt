use Rattle.std.proofs.Common.{rules, ◌≡◌, true, false, refl, subst, ap, inl, inr}
use Rattle.std.specs.Prelude.{Some, None}
use Rattle.air_edges.specs.Edge.{Edge}
use Rattle.air_edges.proofs.Waiting.{looks, looks_over}
use Rattle.air_edges.proofs.on_air.OnAir.look.Goals as goal

pub returns-in-None : goal.returns-in-None
returns-in-None g c =
    let s = g.S.Sockets in
    looks_over s.reads s.waits s.opens s.joins c.args.is_open c.args.now c.wait_limit-limit.result _ c.args.self.now
    c.wait.new.self c.self.view_is c.requires.early c.wait_limit-limit.ensures c.in-None.ensures

pub returns-then-not-came : goal.returns-then-not-came
returns-then-not-came g c =
    let s = g.S.Sockets in
    let look = looks s.reads s.waits s.opens s.joins c.args.is_open c.args.now c.wait_limit-limit.result _
    c.args.self.now c.tell_out.new.self c.accept.new.self _ c.wait.new.self c.self.view_is c.requires.early
    c.wait_limit-limit.ensures
    c.in-Some.ensures c.tell_out.ensures c.accept.ensures in
    let none : c.in-Some.came.studio ≡ false = search rules in
    (c.in-Some.came, c.accept.new.self, look, inl (none, refl))

pub returns-then-is_open : goal.returns-then-is_open
returns-then-is_open g c =
    let s = g.S.Sockets in
    let look = looks s.reads s.waits s.opens s.joins c.args.is_open c.args.now c.wait_limit-limit.result _
    c.args.self.now c.tell_out.new.self c.accept.new.self _ c.wait.new.self c.self.view_is c.requires.early
    c.wait_limit-limit.ensures
    c.in-Some.ensures c.tell_out.ensures c.accept.ensures in
    let some : c.in-Some.came.studio ≡ true = search rules in
    let after = ap {A = Edge g.row.S.Denot g.row.H.Denot} (λ e. record e { heard = c.args.now }) c.self-2.view_is in
    (c.in-Some.came, c.accept.new.self, look, c.if-is_open.true, some, after)

pub returns-in-Some-open : goal.returns-in-Some-open
returns-in-Some-open g c =
    let s = g.S.Sockets in
    let look = looks s.reads s.waits s.opens s.joins c.args.is_open c.args.now c.wait_limit-limit.result _
    c.args.self.now c.tell_out.new.self c.accept.new.self _ c.wait.new.self c.self.view_is c.requires.early
    c.wait_limit-limit.ensures
    c.in-Some.ensures c.tell_out.ensures c.accept.ensures in
    let some : c.in-Some.came.studio ≡ true = search rules in
    let opens = subst (λ (e : Edge g.row.S.Denot g.row.H.Denot). s.opens e.sockets (Some (
      c.in-Some-open.input,
      c.in-Some-open.output,
    )) c.open.new.self) c.self-2.view_is c.in-Some-open.ensures in
    let after = ap {A = Edge g.row.S.Denot g.row.H.Denot} (λ e. record e {
      sockets = c.open.new.self;
      heard = c.args.now;
    }) c.self-2.view_is in
    (c.in-Some.came, c.accept.new.self, look, c.if-is_open.false, some, opens, after)

pub returns-in-None-open : goal.returns-in-None-open
returns-in-None-open g c =
    let s = g.S.Sockets in
    let look = looks s.reads s.waits s.opens s.joins c.args.is_open c.args.now c.wait_limit-limit.result _
    c.args.self.now c.tell_out.new.self c.accept.new.self _ c.wait.new.self c.self.view_is c.requires.early
    c.wait_limit-limit.ensures
    c.in-Some.ensures c.tell_out.ensures c.accept.ensures in
    let some : c.in-Some.came.studio ≡ true = search rules in
    let opens = subst (λ (e : Edge g.row.S.Denot g.row.H.Denot). s.opens e.sockets None c.open.new.self)
    c.self-2.view_is c.in-None-open.ensures in
    let after = ap {A = Edge g.row.S.Denot g.row.H.Denot} (λ e. record e { sockets = c.open.new.self })
    c.self-2.view_is in
    (c.in-Some.came, c.accept.new.self, look, inr (c.if-is_open.false, some, opens, after))
