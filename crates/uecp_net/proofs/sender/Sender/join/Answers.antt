use Rattle.std.proofs.Common.{rules, arith, ◌≡◌, ◌<◌, ◌+◌, Err, ap, ◌∙◌, inl, inr, refl, subst}
use Rattle.uecp_net.specs.Sending.{SenderState}
use Rattle.uecp_net.specs.Joining.{PassesTo}
use Rattle.uecp_net.proofs.Breaking.{hung_sender, hung_loan, hung_none, one_fewer}
use Rattle.uecp_net.proofs.Passing.{joins_on, joined_by}
use Rattle.uecp_net.proofs.sender.Sender.join.Goals as goal

pub connections-init : goal.connections-init
connections-init g c =
    let same : c.hang_up.new.self.sender ≡ c.args.self.now.sender =
    hung_sender g.C.Input.Read.remaining g.C.Output.Write.contents g.C.Connections.opens g.C.Connections.closes
    c.args.self.now c.hang_up.new.self c.hang_up.ensures in
    record {
      idle = ap (λ s. s.server.held) same ∙ c.requires.idle;
      part = omega arith;
      none = hung_none g.C.Input.Read.remaining g.C.Output.Write.contents g.C.Connections.opens g.C.Connections.closes
          c.args.self.now c.hang_up.new.self c.hang_up.ensures;
      loan = hung_loan g.C.Input.Read.remaining g.C.Output.Write.contents g.C.Connections.opens g.C.Connections.closes
          c.args.self.now c.hang_up.new.self c.hang_up.ensures;
      stays = ap (λ (s : SenderState). record s {
        server = c.args.self.now.sender.server;
        left = c.args.self.now.sender.left;
      }) same;
      on = λ end result ended joins. (c.hang_up.new.self, ended, c.hang_up.ensures, joins);
    }

pub returns-in-None-clause-joins : goal.returns-in-None-clause-joins
returns-in-None-clause-joins g c = c.connections.invariant.on c.pass.new.self _ 0
    (inl (c.in-None.ensures.refused, refl))

pub returns-in-Some-Ok-clause-joins : goal.returns-in-Some-Ok-clause-joins
returns-in-Some-Ok-clause-joins g c = c.connections.invariant.on c.pass.new.self _ 0
    (joined_by g.C.Input.Read.remaining g.C.Output.Write.contents g.C.Connections.opens g.C.Connections.closes
    c.connections.self c.pass.new.self c.connections.reason c.connections.behind c.pass.new.behind
    (subst (PassesTo g.C.Connections.opens g.C.Input.Read.remaining g.C.Output.Write.contents c.connections.behind
    c.pass.new.behind c.connections.self c.pass.new.self) c.in-Some-Ok.field-0-is c.in-Some-Ok.ensures.passes))

pub returns-then-self-eq0-clause-joins : goal.returns-then-self-eq0-clause-joins
returns-then-self-eq0-clause-joins g c =
    let (went, passes, end_is) = subst (PassesTo g.C.Connections.opens g.C.Input.Read.remaining
    g.C.Output.Write.contents c.connections.behind c.pass.new.behind
    c.connections.self c.pass.new.self) c.in-Some-Err.field-0-is c.in-Some-Err.ensures.passes in
    let none : c.hang_up-in-connections.new.self.sender.left ≡ 0 = search rules in
    rw (← c.in-Some-Err.why-is) at (c.connections.invariant.on c.hang_up-in-connections.new.self (Err c.in-Some-Err.why)
    0 (inr (went, c.pass.new.behind, c.pass.new.self, passes, end_is, c.hang_up-in-connections.ensures, none)))

pub connections-preserved : goal.connections-preserved
connections-preserved g c =
    let hung = c.hang_up-in-connections in
    let same : hung.new.self.sender ≡ c.pass.new.self.sender =
    hung_sender g.C.Input.Read.remaining g.C.Output.Write.contents g.C.Connections.opens g.C.Connections.closes
    c.pass.new.self hung.new.self hung.ensures in
    let left_same : c.self.inside.limits.reconnects ≡ hung.new.self.sender.left =
    ap (λ s. s.sender.left) c.self.view_is in
    let some : 0 < c.self.inside.limits.reconnects = search rules in
    let next_is = one_fewer g.C.Input.Read.remaining g.C.Output.Write.contents g.C.Connections.opens
    g.C.Connections.closes _
    hung.new.self c.self.view_is in
    record {
      idle = ap (λ s. s.sender.server.held) c.self.view_is ∙ ap (λ s. s.server.held) same ∙ c.pass.ensures.idle;
      part = c.pass.ensures.part;
      none = ap (λ s. s.ends) c.self.view_is ∙ hung_none g.C.Input.Read.remaining g.C.Output.Write.contents
          g.C.Connections.opens g.C.Connections.closes c.pass.new.self hung.new.self hung.ensures;
      loan = ap (λ s. s.loan) c.self.view_is ∙ hung_loan g.C.Input.Read.remaining g.C.Output.Write.contents
          g.C.Connections.opens g.C.Connections.closes c.pass.new.self hung.new.self hung.ensures ∙ c.pass.ensures.loan
          ∙ c.connections.invariant.loan;
      stays = search rules;
      on = λ end result n joins.
          c.connections.invariant.on end result (n + 1)
          (joins_on g.C.Input.Read.remaining g.C.Output.Write.contents g.C.Connections.opens g.C.Connections.closes
          c.connections.self c.pass.new.self hung.new.self _ end result n c.connections.reason c.in-Some-Err.why
          c.connections.behind c.pass.new.behind
          (subst (PassesTo g.C.Connections.opens g.C.Input.Read.remaining g.C.Output.Write.contents
          c.connections.behind c.pass.new.behind c.connections.self c.pass.new.self) c.in-Some-Err.field-0-is
          c.in-Some-Err.ensures.passes) hung.ensures
          (omega (arith, some, left_same)) next_is (rw (← c.in-Some-Err.why-is) joins));
    }
