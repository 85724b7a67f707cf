use Rattle.std.proofs.Common.{rules, ◌≡◌, ◌+◌, [], true, false, Ok, Err, ap, sym, subst, ◌∙◌, inl, inr, refl}
use Rattle.uecp_net.specs.Sending.{Attempts, Follows, reason_of, opens_another}
use Rattle.uecp_net.proofs.Breaking.{hung_sender, one_fewer, delivers_on}
use Rattle.uecp_net.proofs.Told.{follows_on}
use Rattle.uecp_net.proofs.sender.Sender.send_on_any.Goals as goal

pub returns-in-None-clause-delivers : goal.returns-in-None-clause-delivers
returns-in-None-clause-delivers g c = c.connections.invariant.on c.send_on_one.new.self c.send_on_one.new.marks.items _
    0 (inl (c.in-None.ensures.goes.0, c.in-None.ensures.goes.1, refl))

pub returns-in-Some-Ok-clause-follows : goal.returns-in-Some-Ok-clause-follows
returns-in-Some-Ok-clause-follows g c = follows_on _ c.connections.self.sender.server _ _ c.connections.marks.items _
    c.connections.invariant.follows c.send_on_one.ensures.follows

pub returns-in-Some-Ok-clause-delivers : goal.returns-in-Some-Ok-clause-delivers
returns-in-Some-Ok-clause-delivers g c =
    let there : Attempts g.C.Connections.opens g.C.Input.Read.remaining g.C.Output.Write.contents c.connections.self
    c.send_on_one.new.self c.connections.marks.items c.send_on_one.new.marks.items (Ok c.in-Some-Ok.tries) =
    search rules in
    rw (← c.in-Some-Ok.tries-is) at (c.connections.invariant.on c.send_on_one.new.self c.send_on_one.new.marks.items
    (Ok c.in-Some-Ok.tries) 0 there)

pub returns-then-not-opens_another-clause-follows : goal.returns-then-not-opens_another-clause-follows
returns-then-not-opens_another-clause-follows g c =
    let same : c.hang_up.new.self.sender.server ≡ c.send_on_one.new.self.sender.server =
    ap (λ s. s.server) (hung_sender g.C.Input.Read.remaining g.C.Output.Write.contents g.C.Connections.opens
    g.C.Connections.closes c.send_on_one.new.self c.hang_up.new.self c.hang_up.ensures) in
    subst (λ d. Follows c.args.self.now.sender.server d [] c.send_on_one.new.marks.items) (sym same)
    (follows_on _ c.connections.self.sender.server _ _ c.connections.marks.items _ c.connections.invariant.follows
    c.send_on_one.ensures.follows)

pub returns-then-not-opens_another-clause-delivers : goal.returns-then-not-opens_another-clause-delivers
returns-then-not-opens_another-clause-delivers g c =
    let last = c.send_on_one.new.self in
    let fault = c.in-Some-Err.fault in
    let there : Attempts g.C.Connections.opens g.C.Input.Read.remaining g.C.Output.Write.contents c.connections.self
    c.send_on_one.new.self c.connections.marks.items c.send_on_one.new.marks.items (Err fault) = search rules in
    let reason_is : c.reason_of-reason.result ≡ reason_of fault = search rules in
    let none : opens_another c.hang_up.new.self.sender c.reason_of-reason.result ≡ false = search rules in
    c.connections.invariant.on c.hang_up.new.self c.send_on_one.new.marks.items _ 0
    (inr (
      fault,
      last,
      there,
      c.hang_up.ensures,
      ap (opens_another c.hang_up.new.self.sender) (sym reason_is) ∙ none,
      reason_is,
    ))

pub connections-preserved : goal.connections-preserved
connections-preserved g c =
    let fault = c.in-Some-Err.fault in
    let there : Attempts g.C.Connections.opens g.C.Input.Read.remaining g.C.Output.Write.contents c.connections.self
    c.send_on_one.new.self c.connections.marks.items c.send_on_one.new.marks.items (Err fault) = search rules in
    let reason_is : c.reason_of-reason.result ≡ reason_of fault = search rules in
    let same : c.self.inside.server ≡ c.send_on_one.new.self.sender.server =
    ap (λ s. s.sender.server) c.self.view_is ∙ ap (λ s. s.server)
    (hung_sender g.C.Input.Read.remaining g.C.Output.Write.contents g.C.Connections.opens g.C.Connections.closes
    c.send_on_one.new.self c.hang_up.new.self c.hang_up.ensures) in
    let stays = hung_sender g.C.Input.Read.remaining g.C.Output.Write.contents g.C.Connections.opens
    g.C.Connections.closes
    c.send_on_one.new.self c.hang_up.new.self c.hang_up.ensures in
    let again : opens_another c.hang_up.new.self.sender c.reason_of-reason.result ≡ true = search rules in
    let next_is = one_fewer g.C.Input.Read.remaining g.C.Output.Write.contents g.C.Connections.opens
    g.C.Connections.closes _
    c.hang_up.new.self c.self.view_is in
    record {
      busy = search rules;
      follows =
          subst (λ d. Follows c.args.self.now.sender.server d [] c.send_on_one.new.marks.items) (sym same)
          (follows_on _ c.connections.self.sender.server _ _ c.connections.marks.items _ c.connections.invariant.follows
          c.send_on_one.ensures.follows);
      stays = search rules;
      on = λ end marks result n delivers.
          c.connections.invariant.on end marks result (n + 1)
          (delivers_on g.C.Input.Read.remaining g.C.Output.Write.contents g.C.Connections.opens g.C.Connections.closes
          c.connections.self c.send_on_one.new.self c.hang_up.new.self _ end c.connections.marks.items
          c.send_on_one.new.marks.items marks result n c.connections.reason _ fault there c.hang_up.ensures
          (ap (opens_another c.hang_up.new.self.sender) (sym reason_is) ∙ again) next_is reason_is delivers);
    }
