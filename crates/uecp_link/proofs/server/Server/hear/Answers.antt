use Rattle.std.proofs.Common.{◌≡◌, length, map, Some, ◌∙◌, ap, subst, sym, rules}
use Rattle.std.specs.List.{refill}
use Rattle.uecp_frame.specs.Findings.{Closed}
use Rattle.uecp_frame.specs.Lent.{frame_lent}
use Rattle.uecp_link.specs.Server.{ServerState, waiting, nothing_counted, acknowledges}
use Rattle.uecp_link.specs.HeldMessages.{held_in, with_mark, left_of, IsHolding}
use Rattle.uecp_link.proofs.HeldFields.{still_holds}
use Rattle.uecp_link.proofs.Waiting.{acknowledged_waits}
use Rattle.uecp_link.proofs.Marks.{marked_one}
use Rattle.uecp_link.proofs.server.Server.hear.Goals as goal

pub invariant_of-self-in-Some : goal.invariant_of-self-in-Some
invariant_of-self-in-Some c =
    let marked : refill (length c.self.inside.held.items) c.self.inside.held.items c.mark.new.held
    ≡ map (with_mark c.in-Some.counter) c.self.inside.held.items = search rules in
    let left : c.let_go.new.held.items ≡ left_of (map (with_mark c.in-Some.counter) c.self.inside.held.items) =
    c.let_go.ensures ∙ ap left_of marked in
    subst (IsHolding c.self.inside.address c.self.inside.last) (sym left)
    (still_holds c.self.inside.address c.self.inside.last c.in-Some.counter c.self.inside.held.items
    c.self.invariant)

pub returns-in-Some-clause-one_fewer : goal.returns-in-Some-clause-one_fewer
returns-in-Some-clause-one_fewer c =
    let marked : refill (length c.self.inside.held.items) c.self.inside.held.items c.mark.new.held
    ≡ map (with_mark c.in-Some.counter) c.self.inside.held.items = search rules in
    let left : c.let_go.new.held.items ≡ left_of (map (with_mark c.in-Some.counter) c.self.inside.held.items) =
    c.let_go.ensures ∙ ap left_of marked in
    let old : ServerState = record {
      address = c.self.inside.address;
      last = 0;
      held = held_in c.self.inside.held.items;
      counts = nothing_counted;
      part = Closed;
    } in
    let is : acknowledges old (frame_lent c.in-Frame.frame) ≡ Some (c.in-Some.counter, c.in-Some.code) = search rules in
    let waits = acknowledged_waits old (frame_lent c.in-Frame.frame) (c.in-Some.counter, c.in-Some.code) is in
    marked_one c.self.inside.address c.self.inside.last c.in-Some.counter c.self.inside.held.items
    c.let_go.new.held.items c.self.invariant waits left
    ∙ ap (λ (s : ServerState). length (waiting s)) c.self.view_is
