use Rattle.std.proofs.Common.{◌≡◌, false, ◌∙◌, ap, sym, subst}
use Rattle.uecp_frame.specs.Findings.{has_frame}
use Rattle.uecp_frame.specs.Beyond.{found_beyond}
use Rattle.uecp_link.specs.Server.{ServerState}
use Rattle.uecp_link.specs.Once.{NoiseToServer}
use Rattle.uecp_link.specs.Holds.{LineState, IsLine}
use Rattle.uecp_link.proofs.Goes.{stays}
use Rattle.uecp_link.proofs.Delivering.{is_quiet_then}
use Rattle.uecp_link.proofs.line.Line.disturb_server.Goals as goal

pub invariant_of-self : goal.invariant_of-self
invariant_of-self g c =
    let line : LineState _ = record {
      encoder = c.self.inside.encoder;
      server = c.self.inside.server;
      sent = c.self.inside.sent.items;
      codes = c.self.inside.codes.items;
    } in
    let quiet : has_frame (found_beyond c.self.inside.server.part c.args.noise.now) ≡ false =
    ap (λ o. has_frame (found_beyond o c.args.noise.now)) (sym c.deframer.ensures)
    ∙ is_quiet_then (has_frame (found_beyond c.deframer.result.now c.args.noise.now)) c.in-Some.ensures.holds.1 in
    let next = ap (λ (x : ServerState). let l : LineState _ =
    record {
      encoder = c.self.inside.encoder;
      server = x;
      sent = c.self.inside.sent.items;
      codes = c.self.inside.codes.items;
    } in l) c.give_cut.ensures.state in
    record {
      is_line = subst (λ (l : LineState _). IsLine l) (sym next)
          (stays g.T.Target.step g.T.Target.taken line (NoiseToServer c.args.noise.now) tt quiet
          c.self.invariant.is_line);
      address_is = c.self.invariant.address_is;
      fits = c.self.invariant.fits;
      sent_room_is = c.self.invariant.sent_room_is;
      code_room_is = c.self.invariant.code_room_is;
    }
