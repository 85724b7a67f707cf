use Rattle.std.proofs.Common.{◌≡◌, ◌+◌, ◌<◌, ◌≤◌, ℕ, Bool, Option, length, vec_len, ◌∙◌, ap, sym, subst, arith, rules}
use Rattle.uecp_elements.specs.declared.code.Code.{Code}
use Rattle.uecp_frame.specs.Frame.{spelling}
use Rattle.uecp_link.specs.declared.stepped.Stepped.{Stepped}
use Rattle.uecp_link.specs.Once.{FrameComes}
use Rattle.uecp_link.specs.Law.{frame_of}
use Rattle.uecp_link.specs.Holds.{LineState, IsLine, once_of}
use Rattle.uecp_link.specs.Next.{Goes, delivered_by}
use Rattle.uecp_link.proofs.Steps.{recent_le}
use Rattle.uecp_link.proofs.Delivering.{fresh_room, delivers, goes_stays, frame_address}
use Rattle.uecp_link.proofs.line.Line.deliver.Goals as goal

pub take_in-reply-requires : goal.take_in-reply-requires
take_in-reply-requires g c =
    let line : LineState _ = record {
      encoder = c.self.inside.encoder;
      server = c.self.inside.server;
      sent = c.self.inside.sent.items;
      codes = c.self.inside.codes.items;
    } in
    let is : IsLine line = c.self.invariant.is_line in
    let k : ℕ = c.args.number in
    let len : vec_len c.self.inside.sent ≡ length c.self.inside.sent.items = search rules in
    let below : k < length c.self.inside.sent.items = omega (arith, c.if-number-len.false, c.len.ensures, len) in
    let near : length c.self.inside.sent.items ≤ k + 127 = let few =
    recent_le c.len-2.result k (sym c.is_recent.ensures ∙ c.if-not-is_recent.false) in
    omega (arith, few, c.len-2.ensures, len) in
    let spelled : c.as_slice.result.now ≡ spelling (frame_of line.encoder.address (once_of line) k) =
    c.as_slice.ensures.value ∙ c.spelled_frame-bytes.ensures
    ∙ ap (λ (l : LineState _). spelling (frame_of l.encoder.address (once_of l) k)) (sym c.self.view_is) in
    let codes : vec_len c.self.inside.codes ≡ length c.self.inside.codes.items = search rules in
    λ code fresh. let more : length line.codes < length line.sent =
    fresh_room g.T.Target.step g.T.Target.taken line is k below near c.as_slice.result.now spelled code fresh in
    omega (arith, more, codes, c.self.invariant.fits)

pub invariant_of-self : goal.invariant_of-self
invariant_of-self g c =
    let line : LineState _ = record {
      encoder = c.self.inside.encoder;
      server = c.self.inside.server;
      sent = c.self.inside.sent.items;
      codes = c.self.inside.codes.items;
    } in
    let is : IsLine line = c.self.invariant.is_line in
    let k : ℕ = c.args.number in
    let len : vec_len c.self.inside.sent ≡ length c.self.inside.sent.items = search rules in
    let below : k < length c.self.inside.sent.items = omega (arith, c.if-number-len.false, c.len.ensures, len) in
    let near : length c.self.inside.sent.items ≤ k + 127 = let few =
    recent_le c.len-2.result k (sym c.is_recent.ensures ∙ c.if-not-is_recent.false) in
    omega (arith, few, c.len-2.ensures, len) in
    let spelled : c.as_slice.result.now ≡ spelling (frame_of line.encoder.address (once_of line) k) =
    c.as_slice.ensures.value ∙ c.spelled_frame-bytes.ensures
    ∙ ap (λ (l : LineState _). spelling (frame_of l.encoder.address (once_of l) k)) (sym c.self.view_is) in
    let reply : Option (Bool × Code) = c.take_in-reply.result in
    let goes = delivers g.T.Target.step g.T.Target.taken line is k below near c.as_slice.result.now spelled reply
    c.take_in-reply.ensures.reply c.take_in-reply.new.encoder c.take_in-reply.new.codes.items
    c.take_in-reply.ensures.state c.take_in-reply.ensures.codes in
    let address : c.take_in-reply.new.encoder.address ≡ c.self.inside.encoder.address =
    ap (λ (l : LineState _). l.encoder.address) goes.next ∙ frame_address g.T.Target.step g.T.Target.taken line k in
    record {
      is_line = goes_stays g.T.Target.step g.T.Target.taken line _ (FrameComes k) (delivered_by reply) tt goes;
      address_is = address ∙ c.self.invariant.address_is;
      fits = omega (arith, c.self.invariant.fits, c.take_in-reply.ensures.room);
      sent_room_is = c.self.invariant.sent_room_is;
      code_room_is = c.take_in-reply.ensures.room ∙ c.self.invariant.code_room_is;
    }

pub returns-clause-goes : goal.returns-clause-goes
returns-clause-goes g c =
    let line : LineState _ = record {
      encoder = c.self.inside.encoder;
      server = c.self.inside.server;
      sent = c.self.inside.sent.items;
      codes = c.self.inside.codes.items;
    } in
    let is : IsLine line = c.self.invariant.is_line in
    let k : ℕ = c.args.number in
    let len : vec_len c.self.inside.sent ≡ length c.self.inside.sent.items = search rules in
    let below : k < length c.self.inside.sent.items = omega (arith, c.if-number-len.false, c.len.ensures, len) in
    let near : length c.self.inside.sent.items ≤ k + 127 = let few =
    recent_le c.len-2.result k (sym c.is_recent.ensures ∙ c.if-not-is_recent.false) in
    omega (arith, few, c.len-2.ensures, len) in
    let spelled : c.as_slice.result.now ≡ spelling (frame_of line.encoder.address (once_of line) k) =
    c.as_slice.ensures.value ∙ c.spelled_frame-bytes.ensures
    ∙ ap (λ (l : LineState _). spelling (frame_of l.encoder.address (once_of l) k)) (sym c.self.view_is) in
    let reply : Option (Bool × Code) = c.take_in-reply.result in
    let goes = delivers g.T.Target.step g.T.Target.taken line is k below near c.as_slice.result.now spelled reply
    c.take_in-reply.ensures.reply c.take_in-reply.new.encoder c.take_in-reply.new.codes.items
    c.take_in-reply.ensures.state c.take_in-reply.ensures.codes in
    let after : LineState _ = record {
      encoder = c.take_in-reply.new.encoder;
      server = c.self.inside.server;
      sent = c.self.inside.sent.items;
      codes = c.take_in-reply.new.codes.items;
    } in
    let here : Goes g.T.Target.step g.T.Target.taken line (FrameComes k) c.delivered.result after =
    subst (λ (x : Stepped). Goes g.T.Target.step g.T.Target.taken line (FrameComes k) x after)
    (sym c.delivered.ensures) goes in
    subst (λ (l : LineState _). Goes g.T.Target.step g.T.Target.taken l (FrameComes k) c.delivered.result after)
    c.self.view_is here
