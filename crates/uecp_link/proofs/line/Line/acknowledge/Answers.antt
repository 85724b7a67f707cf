use Rattle.std.proofs.Common.{◌≡◌, ◌+◌, ◌<◌, ◌≤◌, ℕ, Some, length, vec_len, ◌∙◌, ap, sym, subst, arith, rules}
use Rattle.std.specs.Prelude.{slice_get, unwrap_or}
use Rattle.std.proofs.lemmas.Bool.{lt-ltb}
use Rattle.uecp_elements.specs.declared.code.Code.TheVariants.{Applied}
use Rattle.uecp_link.specs.declared.stepped.Stepped.{Stepped}
use Rattle.uecp_link.specs.Once.{ReplyComes}
use Rattle.uecp_link.specs.Law.{reply_bytes}
use Rattle.uecp_link.specs.Holds.{LineState, IsLine}
use Rattle.uecp_link.specs.Next.{Goes}
use Rattle.uecp_link.proofs.Steps.{recent_le}
use Rattle.uecp_link.proofs.Numbering.{some_code_at}
use Rattle.uecp_link.proofs.Delivering.{goes_stays}
use Rattle.uecp_link.proofs.Acknowledging.{hears_reply}
use Rattle.uecp_link.proofs.line.Line.acknowledge.Goals as goal

pub invariant_of-self : goal.invariant_of-self
invariant_of-self g c =
    let line : LineState _ = record {
      encoder = c.self.inside.encoder;
      server = c.self.inside.server;
      sent = c.self.inside.sent.items;
      codes = c.self.inside.codes.items;
    } in
    let is : IsLine line = c.self.invariant.is_line in
    let k : ℕ = c.args.number in
    let len : vec_len c.self.inside.codes ≡ length c.self.inside.codes.items = search rules in
    let sent : vec_len c.self.inside.sent ≡ length c.self.inside.sent.items = search rules in
    let below : k < length c.self.inside.codes.items = omega (arith, c.if-number-len.false, c.len.ensures, len) in
    let near : length c.self.inside.sent.items ≤ k + 127 = let few =
    recent_le c.len-2.result k (sym c.is_recent.ensures ∙ c.if-not-is_recent.false) in
    omega (arith, few, c.len-2.ensures, sent) in
    let spelled : c.as_slice.result.now ≡ reply_bytes line.encoder.address k (slice_get line.codes k) =
    c.as_slice.ensures.value ∙ c.spelled_reply-bytes.ensures
    ∙ ap (λ (l : LineState _). reply_bytes l.encoder.address k (slice_get l.codes k)) (sym c.self.view_is) in
    let at : slice_get line.codes k ≡ Some (unwrap_or (slice_get line.codes k) Applied) =
    sym (some_code_at (slice_get line.codes k) (is.applied k ∙ lt-ltb k (length line.codes) below)) in
    let goes = hears_reply g.T.Target.step g.T.Target.taken line is k below near c.as_slice.result.now spelled
    (unwrap_or (slice_get line.codes k) Applied) at c.hear_reply.new.server c.hear_reply.ensures.state in
    record {
      is_line = goes_stays g.T.Target.step g.T.Target.taken line _ (ReplyComes k) _ tt goes;
      address_is = c.self.invariant.address_is;
      fits = c.self.invariant.fits;
      sent_room_is = c.self.invariant.sent_room_is;
      code_room_is = c.self.invariant.code_room_is;
    }

pub returns-clause-goes : goal.returns-clause-goes
returns-clause-goes g c =
    let line : LineState _ = record {
      encoder = c.self.inside.encoder;
      server = c.self.inside.server;
      sent = c.self.inside.sent.items;
      codes = c.self.inside.codes.items;
    } in
    let is : IsLine line = c.self.invariant.is_line in
    let k : ℕ = c.args.number in
    let len : vec_len c.self.inside.codes ≡ length c.self.inside.codes.items = search rules in
    let sent : vec_len c.self.inside.sent ≡ length c.self.inside.sent.items = search rules in
    let below : k < length c.self.inside.codes.items = omega (arith, c.if-number-len.false, c.len.ensures, len) in
    let near : length c.self.inside.sent.items ≤ k + 127 = let few =
    recent_le c.len-2.result k (sym c.is_recent.ensures ∙ c.if-not-is_recent.false) in
    omega (arith, few, c.len-2.ensures, sent) in
    let spelled : c.as_slice.result.now ≡ reply_bytes line.encoder.address k (slice_get line.codes k) =
    c.as_slice.ensures.value ∙ c.spelled_reply-bytes.ensures
    ∙ ap (λ (l : LineState _). reply_bytes l.encoder.address k (slice_get l.codes k)) (sym c.self.view_is) in
    let at : slice_get line.codes k ≡ Some (unwrap_or (slice_get line.codes k) Applied) =
    sym (some_code_at (slice_get line.codes k) (is.applied k ∙ lt-ltb k (length line.codes) below)) in
    let goes = hears_reply g.T.Target.step g.T.Target.taken line is k below near c.as_slice.result.now spelled
    (unwrap_or (slice_get line.codes k) Applied) at c.hear_reply.new.server c.hear_reply.ensures.state in
    let after : LineState _ = record {
      encoder = c.self.inside.encoder;
      server = c.hear_reply.new.server;
      sent = c.self.inside.sent.items;
      codes = c.self.inside.codes.items;
    } in
    let here : Goes g.T.Target.step g.T.Target.taken line (ReplyComes k) c.hear_reply.result after =
    subst (λ (x : Stepped). Goes g.T.Target.step g.T.Target.taken line (ReplyComes k) x after)
    (sym c.hear_reply.ensures.answer) goes in
    subst (λ (l : LineState _). Goes g.T.Target.step g.T.Target.taken l (ReplyComes k) c.hear_reply.result after)
    c.self.view_is here
