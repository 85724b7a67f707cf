use Rattle.std.proofs.Common.{◌≡◌, ◌-◌, length, vec_len, ap, sym, subst, ◌∙◌, arith, rules}
use Rattle.uecp_link.specs.Once.{least_missing}
use Rattle.uecp_link.specs.Holds.{LineState, let_go, is_acknowledged, once_of}
use Rattle.uecp_link.proofs.HeldNumbers.{length-held_from}
use Rattle.uecp_link.proofs.Steps.{least_acknowledged}
use Rattle.uecp_link.proofs.line.Line.acknowledged.Goals as goal

pub overflow_sub-result : goal.overflow_sub-result
overflow_sub-result g c =
    let line : LineState _ = record {
      encoder = c.self.inside.encoder;
      server = c.self.inside.server;
      sent = c.self.inside.sent.items;
      codes = c.self.inside.codes.items;
    } in
    let is = c.self.invariant.is_line in
    let held : length line.server.held ≡ is.count = ap length is.server.held
    ∙ length-held_from line.sent (once_of line).acknowledged (let_go line) is.count in
    let sent : vec_len c.self.inside.sent ≡ length c.self.inside.sent.items = search rules in
    omega (arith, held, is.count_is, sent, c.len.ensures, c.held_count.ensures.value)

pub returns-clause-value : goal.returns-clause-value
returns-clause-value g c =
    let line : LineState _ = record {
      encoder = c.self.inside.encoder;
      server = c.self.inside.server;
      sent = c.self.inside.sent.items;
      codes = c.self.inside.codes.items;
    } in
    let is = c.self.invariant.is_line in
    let sent : vec_len c.self.inside.sent ≡ length c.self.inside.sent.items = search rules in
    let gone : c.len.result - c.held_count.result ≡ let_go line =
    omega (arith, sent, c.len.ensures, c.held_count.ensures.value) in
    subst (λ (l : LineState _). c.len.result - c.held_count.result ≡ least_missing (is_acknowledged l) (length l.sent))
    c.self.view_is
    (gone ∙ sym (least_acknowledged line.encoder.address line.encoder line.server (once_of line) (length line.codes)
    (let_go line) is))
