use Rattle.std.proofs.Common.{sym, ap, ◌∙◌}
use Rattle.send_commands.proofs.over_tcp.run_send_over_tcp.Goals as goal

pub returns : goal.returns
returns g c =
    let told = c.new-teller.ensures in
    let back = c.writer-1.given.1 (sym (ap (λ t. t.writer) told) ∙ sym c.run_over_tcp-status.ensures.writer
    ∙ sym c.finish-writer.ensures.same) in
    let out = sym (ap g.W.Write.contents back) in (
      _,
      _,
      rw told at c.run_over_tcp-status.ensures.sent,
      rw (c.finish-writer.ensures.held, out) at c.tell_ended.ensures,
    )
