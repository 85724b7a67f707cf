use Rattle.std.proofs.Common.{rules, arith, ◌≡◌, ◌≤◌, ◌^◌, ◌-◌, length, sym, ap, subst, ◌∙◌}
use Rattle.std.specs.Io.KnownBytes.{Appends, Consumes}
use Rattle.uecp_encoder.specs.Answering.{responses_to}
use Rattle.uecp_encoder.specs.Serving.{replies_among}
use Rattle.uecp_encoder.specs.ServingWith.{ServesKept}
use Rattle.uecp_encoder.specs.Telling.{HasHeard}
use Rattle.device_serving.specs.declared.air.tally.Tally.{Tally}
use Rattle.device_serving.specs.AirLines.{sent_too}
use Rattle.device_serving.proofs.AirTallying.{has_counted, all_written, one_read}
use Rattle.device_serving.proofs.air.tally.read_once.Goals as goal

pub returns-clause-reads : goal.returns-clause-reads
returns-clause-reads g c =
    let step = g.T.Target.step in
    let k = g.K.Keep in
    let m = g.K.BatchLimits in
    let called = c.serve_with-ended in
    let (s, written, n, consumed, appended, serves, heard, made, calls, few) = called.ensures.bytes in
    let one : n ≡ 1 = one_read called.result n made in
    let replies : c.args.line.sent.replies ≤ 2 ^ 64 - 1 = search rules in
    let bytes : c.args.line.sent.bytes ≤ 2 ^ 64 - 1 = search rules in
    let counted = has_counted m.TOGETHER_MAX g.L.Listener.hears (λ (t : Tally g.row.L.Denot). t.listener.now)
    (λ (t : Tally g.row.L.Denot). t.sent) (λ (t : Tally g.row.L.Denot). t.listener.ghost_name) step
    c.args.encoder.now called.new.encoder _ called.new.listener s written called.result
    (record { replies = replies; bytes = bytes }) heard in
    let same = counted.same in
    let last : c.listener-1.given.0 ≡ called.new.listener.listener.now = search rules in
    let input : c.into_inner.result ≡ called.new.reader.device = c.into_inner.ensures in
    let output : c.into_inner-2.result ≡ called.new.writer.device = c.into_inner-2.ensures in
    record {
      read = s;
      sent = written;
      consumed = subst (λ d. Consumes (g.I.Read.remaining c.args.line.input) (g.I.Read.remaining d) s) (sym input)
          (subst (λ d. Consumes (g.I.Read.remaining d) (g.I.Read.remaining called.new.reader.device) s)
          c.new-reader.ensures.device consumed);
      appended = subst (λ d. Appends (g.O.Write.contents c.args.line.output) (g.O.Write.contents d) written)
          (sym output)
          (subst (λ d. Appends (g.O.Write.contents d) (g.O.Write.contents called.new.writer.device) written)
          c.new-writer.ensures.device appended);
      serves = subst (λ d. ServesKept m.TOGETHER_MAX m.READ_MAX step k.leaves k.is_clean k.saves k.fails
          c.args.encoder.now called.new.encoder c.args.keeper.now called.new.keeper s written
          (g.I.Read.remaining d) 1 1 called.result) (sym input)
          (subst (λ reads. ServesKept m.TOGETHER_MAX m.READ_MAX step k.leaves k.is_clean k.saves k.fails
          c.args.encoder.now called.new.encoder c.args.keeper.now called.new.keeper s written
          (g.I.Read.remaining called.new.reader.device) 1 reads called.result) one serves);
      heard = subst (λ l. HasHeard m.TOGETHER_MAX g.L.Listener.hears step c.args.encoder.now called.new.encoder
          c.args.listener.now l s written called.result) (sym last) counted.heard;
      few_bytes = omega (arith, few);
      left = c.saturating_sub.ensures;
      counted = λ is. counted.counted is
          ∙ ap (λ bytes. sent_too c.args.line.sent (replies_among (responses_to step c.args.encoder.now s))
          (length bytes))
          (sym (all_written m.TOGETHER_MAX m.READ_MAX step c.args.encoder.now called.new.encoder s written _ 1
          called.result is serves.serves));
    }
