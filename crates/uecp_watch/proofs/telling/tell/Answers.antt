use Rattle.std.proofs.Common.{rules, ◌≡◌, ◌∙◌, Err, is_some, IfErr, refl, inl, inr, sym, subst, IsTrue}
use Rattle.std.proofs.lemmas.Result.{IfOk-weaker, IfErr-weaker}
use Rattle.std.specs.Io.KnownBytes.{Appends}
use Rattle.uecp_frame.specs.Beyond.{found_beyond}
use Rattle.uecp_text.specs.declared.run_fault.RunFault.TheVariants.{OutOfMemory}
use Rattle.uecp_text.specs.Written.{Begins}
use Rattle.uecp_watch.specs.Watching.{FailsToTell}
use Rattle.uecp_watch.proofs.Pieces.{open_on}
use Rattle.uecp_watch.proofs.Timed.{is_told, holds, fails_to, not_done}
use Rattle.uecp_watch.proofs.telling.tell.Goals as goal

pub returns : goal.returns
returns g c =
    let held = g.W.Write.contents c.args.writer.now in
    let held' = g.W.Write.contents c.write_out.new.writer in
    let timed = is_some c.args.clock in
    let o = c.args.deframer.now in
    let o' = c.feed-fed.new.self in
    let rest = c.rest_after-rest.result.now in
    let feeds = c.feed-fed.ensures.feeds in
    let after = c.put_read.new.output in
    let read = c.put_read.ensures.lines in
    let whole : IsTrue after.is_whole = search rules in
    let said : after.bytes ≡ read.0 = holds c.args.form timed o o' c.args.bytes.now rest c.feed-fed.result feeds
    c.rest_after-rest.ensures c.in_default.not-Nothing c.args.output.now after c.requires.empty read.0 read.1 read.2
    whole in
    record {
      told = IfOk-weaker c.write_out.result _ _ (λ _ written. (
        read.0,
        is_told c.args.form timed o o' c.args.bytes.now rest c.feed-fed.result feeds
            c.rest_after-rest.ensures c.in_default.not-Nothing c.args.output.now after c.requires.empty read.0 read.1
            read.2,
        subst (Appends held held') said written,
      )) c.write_out.ensures.written;
      failed = IfErr-weaker c.write_out.result _ _ (λ fault writing.
          fails_to c.args.form timed o o' c.args.bytes.now rest c.feed-fed.result feeds
          c.rest_after-rest.ensures c.in_default.not-Nothing c.args.output.now after c.requires.empty read.0 read.1
          read.2
          held held' fault (inr (writing, subst (Begins held held') said c.write_out.ensures.begun)))
          c.write_out.ensures.failed;
      left = IfOk-weaker c.write_out.result _ _ (λ _ _. sym (open_on o o' c.feed-fed.result c.args.bytes.now rest feeds
          c.rest_after-rest.ensures) ∙ c.put_read.ensures.left) c.write_out.ensures.empty;
      empty = c.write_out.ensures.empty;
      whole = IfOk-weaker c.write_out.result _ _ (λ _ _. c.write_out.ensures.whole ∙ whole) c.write_out.ensures.empty;
    }

pub returns-in_err-check : goal.returns-in_err-check
returns-in_err-check g c =
    let held = g.W.Write.contents c.args.writer.now in
    let timed = is_some c.args.clock in
    let o = c.args.deframer.now in
    let o' = c.feed-fed.new.self in
    let rest = c.rest_after-rest.result.now in
    let read = c.put_read.ensures.lines in
    let wanting : c.from_residual.result ≡ Err OutOfMemory = search rules in
    let fails = fails_to c.args.form timed o o' c.args.bytes.now rest c.feed-fed.result c.feed-fed.ensures.feeds
    c.rest_after-rest.ensures c.in_default.not-Nothing c.args.output.now c.put_read.new.output c.requires.empty read.0
    read.1 read.2 held held OutOfMemory (inl (refl, refl)) in
    record {
      told = not_done c.from_residual.result OutOfMemory _ wanting;
      failed = subst (λ result. IfErr result (FailsToTell c.args.form timed (found_beyond o c.args.bytes.now) held
          held))
          (sym wanting) fails;
      left = not_done c.from_residual.result OutOfMemory _ wanting;
      empty = not_done c.from_residual.result OutOfMemory _ wanting;
      whole = not_done c.from_residual.result OutOfMemory _ wanting;
    }
