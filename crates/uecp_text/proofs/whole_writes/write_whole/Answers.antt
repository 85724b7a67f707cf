use Rattle.std.proofs.Common.{◌++◌, ap, ◌∙◌, sym}
use Rattle.std.proofs.KnownBytes.{Appends-kept}
use Rattle.uecp_text.proofs.Begun.{more_written}
use Rattle.uecp_text.proofs.whole_writes.write_whole.Goals as goal
use Rattle.uecp_text.proofs.whole_writes.write_whole.Goals.{in-Ok, in-Err}

pub loop-turn-preserved : goal.loop-turn-preserved
loop-turn-preserved g c =
    let held = g.W.Write.contents in
    let now = c.loop-turn in
    elim c.match-write.branch [
      | in-Ok w ↦
          let more = more_written (held c.args.writer.now) (held now.writer) (held c.write.new.self) c.args.bytes.now
          now.invariant.0 now.rest.now w.rest_after-rest.result.now w.in-Ok.count
          now.invariant.1 now.invariant.2 w.in-Ok.ensures.bytes w.rest_after-rest.ensures in
          (more.0, more.1 ∙ ap (λ rest. more.0 ++ rest.now) (sym w.rest-is), more.2)
      | in-Err w ↦ (
        now.invariant.0,
        now.invariant.1 ∙ ap (λ rest. now.invariant.0 ++ rest.now) (sym w.rest-is),
        Appends-kept (held c.args.writer.now) (held now.writer) (held c.write.new.self) now.invariant.0 now.invariant.2
            w.in-Err.ensures.bytes,
      )
    ]
