use Rattle.std.proofs.Common.{◌≡◌, sym, ap, ◌∙◌}
use Rattle.state_jobs.proofs.server_run.send_list.Goals as goal

pub returns-clause-sends : goal.returns-clause-sends
returns-clause-sends g c =
    let run = c.run_from-ran in
    let told = c.new-teller.ensures in
    let back = c.writer-1.given.1 (sym (ap (λ t. t.writer) told) ∙ sym run.ensures.writer
    ∙ sym c.finish-writer.ensures.same) in
    let now = sym c.finish-writer.ensures.held ∙ sym (ap g.W.Write.contents back) in
    (_, _, rw (told, c.new-listed.ensures, c.as_slice.ensures.value, now) at run.ensures.lives)
