use Rattle.std.proofs.Common.{◌≡◌, sym, ap, ◌∙◌}
use Rattle.ladders.proofs.Doing.{refused_by, undescribed_by, failed_by, never_done}
use Rattle.ladders.proofs.ladder_job.run_ladder.Goals as goal

pub returns-in-Err-clause-done : goal.returns-in-Err-clause-done
returns-in-Err-clause-done g c = λ zero. absurd (never_done c.in-Err.fault (sym c.fail.ensures.status ∙ zero))

pub returns-in-Err-clause-refused : goal.returns-in-Err-clause-refused
returns-in-Err-clause-refused g c = λ one.
    let left = g.R.Read.remaining in
    let held = g.W.Write.contents in
    let now = c.draw_ladder in
    let fault = c.in-Err.fault in
    let is = sym c.fail.ensures.status ∙ one in (
      fault,
      is,
      refused_by c.args.job.now (left c.args.reader.now) (left now.new.reader) (held c.args.writer.now)
          (held now.new.writer) (◌≡◌ {A = g.row.R.Denot} now.new.reader c.args.reader.now)
          (◌≡◌ {A = g.row.W.Denot} now.new.writer c.args.writer.now) fault c.in-Err.ensures.does is,
      c.fail.ensures.said,
    )

pub returns-in-Err-clause-undescribed : goal.returns-in-Err-clause-undescribed
returns-in-Err-clause-undescribed g c = λ two.
    let left = g.R.Read.remaining in
    let held = g.W.Write.contents in
    let now = c.draw_ladder in
    let fault = c.in-Err.fault in
    let is = sym c.fail.ensures.status ∙ two in
    let by = undescribed_by c.args.job.now (left c.args.reader.now) (left now.new.reader) (held c.args.writer.now)
    (held now.new.writer) (◌≡◌ {A = g.row.R.Denot} now.new.reader c.args.reader.now)
    (◌≡◌ {A = g.row.W.Denot} now.new.writer c.args.writer.now) fault c.in-Err.ensures.does is in
    ((fault, by.0, c.fail.ensures.said), by.1, by.2)

pub returns-in-Err-clause-failed : goal.returns-in-Err-clause-failed
returns-in-Err-clause-failed g c = λ three.
    let left = g.R.Read.remaining in
    let held = g.W.Write.contents in
    let now = c.draw_ladder in
    let fault = c.in-Err.fault in
    let is = sym c.fail.ensures.status ∙ three in
    let by = failed_by c.args.job.now (left c.args.reader.now) (left now.new.reader) (held c.args.writer.now)
    (held now.new.writer) (◌≡◌ {A = g.row.R.Denot} now.new.reader c.args.reader.now)
    (◌≡◌ {A = g.row.W.Denot} now.new.writer c.args.writer.now) fault c.in-Err.ensures.does (ap left) (ap held) is in
    (fault, by, c.fail.ensures.said)
