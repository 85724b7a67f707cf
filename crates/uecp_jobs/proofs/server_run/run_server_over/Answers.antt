use Rattle.std.proofs.Common.{◌≡◌, sym, ◌∙◌}
use Rattle.uecp_jobs.proofs.ServerRun.{acknowledged_all, sent_before, undescribed, not_sent}
use Rattle.uecp_jobs.proofs.server_run.run_server_over.Goals as goal

pub returns-in-Ok-clause-acknowledged : goal.returns-in-Ok-clause-acknowledged
returns-in-Ok-clause-acknowledged g c = λ is.
    let left = g.R.Read.remaining in
    let held = g.W.Write.contents in
    let now = c.send_all.new in
    acknowledged_all g.C.Connections.opens g.C.Connections.closes g.C.Input.Read.remaining g.C.Output.Write.contents
    c.args.job.now c.args.connect.now now.connect (left c.args.reader.now) (left now.reader)
    (held c.args.writer.now) (held now.writer) c.in-Ok.ensures.all

pub returns-in-Err-clause-sent_before : goal.returns-in-Err-clause-sent_before
returns-in-Err-clause-sent_before g c = λ is.
    let left = g.R.Read.remaining in
    let held = g.W.Write.contents in
    let says = g.E.Notices.says c.args.errors.now c.fail.new.errors in
    let now = c.send_all.new in
    (sent_before g.C.Connections.opens g.C.Connections.closes g.C.Input.Read.remaining g.C.Output.Write.contents
    c.args.job.now
    c.args.connect.now now.connect (left c.args.reader.now) (left now.reader) (held c.args.writer.now)
    (held now.writer) says c.requires
    (◌≡◌ {A = g.row.R.Denot} now.reader c.args.reader.now) (◌≡◌ {A = g.row.W.Denot} now.writer c.args.writer.now)
    (◌≡◌ {A = g.row.C.Denot} now.connect c.args.connect.now) c.in-Err.fault c.fail.ensures.said
    c.in-Err.ensures.some (sym c.fail.ensures.status ∙ is)).0

pub returns-in-Err-clause-acknowledged_before : goal.returns-in-Err-clause-acknowledged_before
returns-in-Err-clause-acknowledged_before g c = λ is.
    let left = g.R.Read.remaining in
    let held = g.W.Write.contents in
    let says = g.E.Notices.says c.args.errors.now c.fail.new.errors in
    let now = c.send_all.new in
    (sent_before g.C.Connections.opens g.C.Connections.closes g.C.Input.Read.remaining g.C.Output.Write.contents
    c.args.job.now
    c.args.connect.now now.connect (left c.args.reader.now) (left now.reader) (held c.args.writer.now)
    (held now.writer) says c.requires
    (◌≡◌ {A = g.row.R.Denot} now.reader c.args.reader.now) (◌≡◌ {A = g.row.W.Denot} now.writer c.args.writer.now)
    (◌≡◌ {A = g.row.C.Denot} now.connect c.args.connect.now) c.in-Err.fault c.fail.ensures.said
    c.in-Err.ensures.some (sym c.fail.ensures.status ∙ is)).1

pub returns-in-Err-clause-not_sent : goal.returns-in-Err-clause-not_sent
returns-in-Err-clause-not_sent g c = λ is.
    let left = g.R.Read.remaining in
    let held = g.W.Write.contents in
    let says = g.E.Notices.says c.args.errors.now c.fail.new.errors in
    let now = c.send_all.new in
    (not_sent g.C.Connections.opens g.C.Connections.closes g.C.Input.Read.remaining g.C.Output.Write.contents
    c.args.job.now
    c.args.connect.now now.connect (left c.args.reader.now) (left now.reader) (held c.args.writer.now)
    (held now.writer) says c.requires
    (◌≡◌ {A = g.row.R.Denot} now.reader c.args.reader.now) (◌≡◌ {A = g.row.W.Denot} now.writer c.args.writer.now)
    (◌≡◌ {A = g.row.C.Denot} now.connect c.args.connect.now) c.in-Err.fault c.fail.ensures.said
    c.in-Err.ensures.some (sym c.fail.ensures.status ∙ is)).0

pub returns-in-Err-clause-not_acknowledged : goal.returns-in-Err-clause-not_acknowledged
returns-in-Err-clause-not_acknowledged g c = λ is.
    let left = g.R.Read.remaining in
    let held = g.W.Write.contents in
    let says = g.E.Notices.says c.args.errors.now c.fail.new.errors in
    let now = c.send_all.new in
    (not_sent g.C.Connections.opens g.C.Connections.closes g.C.Input.Read.remaining g.C.Output.Write.contents
    c.args.job.now
    c.args.connect.now now.connect (left c.args.reader.now) (left now.reader) (held c.args.writer.now)
    (held now.writer) says c.requires
    (◌≡◌ {A = g.row.R.Denot} now.reader c.args.reader.now) (◌≡◌ {A = g.row.W.Denot} now.writer c.args.writer.now)
    (◌≡◌ {A = g.row.C.Denot} now.connect c.args.connect.now) c.in-Err.fault c.fail.ensures.said
    c.in-Err.ensures.some (sym c.fail.ensures.status ∙ is)).1

pub returns-in-Err-clause-undescribed : goal.returns-in-Err-clause-undescribed
returns-in-Err-clause-undescribed g c = λ is.
    let left = g.R.Read.remaining in
    let held = g.W.Write.contents in
    let says = g.E.Notices.says c.args.errors.now c.fail.new.errors in
    let now = c.send_all.new in
    let by = undescribed g.C.Connections.opens g.C.Connections.closes g.C.Input.Read.remaining g.C.Output.Write.contents
    c.args.job.now c.args.connect.now now.connect (left c.args.reader.now) (left now.reader)
    (held c.args.writer.now) (held now.writer) says c.requires
    (◌≡◌ {A = g.row.R.Denot} now.reader c.args.reader.now) (◌≡◌ {A = g.row.W.Denot} now.writer c.args.writer.now)
    (◌≡◌ {A = g.row.C.Denot} now.connect c.args.connect.now) c.in-Err.fault c.fail.ensures.said
    c.in-Err.ensures.some (sym c.fail.ensures.status ∙ is) in
    ((c.in-Err.fault, by.0, c.fail.ensures.said), by.1, by.2, by.3)
