use Rattle.std.proofs.Common.{◌≤◌, length, arith}
use Rattle.uecp_link.specs.Server.{waiting}
use Rattle.uecp_link.proofs.Tries.{tried_none, tried_on, write_failed_at, acknowledged_at, closed_at, spent_at}
use Rattle.uecp_link.proofs.Answered.{still_waits, is_freed, few_wait}
use Rattle.uecp_link.proofs.driving.resend.Goals as goal

pub loop-before-init : goal.loop-before-init
loop-before-init g c = tried_none g.R.Read.remaining g.W.Write.contents c.args.server.now c.args.reader.now
    c.args.writer.now c.args.turns

pub loop-before-preserved : goal.loop-before-preserved
loop-before-preserved g c =
    let (sent_is, wrote) = c.in-Ok.ensures.ok in
    tried_on g.R.Read.remaining g.W.Write.contents _ _ _ _ _ c.loop-before.writer c.args.turns _ _
    c.loop-before.invariant _ _ _ c.in-Ok.whole sent_is c.send_frame.ensures.few wrote c.in-Ok.ensures.failures
    c.in-Nothing.ensures

pub returns-in-Err-clause-drives : goal.returns-in-Err-clause-drives
returns-in-Err-clause-drives g c =
    let (within, wrote) = c.in-Err.ensures.err in
    write_failed_at g.R.Read.remaining g.W.Write.contents _ _ _ _ _ c.loop-before.writer c.args.turns _ _
    c.loop-before.invariant _ c.args.tries c.in-Err.part (omega arith) within wrote c.in-Err.ensures.failures

pub returns-in-Err-clause-outstanding : goal.returns-in-Err-clause-outstanding
returns-in-Err-clause-outstanding g c = still_waits c.args.server.now c.loop-before.server c.loop-before.invariant.read
    c.loop-before.invariant.state c.loop-before.invariant.silent

pub returns-in-Acknowledged-clause-drives : goal.returns-in-Acknowledged-clause-drives
returns-in-Acknowledged-clause-drives g c =
    let (sent_is, wrote) = c.in-Ok.ensures.ok in
    acknowledged_at g.R.Read.remaining g.W.Write.contents _ _ _ _ _ c.loop-before.writer c.args.turns _ _
    c.loop-before.invariant _ _ _ c.args.tries c.in-Acknowledged.code (omega arith) wrote c.in-Ok.ensures.failures
    c.in-Acknowledged.ensures

pub returns-in-Acknowledged-clause-idle : goal.returns-in-Acknowledged-clause-idle
returns-in-Acknowledged-clause-idle g c =
    let (sent_is, wrote) = c.in-Ok.ensures.ok in
    let d = acknowledged_at g.R.Read.remaining g.W.Write.contents _ _ _ _ _ c.loop-before.writer c.args.turns _ _
    c.loop-before.invariant c.listen.new.server c.listen.new.reader c.send_frame.new.writer c.args.tries
    c.in-Acknowledged.code (omega arith) wrote c.in-Ok.ensures.failures c.in-Acknowledged.ensures in
    let few : length (waiting c.args.server.now) ≤ 1 = omega (arith, c.requires) in
    is_freed c.args.server.now c.listen.new.server d.read c.in-Acknowledged.code few d.state d.ends.4.comes

pub returns-in-Ended-clause-drives : goal.returns-in-Ended-clause-drives
returns-in-Ended-clause-drives g c =
    let (sent_is, wrote) = c.in-Ok.ensures.ok in
    closed_at g.R.Read.remaining g.W.Write.contents _ _ _ _ _ c.loop-before.writer c.args.turns _ _
    c.loop-before.invariant _ _ _ c.args.tries (omega arith) wrote c.in-Ok.ensures.failures c.in-Ended.ensures

pub returns-in-Ended-clause-outstanding : goal.returns-in-Ended-clause-outstanding
returns-in-Ended-clause-outstanding g c =
    let (sent_is, wrote) = c.in-Ok.ensures.ok in
    let d = closed_at g.R.Read.remaining g.W.Write.contents _ _ _ _ _ c.loop-before.writer c.args.turns _ _
    c.loop-before.invariant c.listen.new.server c.listen.new.reader c.send_frame.new.writer c.args.tries
    (omega arith) wrote c.in-Ok.ensures.failures c.in-Ended.ensures in
    still_waits c.args.server.now c.listen.new.server d.read d.state d.ends.3

pub returns-clause-drives : goal.returns-clause-drives
returns-clause-drives g c = spent_at g.R.Read.remaining g.W.Write.contents _ _ _ _ _ c.loop-before.writer c.args.turns _
    _ c.loop-before.invariant c.args.tries (omega arith)

pub returns-clause-outstanding : goal.returns-clause-outstanding
returns-clause-outstanding g c = still_waits c.args.server.now c.loop-before.server c.loop-before.invariant.read
    c.loop-before.invariant.state c.loop-before.invariant.silent

pub listen-requires : goal.listen-requires
listen-requires g c = few_wait c.args.server.now c.loop-before.server c.loop-before.invariant.read
    (omega (arith, c.requires)) c.loop-before.invariant.state c.loop-before.invariant.silent
