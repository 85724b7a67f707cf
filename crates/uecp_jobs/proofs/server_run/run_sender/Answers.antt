use Rattle.std.proofs.Common.{inl}
use Rattle.uecp_jobs.proofs.server_run.run_sender.Goals as goal

pub returns-clause-runs : goal.returns-clause-runs
returns-clause-runs g c =
    let first = c.join_first.new in
    let (batches, sends) = c.send_batches.ensures.sends in
    inl (first.sender, g.W.Write.contents first.writer, batches, c.in_ok-join_first.ensures.joins, sends)
