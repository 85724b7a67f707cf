use Rattle.std.proofs.Common.{is_some}
use Rattle.uecp_frame.specs.Beyond.{found_beyond}
use Rattle.uecp_frame.specs.Feeding.{findings_of}
use Rattle.uecp_watch.proofs.Timed.{timed_then}
use Rattle.uecp_watch.proofs.telling.put_read.Goals as goal

pub returns-clause-lines : goal.returns-clause-lines
returns-clause-lines g c =
    let time = c.put_time_of.ensures in
    timed_then c.args.form (is_some c.args.clock) c.args.output.now c.put_time_of.new.output c.put_found.new.output
    c.put_rest.new.output (findings_of c.args.first.now) (found_beyond c.args.deframer.now c.args.rest.now) time.0
    time.1
    time.2 c.put_found.ensures c.put_rest.ensures.lines
