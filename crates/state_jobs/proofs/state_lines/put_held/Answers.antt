use Rattle.std.proofs.Common.{◌+◌, flat_map, drop, sym}
use Rattle.uecp_link.specs.Resuming.{held_of}
use Rattle.uecp_text.proofs.Public.{leads_on}
use Rattle.state_jobs.specs.StateLines.{held_line}
use Rattle.state_jobs.proofs.Walks.{line_first}
use Rattle.state_jobs.proofs.state_lines.put_held.Goals as goal

pub loop-held-preserved : goal.loop-held-preserved
loop-held-preserved c =
    let held = c.args.server.now.held in
    let place = c.loop-held.place in
    let h = held_of c.in-Some.held in
    leads_on c.args.output.now c.loop-held.output c.put_one.new.output (held_line h)
    (flat_map held_line (drop place held)) (flat_map held_line (drop (place + 1) held)) (flat_map held_line held)
    c.loop-held.invariant (line_first held place h (sym c.in-Some.ensures.value)) c.put_one.ensures
