use Rattle.std.proofs.Common.{rules, ◌≤◌, ◌<◌, length, take}
use Rattle.conformance_command.proofs.Heard.{failed_more, not_silent}
use Rattle.conformance_command.proofs.clearing.is_silent.Goals as goal

pub loop-turn-preserved : goal.loop-turn-preserved
loop-turn-preserved g c =
    failed_more g.R.Read.remaining _ _ _ _ _ c.loop-turn.invariant _ (search rules) c.read.ensures.calls (search rules)
    (search rules)

pub returns-in-Ok : goal.returns-in-Ok
returns-in-Ok g c =
    let less : c.loop-turn._turn < c.args.most = search rules in
    let room : length (take c.in-Ok._count c.read.new.buffer) ≤ 64 = search rules in
    not_silent g.R.Read.remaining _ _ _ _ c.loop-turn.invariant less _ c.read.new.buffer c.in-Ok._count
    c.in-Ok.ensures.bytes.0 room c.read.ensures.calls c.in-Ok.ensures.failures (search rules)
