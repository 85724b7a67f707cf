use Rattle.std.proofs.Common.{◌≡◌, List, [], length}
use Rattle.std.specs.Io.KnownBytes.{Appends}
use Rattle.uecp_net.specs.Sessions.{Outcome, Sessions}
use Rattle.uecp_jobs.specs.EncoderRun.{connection_lines}
use Rattle.uecp_jobs.proofs.encoder_run.serve_connections.Given as goal

-- the connections so far were served, each has its line, and no line is kept
abbrev pub invariant-loop-before : goal.invariant-loop-before
invariant-loop-before g l = (outcomes : List Outcome)
    × (length outcomes ≡ l.before)
    × Sessions g.T.Target.step g.C.Connections.opens g.C.Connections.closes g.C.Input.Read.remaining
    g.C.Output.Write.contents
    l.fn.turns l.fn.encoder l.fn.connect outcomes l.encoder l.connect
    × Appends (g.W.Write.contents l.fn.writer) (g.W.Write.contents l.writer) (connection_lines 1 outcomes)
    × (l.output.bytes ≡ [])
