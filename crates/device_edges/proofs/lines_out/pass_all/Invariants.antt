use Rattle.std.specs.Io.KnownBytes.{Keeps, append_known}
use Rattle.device_edges.proofs.lines_out.pass_all.Given as goal

-- what was handed on and what is left are all bytes
abbrev pub invariant-loop-write : goal.invariant-loop-write
invariant-loop-write g l =
    Keeps (append_known l.initial.outlet.held l.fn.bytes) (append_known l.outlet.held l.rest)
