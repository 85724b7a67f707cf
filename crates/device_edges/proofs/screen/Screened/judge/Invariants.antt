use Rattle.std.proofs.Common.{◌≡◌}
use Rattle.std.specs.Io.KnownBytes.{Keeps}
use Rattle.device_edges.specs.declared.screen.Phase.TheVariants.{Judging}
use Rattle.device_edges.proofs.FirstBytes.{of}
use Rattle.device_edges.proofs.screen.Screened.judge.Given as goal

-- nothing was judged yet, and what is handed on still is the same
abbrev pub invariant-loop-read : goal.invariant-loop-read
invariant-loop-read g l = (l.self-inside.phase ≡ Judging)
    × Keeps (of Judging l.initial.self-inside.first.items (g.R.Read.remaining l.initial.self-inside.reader))
    (of Judging l.self-inside.first.items (g.R.Read.remaining l.self-inside.reader))
