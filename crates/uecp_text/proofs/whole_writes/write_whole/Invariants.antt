use Rattle.std.proofs.Common.{◌≡◌, ℕ, List, ◌++◌}
use Rattle.std.specs.Io.KnownBytes.{Appends}
use Rattle.uecp_text.proofs.whole_writes.write_whole.Given as goal

-- what was written so far, and what is left
abbrev pub invariant-loop-turn : goal.invariant-loop-turn
invariant-loop-turn g l = (part : List ℕ) × (l.bytes ≡ part ++ l.rest)
    × Appends (g.W.Write.contents l.fn.writer) (g.W.Write.contents l.writer) part
