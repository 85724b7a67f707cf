use Rattle.std.proofs.Common.{◌≡◌, drop}
use Rattle.uecp_link.specs.Window.{code_under}
use Rattle.uecp_net.proofs.sender.telling.first_code.Given as goal

-- the first mark is among the rest
abbrev pub invariant-loop-marked : goal.invariant-loop-marked
invariant-loop-marked l = code_under l.counter (drop l.marked-index l.marks.items) ≡ code_under l.counter l.marks.items
