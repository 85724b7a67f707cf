use Rattle.std.proofs.Common.{◌≡◌, map, take, Some}
use Rattle.uecp_link.specs.Window.{code_under}
use Rattle.uecp_net.proofs.sender.telling.codes_of.Given as goal

-- the codes so far are those of the counters so far
abbrev pub invariant-loop-counter : goal.invariant-loop-counter
invariant-loop-counter l = map Some l.codes.items
    ≡ map (λ counter. code_under counter l.marks.items) (take l.counter-index l.counters.items)
