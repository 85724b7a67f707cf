use Rattle.std.proofs.Common.{◌≡◌, ◌++◌, ◌-◌, ◌+◌, ◌≤◌, flat_map}
use Rattle.std.specs.List.{range_with_len}
use Rattle.conformance.specs.Sending.{frame_sent}
use Rattle.conformance.proofs.case_bytes.put_frames.Given as goal

abbrev pub invariant-loop-counter : goal.invariant-loop-counter
invariant-loop-counter l = (l.fn.row.first ≤ l.counter)
    × (l.counter - l.fn.row.first ≤ l.fn.row.last + 1 - l.fn.row.first)
    × (l.bytes.items ≡ l.fn.bytes.items
    ++ flat_map (λ counter. frame_sent l.fn.own counter l.fn.message l.fn.edit)
    (range_with_len l.fn.row.first (l.counter - l.fn.row.first)))
