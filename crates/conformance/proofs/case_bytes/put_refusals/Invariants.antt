use Rattle.std.proofs.Common.{◌≡◌, ◌++◌, ◌-◌, ◌+◌, ◌≤◌, map}
use Rattle.std.specs.List.{range_with_len}
use Rattle.conformance.specs.declared.verdict.Expected.TheVariants.{Refusal}
use Rattle.conformance.proofs.case_bytes.put_refusals.Given as goal

abbrev pub invariant-loop-counter : goal.invariant-loop-counter
invariant-loop-counter l = (l.fn.row.first ≤ l.counter)
    × (l.counter - l.fn.row.first ≤ l.fn.row.last + 1 - l.fn.row.first)
    × (l.replies.items ≡ l.fn.replies.items
    ++ map (λ counter. Refusal counter)
    (range_with_len l.fn.row.first (l.counter - l.fn.row.first)))
