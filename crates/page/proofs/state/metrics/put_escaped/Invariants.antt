-- What was added, and what the bytes that are left add, are what all add.
use Rattle.std.proofs.Common.{◌≡◌, ◌++◌, drop}
use Rattle.page.specs.Texts.{escaped}
use Rattle.page.proofs.state.metrics.put_escaped.Given as goal

abbrev pub invariant-loop-byte : goal.invariant-loop-byte
invariant-loop-byte l =
    l.text.items ++ escaped (drop l.byte-index l.label) ≡ l.fn.text.items ++ escaped l.label
