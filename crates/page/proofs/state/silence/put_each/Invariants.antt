-- What was added, and what the control lines that are left add, are what all add.
use Rattle.std.proofs.Common.{◌≡◌, ◌++◌, drop, map}
use Rattle.page.specs.Texts.{stale_texts}
use Rattle.page.specs.StateView.{line_of}
use Rattle.page.proofs.state.silence.put_each.Given as goal

abbrev pub invariant-loop-line : goal.invariant-loop-line
invariant-loop-line l =
    l.text.items ++ stale_texts l.moment (drop l.line-index (map line_of l.lines))
    ≡ l.fn.text.items ++ stale_texts l.moment (map line_of l.lines)
