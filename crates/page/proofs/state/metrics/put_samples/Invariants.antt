-- What was added, and what the control lines that are left add, are what all add.
use Rattle.std.proofs.Common.{◌≡◌, ◌++◌, drop, map}
use Rattle.page.specs.Texts.{samples}
use Rattle.page.specs.StateView.{line_of}
use Rattle.page.proofs.state.metrics.put_samples.Given as goal

abbrev pub invariant-loop-line : goal.invariant-loop-line
invariant-loop-line l =
    l.text.items ++ samples l.name l.more l.metric (drop l.line-index (map line_of l.lines))
    ≡ l.fn.text.items ++ samples l.name l.more l.metric (map line_of l.lines)
