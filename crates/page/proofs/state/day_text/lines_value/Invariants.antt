-- The objects so far are those of the control lines so far.
use Rattle.std.proofs.Common.{◌≡◌, take, map}
use Rattle.serde_json.specs.View.{view}
use Rattle.page.specs.HistoryTexts.{line_history}
use Rattle.page.specs.StateView.{line_of}
use Rattle.page.proofs.state.day_text.lines_value.Given as goal

abbrev pub invariant-loop-line : goal.invariant-loop-line
invariant-loop-line l =
    map view l.list.items ≡ map (λ r. line_history l.now (line_of r)) (take l.line-index l.lines)
