use Rattle.std.proofs.Common.{◌≡◌, flat_map, take}
use Rattle.conformance.specs.Sending.{step_wants}
use Rattle.conformance.proofs.case_bytes.wanted.Given as goal

abbrev pub invariant-loop-step : goal.invariant-loop-step
invariant-loop-step l = l.replies.items ≡ flat_map step_wants (take l.step-index l.steps)
