use Rattle.std.proofs.Common.{◌≡◌, flat_map, take}
use Rattle.conformance.specs.Sending.{step_sent}
use Rattle.conformance.proofs.case_bytes.sent.Given as goal

abbrev pub invariant-loop-step : goal.invariant-loop-step
invariant-loop-step l = l.bytes.items ≡ flat_map (step_sent l.own) (take l.step-index l.steps)
