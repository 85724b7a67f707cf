-- It is none of those so far.
use Rattle.std.proofs.Common.{◌≡◌, drop}
use Rattle.page.specs.Announced.{since_of}
use Rattle.page.proofs.state.announced.since_of.Given as goal

abbrev pub invariant-loop-one : goal.invariant-loop-one
invariant-loop-one l = since_of l.set l.service (drop l.one-index l.list) ≡ since_of l.set l.service l.list
