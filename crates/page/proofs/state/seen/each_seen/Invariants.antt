-- What is told so far is that of the services so far.
use Rattle.std.proofs.Common.{◌≡◌, take, map}
use Rattle.page.specs.Seen.{seen}
use Rattle.page.specs.StateView.{service_of, seen_of}
use Rattle.page.proofs.state.seen.each_seen.Given as goal

abbrev pub invariant-loop-row : goal.invariant-loop-row
invariant-loop-row l = map seen_of l.list.items ≡ map (λ r. seen (service_of r)) (take l.row-index l.rows)
