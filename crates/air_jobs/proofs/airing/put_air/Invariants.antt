use Rattle.std.proofs.Common.{◌-◌, ◌≤◌}
use Rattle.uecp_text.proofs.Public.{Leads}
use Rattle.carousel.specs.Carousel.{switched_on}
use Rattle.carousel.specs.Next.{behind}
use Rattle.air_jobs.specs.Airing.{air_lines}
use Rattle.air_jobs.proofs.airing.put_air.Given as goal

-- what is left leads to the same, from the store without the groups that were taken
abbrev pub invariant-loop-group : goal.invariant-loop-group
invariant-loop-group l = record {
  lines : Leads l.fn.output l.output
      (air_lines l.form (l.groups - l._group) (behind l.taken l.store) l.carousel)
      (air_lines l.form l.groups l.store switched_on);
  few : l.taken ≤ l._group;
}
