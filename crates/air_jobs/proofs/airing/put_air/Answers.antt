use Rattle.std.proofs.Common.{◌≡◌, ℕ, ◌+◌, ◌-◌, ◌≤◌, arith, ap, sym, ◌∙◌, if◌then◌else◌}
use Rattle.uecp_text.proofs.Public.{leads_on}
use Rattle.carousel.specs.Carousel.{switched_on}
use Rattle.carousel.specs.Next.{behind}
use Rattle.air_jobs.specs.Airing.{air_line, air_lines}
use Rattle.air_jobs.proofs.AirLines.{lines_on}
use Rattle.air_jobs.proofs.airing.put_air.Goals as goal
use Rattle.air_jobs.proofs.airing.put_air.Goals.{then-next, else-next}

pub loop-group-preserved : goal.loop-group-preserved
loop-group-preserved c =
    let v = c.args.store.now in
    let form = c.args.form in
    let at = c.loop-group in
    let next = c.next_group_behind-next in
    let taken : ℕ = at.taken in
    let taken' : ℕ = c.if-next.taken in
    let counted : taken' ≡ (if next.result.is_queued then taken + 1 else taken) = elim c.if-next.branch [
      | then-next w ↦ w.taken-is ∙ ap (λ q. if q then taken + 1 else taken) (sym w.if-next.true)
      | else-next w ↦ w.taken-is ∙ ap (λ q. if q then taken + 1 else taken) (sym w.if-next.false)
    ] in
    let few : taken' ≤ at._group + 1 = elim c.if-next.branch [
      | then-next w ↦ omega (arith, w.taken-is, at.invariant.few)
      | else-next w ↦ omega (arith, w.taken-is, at.invariant.few)
    ] in
    record {
      lines = leads_on c.args.output.now at.output c.put_group.new.output (air_line form next.result.group)
          (air_lines form (c.args.groups - at._group) (behind taken v) at.carousel)
          (air_lines form (c.args.groups - (at._group + 1)) (behind taken' v) next.new.self)
          (air_lines form c.args.groups v switched_on) at.invariant.lines
          (lines_on form c.args.groups at._group taken taken' v at.carousel next.new.self next.result.group
          c.loop-group-test.true
          next.ensures.group next.ensures.after
          (counted ∙ ap (λ q. if q then taken + 1 else taken) next.ensures.queued))
          c.put_group.ensures;
      few = few;
    }
