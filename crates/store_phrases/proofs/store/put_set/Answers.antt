use Rattle.std.proofs.Common.{flat_map, drop, ap, sym, ◌∙◌}
use Rattle.store_phrases.specs.Said.{said_at, set_said}
use Rattle.uecp_text.proofs.Public.{leads_end}
use Rattle.store_phrases.proofs.Walks.{none_left}
use Rattle.store_phrases.proofs.store.put_set.Goals as goal

pub returns : goal.returns
returns g c =
    let kept = g.F.ElementForm.kept in
    let bytes = g.F.ElementForm.bytes c.args.form.now in
    let services = c.args.store.now.services in
    let said = said_at c.args.store.now c.args.set in
    leads_end (kept c.args.output.now) (kept c.loop-number.output)
    (flat_map bytes (flat_map said (drop c.loop-number.place services)))
    (flat_map bytes (set_said c.args.store.now c.args.set)) c.loop-number.invariant
    (ap (λ left. flat_map bytes (flat_map said left)) (none_left services c.loop-number.place
    (sym c.service_number.ensures.value ∙ c.in_default.is)))
