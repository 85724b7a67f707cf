use Rattle.std.proofs.Common.{◌<◌, ◌+◌, ◌-◌, flat_map, ap, ◌∙◌, arith}
use Rattle.std.proofs.lemmas.Grind.{flat_map-append}
use Rattle.rds_store.specs.Refusals.{count_up, set_numbers}
use Rattle.store_phrases.specs.Said.{set_said}
use Rattle.uecp_text.proofs.Public.{leads_on}
use Rattle.store_phrases.proofs.Walks.{count_up_from}
use Rattle.store_phrases.proofs.store.put_sets.Goals as goal

pub loop-set-preserved : goal.loop-set-preserved
loop-set-preserved g c =
    let kept = g.F.ElementForm.kept in
    let bytes = g.F.ElementForm.bytes c.args.form.now in
    let said = set_said c.args.store.now in
    let sets = c.args.store.now.sets in
    let set = c.loop-set.set in
    let within : set < sets + 1 = omega arith in
    let rest = flat_map said (count_up (sets + 1 - (set + 1)) (set + 1)) in
    leads_on (kept c.args.output.now) (kept c.loop-set.output) (kept c.put_set.new.output)
    (flat_map bytes (said set)) (flat_map bytes (flat_map said (count_up (sets + 1 - set) set)))
    (flat_map bytes rest) (flat_map bytes (flat_map said (set_numbers sets)))
    c.loop-set.invariant
    (ap (λ ks. flat_map bytes (flat_map said ks)) (count_up_from (sets + 1) set within)
    ∙ flat_map-append bytes (said set) rest) c.put_set.ensures
