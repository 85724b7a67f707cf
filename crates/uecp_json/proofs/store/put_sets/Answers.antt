use Rattle.std.proofs.Common.{◌≡◌, ℕ, ◌<◌, ◌+◌, ◌-◌, ◌∷◌, suc, flat_map, ap, arith}
use Rattle.rds_store.specs.Refusals.{count_up, set_numbers}
use Rattle.uecp_json.specs.Stores.{set_lines}
use Rattle.uecp_text.proofs.Public.{leads_on}
use Rattle.uecp_json.proofs.store.put_sets.Goals as goal

-- Numbers that are counted up to a stop begin with the first of them.
count_up_from : (stop first : ℕ) → first < stop → count_up (stop - first) first ≡ first
    ∷ count_up (stop - (first + 1)) (first + 1)
count_up_from stop first below = ap (λ n. count_up n first)
    (let one_more : stop - first ≡ suc (stop - (first + 1)) = omega arith in one_more)

pub loop-set-preserved : goal.loop-set-preserved
loop-set-preserved c =
    let lines = set_lines c.args.store.now in
    let sets = c.args.store.now.sets in
    let set = c.loop-set.set in
    let within : set < sets + 1 = omega arith in
    leads_on c.args.output.now c.loop-set.output c.put_set.new.output
    (lines set) (flat_map lines (count_up (sets + 1 - set) set))
    (flat_map lines (count_up (sets + 1 - (set + 1)) (set + 1))) (flat_map lines (set_numbers sets))
    c.loop-set.invariant (ap (flat_map lines) (count_up_from (sets + 1) set within)) c.put_set.ensures
