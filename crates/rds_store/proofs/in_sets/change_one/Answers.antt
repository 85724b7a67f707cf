use Rattle.std.proofs.Common.{sym, ap, ◌∙◌, slice_set, arith}
use Rattle.uecp_elements.specs.View.{element_of}
use Rattle.rds_store.specs.Content.{taken}
use Rattle.rds_store.proofs.OneSet.{changed_none, changed_past, changed_one, full_one}
use Rattle.rds_store.proofs.in_sets.change_one.Goals as goal

pub returns-then-set-eq0 : goal.returns-then-set-eq0
returns-then-set-eq0 c =
    sym (changed_none c.args.set (taken (element_of c.args.element.now)) 1 c.args.sets.now (omega arith))

pub take-requires-clause-room : goal.take-requires-clause-room
take-requires-clause-room c = λ adding.
    sym (full_one c.args.set c.from-place.result c.args.sets.now c.index-sets-place.result (omega arith)
    c.if-place-sets.true) ∙ c.requires.room adding

pub returns-then-place-sets : goal.returns-then-place-sets
returns-then-place-sets c =
    ap (slice_set c.args.sets.now c.from-place.result) c.take.ensures
    ∙ changed_one c.args.set (taken (element_of c.args.element.now)) 1 c.from-place.result c.args.sets.now
    c.index-sets-place.result (omega arith) c.if-place-sets.true

pub returns-else-place-sets : goal.returns-else-place-sets
returns-else-place-sets c =
    sym (changed_past c.args.set (taken (element_of c.args.element.now)) 1 c.args.sets.now (omega arith))
