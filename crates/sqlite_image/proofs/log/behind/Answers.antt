use Rattle.std.proofs.Common.{arith, ◌≤◌, ◌+◌}
use Rattle.sqlite_image.proofs.LogLemmas.{place_next, frame_far}
use Rattle.sqlite_image.proofs.log.behind.Goals as goal

pub overflow_add-result : goal.overflow_add-result
overflow_add-result c =
    let far = frame_far c.args.size c.args.place.number in
    let low : c.args.place.number + 32 ≤ c.args.place.at = omega (arith, c.requires.place.at_is) in
    omega arith

pub returns-clause-place : goal.returns-clause-place
returns-clause-place c =
    place_next c.args.size c.args.log.now c.args.place c.sum_at.result c.requires.place c.requires.there
    c.sum_at.ensures
