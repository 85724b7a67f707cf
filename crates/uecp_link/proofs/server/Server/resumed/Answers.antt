use Rattle.std.proofs.Common.{◌≡◌, ◌-◌, ◌+◌, true, length, ap, ◌∙◌, rules, arith}
use Rattle.uecp_link.specs.Resuming.{can_hold, numbered_from, held_up_to}
use Rattle.uecp_link.specs.HeldMessages.{held_in}
use Rattle.uecp_link.proofs.Resumed.{can_parts, holds_from}
use Rattle.uecp_link.proofs.server.Server.resumed.Goals as goal

pub invariant_of-result : goal.invariant_of-result
invariant_of-result c =
    let yes : can_hold c.args.last c.args.kept.now ≡ true = search rules in
    let can = can_parts c.args.last c.args.kept.now yes in
    let first : c.from.result + c.from-2.result - length c.args.kept.now ≡ c.args.last + 255 - length c.args.kept.now =
    omega arith in
    let held : held_in c.held_from.result.items ≡ held_up_to c.args.last c.args.kept.now =
    c.held_from.ensures.held ∙ ap (λ n. numbered_from n c.args.kept.now) first in
    holds_from c.args.address c.args.last c.held_from.result.items c.args.kept.now c.ranges.last.fits can.few can.waits
    can.begun held c.held_from.ensures.spelled
