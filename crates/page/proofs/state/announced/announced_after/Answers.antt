use Rattle.std.proofs.Common.{◌<◌, length, rules}
use Rattle.page.specs.Announced.{announcing}
use Rattle.page.specs.StateView.{seen_of}
use Rattle.page.proofs.Growing.{grown}
use Rattle.page.proofs.state.announced.announced_after.Goals as goal

pub loop-one-preserved : goal.loop-one-preserved
loop-one-preserved c =
    let within : c.loop-one.one-index < length c.args.behind.now = search rules in
    grown seen_of (announcing c.args.came c.args.before.now) c.loop-one.one-index c.args.behind.now c.one-item.result
    c.loop-one.list.items c.put_announcement.new.list.items _ within c.one-item.is c.loop-one.invariant
    c.in_ok-put_announcement.ensures
