use Rattle.std.proofs.Common.{◌<◌, length, rules}
use Rattle.page.specs.Texts.{stale_text}
use Rattle.page.specs.StateView.{line_of}
use Rattle.page.proofs.Growing.{grown}
use Rattle.page.proofs.state.silence.put_each.Goals as goal

pub loop-line-preserved : goal.loop-line-preserved
loop-line-preserved c =
    let within : c.loop-line.line-index < length c.args.lines.now = search rules in
    grown line_of (stale_text c.args.moment) c.loop-line.line-index c.args.lines.now c.line-item.result
    c.loop-line.text.items c.put_one.new.text.items _ within c.line-item.is c.loop-line.invariant
    c.in_ok-put_one.ensures
