use Rattle.std.proofs.Common.{◌<◌, length, rules}
use Rattle.page.specs.Texts.{sample}
use Rattle.page.specs.StateView.{line_of}
use Rattle.page.proofs.Growing.{grown}
use Rattle.page.proofs.state.metrics.put_samples.Goals as goal

pub loop-line-preserved : goal.loop-line-preserved
loop-line-preserved c =
    let within : c.loop-line.line-index < length c.args.lines.now = search rules in
    grown line_of (sample c.args.name.now c.args.more.now c.args.metric) c.loop-line.line-index c.args.lines.now
    c.line-item.result c.loop-line.text.items c.put_sample.new.text.items _ within c.line-item.is
    c.loop-line.invariant c.in_ok-put_sample.ensures
