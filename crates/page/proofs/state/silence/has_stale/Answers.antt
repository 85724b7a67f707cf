use Rattle.std.proofs.Common.{◌∙◌, ap}
use Rattle.std.specs.List.{list_any}
use Rattle.page.specs.Silence.{is_stale}
use Rattle.page.specs.StateView.{line_of}
use Rattle.page.proofs.Among.{any_map}
use Rattle.page.proofs.state.silence.has_stale.Goals as goal

pub returns : goal.returns
returns c =
    c.any_stale.ensures ∙ any_map line_of (is_stale c.args.moment) c.lines.result.now
    ∙ ap (list_any (is_stale c.args.moment)) c.lines.ensures
