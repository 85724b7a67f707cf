use Rattle.std.proofs.Common.{◌∙◌}
use Rattle.page.specs.Seen.{is_same}
use Rattle.page.specs.StateView.{seen_of}
use Rattle.page.proofs.Among.{any_map}
use Rattle.page.proofs.state.seen.has_same.Goals as goal

pub returns : goal.returns
returns c = c.any_same.ensures ∙ any_map seen_of (is_same (seen_of c.args.seen.now)) c.args.list.now
