use Rattle.std.proofs.Common.{◌∙◌}
use Rattle.page.specs.Seen.{is_of}
use Rattle.page.specs.StateView.{seen_of}
use Rattle.page.proofs.Among.{any_map}
use Rattle.page.proofs.state.seen.has_it.Goals as goal

pub returns : goal.returns
returns c = c.any_of.ensures ∙ any_map seen_of (is_of c.args.set c.args.service) c.args.list.now
