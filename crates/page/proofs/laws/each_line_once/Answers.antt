use Rattle.page.proofs.Handing.{each_line_once}
use Rattle.page.proofs.laws.each_line_once.Goals as goal

pub returns : goal.returns
returns c = each_line_once
