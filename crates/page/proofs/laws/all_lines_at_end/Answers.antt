use Rattle.page.proofs.Handing.{all_lines_at_end}
use Rattle.page.proofs.laws.all_lines_at_end.Goals as goal

pub returns : goal.returns
returns c = all_lines_at_end
