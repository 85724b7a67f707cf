use Rattle.device_edges.proofs.FirstBytes.{read_after}
use Rattle.device_edges.proofs.screen.Screened.go_on.Goals as goal

pub returns-clause-bytes : goal.returns-clause-bytes
returns-clause-bytes g c = read_after _ _ _ c.pass.result c.pass.new.buf c.judge.ensures.keeps c.pass.ensures.bytes
