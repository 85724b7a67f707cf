use Rattle.rds_groups.proofs.Finding.{given_here, nothing_here}
use Rattle.rds_groups.proofs.synchroniser.Synchroniser.take.Goals as goal

pub returns-then-is_end : goal.returns-then-is_end
returns-then-is_end c =
    given_here c.args.bit c.args.self.now c.go_on.new.self c.shifted-self.result c.counted-self.result
    c.of_blocks-heard.result c.is_end.result c.shifted-self.ensures.value c.counted-self.ensures
    c.of_blocks-heard.ensures c.is_end.ensures
    c.if-is_end.true c.go_on.ensures

pub returns-else-is_end : goal.returns-else-is_end
returns-else-is_end c =
    nothing_here c.args.bit c.args.self.now c.shifted-self.result c.counted-self.result c.of_blocks-heard.result
    c.is_end.result c.shifted-self.ensures.value c.counted-self.ensures c.of_blocks-heard.ensures c.is_end.ensures
    c.if-is_end.false
