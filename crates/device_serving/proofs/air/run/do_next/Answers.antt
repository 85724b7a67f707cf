use Rattle.std.proofs.Common.{rules}
use Rattle.std.specs.Option.{is_some}
use Rattle.device_serving.specs.declared.air.moments.Moment.TheVariants.{Due}
use Rattle.device_serving.proofs.air.run.do_next.Goals as goal

pub returns-in-Due : goal.returns-in-Due
returns-in-Due g c =
    let waited : g.M.Moments.waits c.args.moments.now (is_some c.args.line.now) Due c.wait.new.self = search rules in
    record {
      next = (
        Due,
        c.wait.new.self,
        waited,
        c.send_next.ensures.airs c.args.log.now c.args.line.now c.args.left.now,
      );
    }
