use Rattle.std.proofs.Common.{Some}
use Rattle.phrase_commands.proofs.making.make.Goals as goal

pub returns : goal.returns
returns g c =
    let ran = c.run_job.ensures in
    record {
      left = Some c.run_job.new.reader.now;
      most = ran.status;
      done = ran.done;
      refused = ran.refused;
      failed = ran.failed;
      some = λ e. (ran.undescribed e).0.1;
    }
