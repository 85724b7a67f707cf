use Rattle.std.proofs.Common.{refl, ap}
use Rattle.ladders.specs.declared.ladder_job.LadderJob.{LadderJob}
use Rattle.uecp_cli.specs.Apart.{described}
use Rattle.uecp_cli.proofs.program.draw.Goals as goal

pub returns : goal.returns
returns g c =
    let o = c.args.options.now in
    let job : LadderJob = record {
      setup = record { site = o.site; encoder = o.encoder; sets = o.sets; services = c.as_slice.result };
      form = c.args.form;
    } in
    record {
      job = job;
      is_of = record {
        setup_is = ap (λ services. described o.site o.encoder o.sets services) c.as_slice.ensures.value;
        form_is = refl;
      };
      done = λ zero. (c.run_ladder.ensures.done zero).0;
      refused = c.run_ladder.ensures.refused;
      undescribed = λ two.
          let said = c.run_ladder.ensures.undescribed two in
          (said.0, ap g.R.Read.remaining said.1, ap g.W.Write.contents said.2);
      failed = c.run_ladder.ensures.failed;
      most = c.run_ladder.ensures.status;
    }
