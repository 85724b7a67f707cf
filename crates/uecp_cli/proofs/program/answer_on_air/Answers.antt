use Rattle.std.proofs.Common.{refl, ap}
use Rattle.air_jobs.specs.declared.air_job.AirJob.{AirJob}
use Rattle.uecp_cli.specs.Apart.{described}
use Rattle.uecp_cli.proofs.program.answer_on_air.Goals as goal

pub returns : goal.returns
returns g c =
    let o = c.args.options.now in
    let job : AirJob = record {
      setup = record { site = o.site; encoder = o.encoder; sets = o.sets; services = c.as_slice.result };
      store = o.store;
      form = o.form;
      groups = c.args.groups;
    } in
    record {
      job = job;
      is_of = record {
        setup_is = ap (λ services. described o.site o.encoder o.sets services) c.as_slice.ensures.value;
        store_is = refl;
        form_is = refl;
        groups_are = refl;
      };
      done = λ zero. (c.run_answer_on_air.ensures.done zero).0;
      refused = c.run_answer_on_air.ensures.refused;
      undescribed = λ two.
          let said = c.run_answer_on_air.ensures.undescribed two in
          (said.0, ap g.R.Read.remaining said.1, ap g.W.Write.contents said.2);
      failed = c.run_answer_on_air.ensures.failed;
      most = c.run_answer_on_air.ensures.status;
    }
