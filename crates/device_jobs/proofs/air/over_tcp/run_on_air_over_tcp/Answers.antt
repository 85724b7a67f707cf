use Rattle.std.proofs.Common.{inl}
use Rattle.device_jobs.proofs.AirStatuses.{not_aired}
use Rattle.device_jobs.proofs.air.over_tcp.run_on_air_over_tcp.Goals as goal

pub returns-in-Err-clause-status : goal.returns-in-Err-clause-status
returns-in-Err-clause-status g c = not_aired c.args.job.now _ _ c.in-Err.status c.in-Err.ensures

pub returns-in-Ok-edge_of-clause-airs : goal.returns-in-Ok-edge_of-clause-airs
returns-in-Ok-edge_of-clause-airs g c =
    inl (
      c.in-Ok-edge_of.edge,
      c.run_on_air_from.new.moments,
      c.log_of-log.result,
      c.run_on_air_from.new.log,
      (c.in-Ok.places, c.in-Ok.ensures.0, c.in-Ok-edge_of.ensures),
      c.log_of-log.ensures,
      rw c.in-Ok.ensures.2 at c.run_on_air_from.ensures.airs,
    )
