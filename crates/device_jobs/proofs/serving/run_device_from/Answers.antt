use Rattle.std.proofs.Common.{rules, ◌≡◌, refl, inl, inr}
use Rattle.std.specs.Prelude.{None, option_map}
use Rattle.std.specs.String.{string_bytes}
use Rattle.device_jobs.proofs.serving.run_device_from.Goals as goal

pub returns-in-Err-clause-serves : goal.returns-in-Err-clause-serves
returns-in-Err-clause-serves g c =
    inr (
      (
        c.in-Err.fault,
        rw c.as_slice.ensures.value at c.in-Err.ensures.refused,
        c.fail.ensures.status,
        c.fail.ensures.said,
      ),
      refl,
      refl,
    )

pub returns-clause-serves : goal.returns-clause-serves
returns-clause-serves g c =
    let none : option_map string_bytes c.args.job.now.state ≡ None = search rules in
    let limits = c.limits_of-limits.ensures in
    inl (
      rw c.as_slice.ensures.value at c.in-Ok.ensures.described,
      rw none (rw (
        c.as_slice.ensures.value,
        limits.turns,
        limits.connections,
        limits.store,
      ) at c.serve_unkept.ensures.serves),
    )
