use Rattle.std.proofs.Common.{rules, arith, ◌≡◌, ◌≤◌, refl, inl, inr}
use Rattle.std.specs.Prelude.{None, option_map}
use Rattle.std.specs.String.{string_bytes}
use Rattle.device_jobs.proofs.AirStatuses.{few_of, closed}
use Rattle.device_jobs.proofs.air.serving.run_on_air_from.Goals as goal

pub returns-in-Err : goal.returns-in-Err
returns-in-Err g c =
    record {
      status = omega (arith, c.fail.ensures.status, few_of c.in-Err.fault);
      airs = inr (
        (
          c.in-Err.fault,
          rw c.as_slice.ensures.value at c.in-Err.ensures.refused,
          c.fail.ensures.status,
          c.fail.ensures.said,
        ),
        refl,
        refl,
      );
    }

pub returns-in-Some-clause-status : goal.returns-in-Some-clause-status
returns-in-Some-clause-status g c = elim c.air_in.ensures [
  | inl a ↦ let few : a.status ≤ 3 = elim a.runs.4 [
    | inl done ↦ omega (arith, done.0)
    | inr stopped ↦ omega (arith, stopped.1)
  ] in
      closed _ a.status a.closed c.air_in.result a.between _ few a.is_closed
  | inr none ↦ omega (arith, none.0.2)
]

pub returns : goal.returns
returns g c =
    let none : option_map string_bytes c.args.job.now.state ≡ None = search rules in
    let limits = c.limits_of-limits.ensures in
    record {
      status = elim c.air_unkept.ensures.3.4 [
        | inl done ↦ omega (arith, done.0)
        | inr stopped ↦ omega (arith, stopped.1)
      ];
      airs = inl (
        rw c.as_slice.ensures.value at c.in-Ok.ensures.described,
        rw none (rw (c.as_slice.ensures.value, limits.turns, limits.connections, limits.store)
            at c.air_unkept.ensures),
      );
    }
