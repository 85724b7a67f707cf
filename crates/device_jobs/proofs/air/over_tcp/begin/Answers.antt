use Rattle.std.proofs.Common.{subst, inl, inr}
use Rattle.uecp_text.specs.Faults.{error_lines}
use Rattle.notices.specs.Told.{Told, Says}
use Rattle.device_jobs.proofs.air.over_tcp.begin.Goals as goal

pub returns-in-Err : goal.returns-in-Err
returns-in-Err g c =
    inr (inr (inr (inl (
      c.in-Err.fault,
      rw c.as_slice.ensures.value at c.in-Err.ensures.refused,
      c.fail.ensures.status,
      subst (λ (e : Told). Says e c.fail.new.errors
          (error_lines c.in-Err.fault)) c.in_ok-places.ensures.1 c.fail.ensures.said,
    ))))
