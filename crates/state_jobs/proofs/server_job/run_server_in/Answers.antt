use Rattle.std.proofs.Common.{rules, refl, inl, inr}
use Rattle.uecp_text.specs.declared.run_fault.RunFault.TheVariants.{Address}
use Rattle.state_jobs.proofs.server_job.run_server_in.Goals as goal

pub returns-in_default-clause-undescribed : goal.returns-in_default-clause-undescribed
returns-in_default-clause-undescribed g c = λ is. (
  (
    Address,
    (refl, c.in_default.ensures.none),
    c.fail.ensures.said,
  ),
  refl,
  refl,
  refl,
)

pub returns-clause-sent : goal.returns-clause-sent
returns-clause-sent g c =
    elim c.send_in.ensures.sent [
      | inl sent ↦ inr (inl (sent.0, sent.1, sent.2, sent.3, search rules, sent.5, sent.6))
      | inr lost ↦ inr (inr lost)
    ]
