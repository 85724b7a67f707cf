use Rattle.std.proofs.Common.{rules, arith, ◌≡◌, ◌∙◌, subst}
use Rattle.conformance_command.specs.OverTcp.{asked_of}
use Rattle.conformance_command.specs.Place.{IsPlace}
use Rattle.std.specs.String.{string_bytes}
use Rattle.conformance_command.proofs.BuiltIn.{at_most_one, built_in}
use Rattle.conformance_command.proofs.over_tcp.run_conformance_over_tcp.Goals as goal
use Rattle.conformance_command.proofs.over_tcp.run_conformance_over_tcp.Goals.{then-status-eq3, else-status-eq3}

pub returns-clause-done : goal.returns-clause-done
returns-clause-done g c = λ low.
    let job = c.args.job.now in
    let host = c.in-Some.host.now in
    let port = c.in-Some.port in
    let done = c.run_conformance-status.ensures.done (at_most_one c.run_conformance-status.result low) in
    let place : IsPlace (string_bytes job.place) host port =
    subst (λ text. IsPlace text host port) c.as_str.ensures.value c.in-Some.ensures in
    let asked : c.new-dialled.result ≡ asked_of job host port = search rules in
    let same : c.if-status-eq3.errors ≡ c.args.errors.now =
    elim c.if-status-eq3.branch [
      | then-status-eq3 w ↦ absurd (omega (arith, low, w.if-status-eq3.true))
      | else-status-eq3 w ↦ w.errors-is ∙ done.2
    ] in (
      built_in _ _ _ _ job _ _ c.run_conformance-status.result c.in-Ok.cases.items c.as_slice.result.now host port
          c.new-dialled.result c.run_conformance-status.new.connect done.0.0 c.in-Ok.ensures.spelled place asked
          c.as_slice.ensures.value done.0.1 done.0.2,
      same,
    )
