use Rattle.std.proofs.Common.{inl, inr, refl}
use Rattle.std.specs.String.{string_bytes}
use Rattle.uecp_cli.proofs.Causes.{cause, no_cause}
use Rattle.uecp_cli.proofs.program.send_input.Goals as goal
use Rattle.uecp_cli.proofs.program.send_input.Goals.{else-status-eq3-via-then-status-eq3+else-options}
use Rattle.uecp_cli.proofs.program.send_input.Goals.{else-status-eq3-via-else-status-eq3}

pub returns-then-options-clause-dialled : goal.returns-then-options-clause-dialled
returns-then-options-clause-dialled g c =
    let o = c.args.options.now in (
      c.dialing_of-dialing.result,
      c.send_over-status.new.connect,
      c.send_over-status.new.errors,
      rw c.requires at c.dialing_of-dialing.ensures,
      c.send_over-status.ensures.over,
      (
        (λ three. cause o.verbose (string_bytes o.host) c.as_str.result.now o.port
            c.send_over-status.new.connect.failed c.failed.result c.send_over-status.new.errors
            c.say_unreached.new.errors c.if-options.true c.as_str.ensures.value c.failed.ensures
            c.say_unreached.ensures.said),
        inl c.if-status-eq3.true,
      ),
    )

pub returns-else-status-eq3-clause-dialled : goal.returns-else-status-eq3-clause-dialled
returns-else-status-eq3-clause-dialled g c =
    let o = c.args.options.now in (
      c.dialing_of-dialing.result,
      c.send_over-status.new.connect,
      c.send_over-status.new.errors,
      rw c.requires at c.dialing_of-dialing.ensures,
      c.send_over-status.ensures.over,
      elim c.else-status-eq3.branch [
        | else-status-eq3-via-then-status-eq3+else-options w ↦ (
          (λ three. no_cause o.verbose (string_bytes o.host) o.port c.send_over-status.new.connect.failed
              c.send_over-status.new.errors w.if-options.false),
          inr refl,
        )
        | else-status-eq3-via-else-status-eq3 w ↦ ((λ three. absurd (w.if-status-eq3.false three)), inr refl)
      ],
    )
