use Rattle.std.proofs.Common.{refl, inr, ◌∙◌}
use Rattle.device_serving.proofs.AirOutliving.{after_run, run_status}
use Rattle.device_serving.proofs.air.run.run_on_air.Goals as goal

pub returns-in-Ok-clause-done : goal.returns-in-Ok-clause-done
returns-in-Ok-clause-done g c = λ is. (c.in-Ok.ensures.runs.0, c.in-Ok.ensures.runs.1, refl)

pub returns-in-Ok-clause-settled : goal.returns-in-Ok-clause-settled
returns-in-Ok-clause-settled g c = λ is.
    let k = g.K.Keep in
    let b = g.K.BatchLimits in
    let m = g.M.Moments in
    (after_run b.TOGETHER_MAX b.READ_MAX k.leaves k.is_clean k.saves k.fails m.waits m.closes m.sends
    g.M.Input.Read.remaining g.M.Output.Write.contents c.args.limits.turns c.args.limits.store _ _ _
    c.in-Ok.ensures.runs.1).settled
    refl

pub returns-in-Ok-clause-outlives : goal.returns-in-Ok-clause-outlives
returns-in-Ok-clause-outlives g c = λ settled clean kept leaves_it.
    let k = g.K.Keep in
    let b = g.K.BatchLimits in
    let m = g.M.Moments in (
      c.in-Ok.ensures.runs.0,
      (after_run b.TOGETHER_MAX b.READ_MAX k.leaves k.is_clean k.saves k.fails m.waits m.closes m.sends
          g.M.Input.Read.remaining g.M.Output.Write.contents c.args.limits.turns c.args.limits.store _ _ _
          c.in-Ok.ensures.runs.1).outlives settled clean kept leaves_it,
    )

pub returns-in-Ok-clause-clean : goal.returns-in-Ok-clause-clean
returns-in-Ok-clause-clean g c =
    let k = g.K.Keep in
    let b = g.K.BatchLimits in
    let m = g.M.Moments in
    (after_run b.TOGETHER_MAX b.READ_MAX k.leaves k.is_clean k.saves k.fails m.waits m.closes m.sends
    g.M.Input.Read.remaining g.M.Output.Write.contents c.args.limits.turns c.args.limits.store _ _ _
    c.in-Ok.ensures.runs.1).clean

pub returns-in-Err-clause-status : goal.returns-in-Err-clause-status
returns-in-Err-clause-status g c =
    let k = g.K.Keep in
    let b = g.K.BatchLimits in
    let m = g.M.Moments in
    inr (c.fail_run.ensures.status ∙ run_status b.TOGETHER_MAX b.READ_MAX k.leaves k.is_clean k.saves k.fails m.waits
    m.closes m.sends g.M.Input.Read.remaining g.M.Output.Write.contents c.args.limits.turns c.args.limits.store _ _
    c.in-Err.stop
    c.in-Err.ensures.runs.1)

pub returns-in-Err-clause-failed : goal.returns-in-Err-clause-failed
returns-in-Err-clause-failed g c = λ is.
    (c.in-Err.stop, c.in-Err.ensures.runs.0, c.in-Err.ensures.runs.1, c.fail_run.ensures.said)

pub returns-in-Err-clause-outlives : goal.returns-in-Err-clause-outlives
returns-in-Err-clause-outlives g c = λ settled clean kept leaves_it.
    let k = g.K.Keep in
    let b = g.K.BatchLimits in
    let m = g.M.Moments in (
      c.in-Err.ensures.runs.0,
      (after_run b.TOGETHER_MAX b.READ_MAX k.leaves k.is_clean k.saves k.fails m.waits m.closes m.sends
          g.M.Input.Read.remaining g.M.Output.Write.contents c.args.limits.turns c.args.limits.store _ _ _
          c.in-Err.ensures.runs.1).outlives settled clean kept leaves_it,
    )

pub returns-in-Err-clause-clean : goal.returns-in-Err-clause-clean
returns-in-Err-clause-clean g c =
    let k = g.K.Keep in
    let b = g.K.BatchLimits in
    let m = g.M.Moments in
    (after_run b.TOGETHER_MAX b.READ_MAX k.leaves k.is_clean k.saves k.fails m.waits m.closes m.sends
    g.M.Input.Read.remaining g.M.Output.Write.contents c.args.limits.turns c.args.limits.store _ _ _
    c.in-Err.ensures.runs.1).clean
