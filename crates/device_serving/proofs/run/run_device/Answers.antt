use Rattle.std.proofs.Common.{refl, inr, ◌∙◌}
use Rattle.device_serving.proofs.Outliving.{after_run, run_status}
use Rattle.device_serving.proofs.Endings.{run_loan}
use Rattle.device_serving.proofs.run.run_device.Goals as goal

pub returns-in-Ok-clause-settled : goal.returns-in-Ok-clause-settled
returns-in-Ok-clause-settled g c = λ is.
    let k = g.K.Keep in
    let m = g.K.BatchLimits in
    (after_run m.TOGETHER_MAX m.READ_MAX k.leaves k.is_clean k.saves k.fails g.C.Connections.opens
    g.C.Connections.closes g.C.Input.Read.remaining g.C.Output.Write.contents c.args.limits.turns
    c.args.limits.connections
    c.args.limits.store _ _ _ c.in-Ok.ensures.runs).settled refl

pub returns-in-Ok-clause-outlives : goal.returns-in-Ok-clause-outlives
returns-in-Ok-clause-outlives g c =
    let k = g.K.Keep in
    let m = g.K.BatchLimits in
    (after_run m.TOGETHER_MAX m.READ_MAX k.leaves k.is_clean k.saves k.fails g.C.Connections.opens
    g.C.Connections.closes g.C.Input.Read.remaining g.C.Output.Write.contents c.args.limits.turns
    c.args.limits.connections
    c.args.limits.store _ _ _ c.in-Ok.ensures.runs).outlives

pub returns-in-Ok-clause-clean : goal.returns-in-Ok-clause-clean
returns-in-Ok-clause-clean g c =
    let k = g.K.Keep in
    let m = g.K.BatchLimits in
    (after_run m.TOGETHER_MAX m.READ_MAX k.leaves k.is_clean k.saves k.fails g.C.Connections.opens
    g.C.Connections.closes g.C.Input.Read.remaining g.C.Output.Write.contents c.args.limits.turns
    c.args.limits.connections
    c.args.limits.store _ _ _ c.in-Ok.ensures.runs).clean

pub returns-in-Err-clause-status : goal.returns-in-Err-clause-status
returns-in-Err-clause-status g c =
    let k = g.K.Keep in
    let m = g.K.BatchLimits in
    inr (c.fail_run.ensures.status ∙ run_status m.TOGETHER_MAX m.READ_MAX k.leaves k.is_clean k.saves k.fails
    g.C.Connections.opens g.C.Connections.closes g.C.Input.Read.remaining g.C.Output.Write.contents c.args.limits.turns
    c.args.limits.connections c.args.limits.store _
    _ c.in-Err.stop c.in-Err.ensures.runs)

pub returns-in-Err-clause-outlives : goal.returns-in-Err-clause-outlives
returns-in-Err-clause-outlives g c =
    let k = g.K.Keep in
    let m = g.K.BatchLimits in
    (after_run m.TOGETHER_MAX m.READ_MAX k.leaves k.is_clean k.saves k.fails g.C.Connections.opens
    g.C.Connections.closes g.C.Input.Read.remaining g.C.Output.Write.contents c.args.limits.turns
    c.args.limits.connections
    c.args.limits.store _ _ _ c.in-Err.ensures.runs).outlives

pub returns-in-Err-clause-clean : goal.returns-in-Err-clause-clean
returns-in-Err-clause-clean g c =
    let k = g.K.Keep in
    let m = g.K.BatchLimits in
    (after_run m.TOGETHER_MAX m.READ_MAX k.leaves k.is_clean k.saves k.fails g.C.Connections.opens
    g.C.Connections.closes g.C.Input.Read.remaining g.C.Output.Write.contents c.args.limits.turns
    c.args.limits.connections
    c.args.limits.store _ _ _ c.in-Err.ensures.runs).clean

pub returns-in-Ok-clause-loan : goal.returns-in-Ok-clause-loan
returns-in-Ok-clause-loan g c =
    let k = g.K.Keep in
    let m = g.K.BatchLimits in
    run_loan m.TOGETHER_MAX m.READ_MAX k.leaves k.is_clean k.saves k.fails g.C.Connections.opens
    g.C.Connections.closes g.C.Input.Read.remaining g.C.Output.Write.contents c.args.limits.turns
    c.args.limits.connections
    c.args.limits.store _ _ _ c.in-Ok.ensures.runs

pub returns-in-Err-clause-loan : goal.returns-in-Err-clause-loan
returns-in-Err-clause-loan g c =
    let k = g.K.Keep in
    let m = g.K.BatchLimits in
    run_loan m.TOGETHER_MAX m.READ_MAX k.leaves k.is_clean k.saves k.fails g.C.Connections.opens
    g.C.Connections.closes g.C.Input.Read.remaining g.C.Output.Write.contents c.args.limits.turns
    c.args.limits.connections
    c.args.limits.store _ _ _ c.in-Err.ensures.runs
