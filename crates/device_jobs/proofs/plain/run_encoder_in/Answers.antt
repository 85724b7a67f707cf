use Rattle.std.proofs.Common.{rules, arith, ◌≡◌, ◌<◌, ◌^◌, refl, sym, ap, ◌∙◌, subst, inl, inr}
use Rattle.kept_jobs.specs.declared.stop.KeptStop.TheVariants.{Run}
use Rattle.device_jobs.specs.Kept.{HasServedKept, plain_log}
use Rattle.rds_store.specs.Value.{Store}
use Rattle.uecp_encoder.specs.State.{EncoderState}
use Rattle.device_serving.specs.Logging.{Log}
use Rattle.device_jobs.proofs.Kept.{has_served, says_why, plain_limits}
use Rattle.device_jobs.proofs.plain.run_encoder_in.Goals as goal

pub returns-in-Err-clause-serves : goal.returns-in-Err-clause-serves
returns-in-Err-clause-serves g c = (
  0,
  plain_log 0 (g.W.Write.contents c.args.writer.now),
  inr (
    (
      c.in-Err.fault,
      rw c.as_slice.ensures.value at c.in-Err.ensures.refused,
      c.fail.ensures.status,
      c.fail.ensures.said,
    ),
    refl,
    refl,
  ),
  refl,
)

pub returns-in-Err-clause-said : goal.returns-in-Err-clause-said
returns-in-Err-clause-said g c = λ is.
    inr (Run c.in-Err.fault, c.fail.new.errors, c.fail.ensures.said, inl refl)

pub returns-in-Ok-clause-serves : goal.returns-in-Ok-clause-serves
returns-in-Ok-clause-serves g c =
    let run = c.serve_in-status in
    let limits = c.limits_of-limits.ensures in
    let address = c.address-address.ensures ∙ ap (λ (e : EncoderState Store). e.address) c.in-Ok.ensures.made in
    let held = g.W.Write.contents c.args.writer.now in
    let given = ap (λ (l : Log). l.loan) c.new-log.ensures in
    let start : c.new-log.result ≡ plain_log c.new-log.result.loan held =
    c.new-log.ensures ∙ ap (λ loan. plain_log loan held) (sym given) in
    let back = c.writer-1.given.1 (sym given ∙ sym run.ensures.loan ∙ sym c.finish-writer.ensures.same) in (
      c.new-log.result.loan,
      run.new.log,
      inl (
        rw c.as_slice.ensures.value at c.in-Ok.ensures.described,
        rw c.requires.state (rw (
          c.as_slice.ensures.value,
          limits.turns,
          limits.connections,
          limits.store,
          start,
          address,
        ) at run.ensures.serves),
      ),
      sym c.finish-writer.ensures.held ∙ sym (ap g.W.Write.contents back),
    )

pub returns-in-Ok-clause-kept : goal.returns-in-Ok-clause-kept
returns-in-Ok-clause-kept g c = λ zero.
    let run = c.serve_in-status in
    let k = g.S.EncoderKeeper.Keep in
    let m = g.S.EncoderKeeper.BatchLimits in
    let held = g.W.Write.contents c.args.writer.now in
    let given = ap (λ (l : Log). l.loan) c.new-log.ensures in
    let start : c.new-log.result ≡ plain_log c.new-log.result.loan held =
    c.new-log.ensures ∙ ap (λ loan. plain_log loan held) (sym given) in
    let back = c.writer-1.given.1 (sym given ∙ sym run.ensures.loan ∙ sym c.finish-writer.ensures.same) in
    let now = sym c.finish-writer.ensures.held ∙ sym (ap g.W.Write.contents back) in
    let plain = plain_limits c.args.options.now c.requires.plain in
    let limits = c.limits_of-limits.ensures in
    let store = limits.store ∙ plain.1 in
    let connections = limits.connections ∙ plain.0 in
    let address = c.address-address.ensures ∙ ap (λ (e : EncoderState Store). e.address) c.in-Ok.ensures.made in
    let small : c.args.options.now.connections < 2 ^ 64 = search (rules, arith) in
    subst (λ after. HasServedKept (g.S.OpenStates.gives_encoder c.args.states.now) k.leaves k.is_clean
    c.args.path.now c.args.options.now held after) now
    (has_served (g.S.OpenStates.gives_encoder c.args.states.now)
    (g.S.OpenStates.refuses_encoder c.args.states.now) (g.S.OpenStates.closes_encoder c.args.states.now)
    m.TOGETHER_MAX m.READ_MAX k.leaves k.is_clean k.saves k.fails g.C.Connections.opens g.C.Connections.closes
    g.C.Input.Read.remaining g.C.Output.Write.contents _ c.args.options.now.connections c.args.path.now _ _ _ _ _
    c.new-log.result.loan held run.new.log _ _ run.result small zero
    (rw (c.as_slice.ensures.value, store, connections, start, address) at run.ensures.serves))

pub returns-in-Ok-clause-said : goal.returns-in-Ok-clause-said
returns-in-Ok-clause-said g c = λ three.
    let run = c.serve_in-status in
    let k = g.S.EncoderKeeper.Keep in
    let m = g.S.EncoderKeeper.BatchLimits in
    let plain = plain_limits c.args.options.now c.requires.plain in
    let limits = c.limits_of-limits.ensures in
    let store = limits.store ∙ plain.1 in
    says_why (g.S.OpenStates.gives_encoder c.args.states.now) (g.S.OpenStates.refuses_encoder c.args.states.now)
    (g.S.OpenStates.closes_encoder c.args.states.now) m.TOGETHER_MAX m.READ_MAX k.leaves k.is_clean k.saves k.fails
    g.C.Connections.opens g.C.Connections.closes g.C.Input.Read.remaining g.C.Output.Write.contents _ _
    c.args.path.now _ _ _ _ _ _ _ _ _ run.result three (rw store at run.ensures.serves)
