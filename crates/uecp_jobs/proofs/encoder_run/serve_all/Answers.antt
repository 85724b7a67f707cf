use Rattle.std.proofs.Common.{rules, ◌≡◌, Err, refl, sym, ap, subst, inl, inr}
use Rattle.uecp_jobs.specs.Setups.{RefusesSetup}
use Rattle.uecp_jobs.specs.Jobs.{options, RefusesJob}
use Rattle.uecp_text.specs.Faults.{Fails}
use Rattle.uecp_jobs.specs.EncoderRun.{ServedAll, ServedFewer, ServedSome, Serves}
use Rattle.uecp_jobs.proofs.EncoderRun.{served_none, ServedBy, FewerBy, SomeBy, served_by, fewer_by, some_by}
use Rattle.uecp_jobs.proofs.Doing.{stopped}
use Rattle.uecp_jobs.proofs.encoder_run.serve_all.Goals as goal

pub returns-in_err-encoder-in-Encoder : goal.returns-in_err-encoder-in-Encoder
returns-in_err-encoder-in-Encoder g c =
    let opens = g.C.Connections.opens in
    let closes = g.C.Connections.closes in
    let left = g.C.Input.Read.remaining in
    let sent = g.C.Output.Write.contents in
    let held = g.W.Write.contents in
    let fault = c.in_err-encoder-in-Encoder.field-0.0 in
    let same : c.from_residual.result ≡ Err fault = search rules in
    elim c.in_err-encoder-in-Encoder.ensures.refused [
      | inl wanting ↦
          inr (subst (λ result. Serves opens closes left sent c.args.job.now c.args.connect.now c.args.connect.now
          (held c.args.writer.now) (held c.args.writer.now) result) (sym same)
          (inr (
            subst Fails (sym wanting) tt,
            served_none opens closes left sent c.args.job.now c.requires
                c.args.connect.now c.args.connect.now (held c.args.writer.now) (held c.args.writer.now) refl refl,
          )))
      | inr refused ↦
          inl (
            fault,
            same,
            subst (λ job. RefusesJob job fault) (sym c.in-Encoder.is)
                (subst (λ services. RefusesSetup (options c.in-Encoder.site c.in-Encoder.encoder c.in-Encoder.sets
                services) fault) c.as_slice.ensures.value refused),
            refl,
            refl,
          )
    ]

pub returns-in-Ok : goal.returns-in-Ok
returns-in-Ok g c =
    let opens = g.C.Connections.opens in
    let closes = g.C.Connections.closes in
    let left = g.C.Input.Read.remaining in
    let sent = g.C.Output.Write.contents in
    let held = g.W.Write.contents in
    let i = c.in-Encoder in
    let setup = options i.site i.encoder i.sets c.as_slice.result.now in
    let is_setup : setup ≡ options i.site i.encoder i.sets i.services.items =
    ap (options i.site i.encoder i.sets) c.as_slice.ensures.value in
    let e = c.in_ok-encoder-in-Encoder in
    let now = c.serve_connections.new in
    inr (subst (λ job. ServedAll opens closes left sent job c.args.connect.now now.connect (held c.args.writer.now)
    (held now.writer)) (sym i.is)
    (subst (ServedBy opens closes left sent i.connections i.turns c.args.connect.now now.connect
    (held c.args.writer.now) (held now.writer)) is_setup
    (served_by opens closes left sent i.connections i.turns c.args.connect.now now.connect (held c.args.writer.now)
    (held now.writer) setup e.encoder now.encoder
    e.ensures.described e.ensures.made c.in-Ok.ensures.served)))

pub returns-in-Encoder : goal.returns-in-Encoder
returns-in-Encoder g c =
    let opens = g.C.Connections.opens in
    let closes = g.C.Connections.closes in
    let left = g.C.Input.Read.remaining in
    let sent = g.C.Output.Write.contents in
    let held = g.W.Write.contents in
    let i = c.in-Encoder in
    let setup = options i.site i.encoder i.sets c.as_slice.result.now in
    let is_setup : setup ≡ options i.site i.encoder i.sets i.services.items =
    ap (options i.site i.encoder i.sets) c.as_slice.ensures.value in
    let e = c.in_ok-encoder-in-Encoder in
    let now = c.serve_connections.new in
    inr (elim c.in-Err.ensures.faults [
      | inl is ↦ inl (
        is,
        subst (λ job. ServedFewer opens closes left sent job c.args.connect.now now.connect (held c.args.writer.now)
            (held now.writer)) (sym i.is)
            (subst (FewerBy opens closes left sent i.connections i.turns c.args.connect.now now.connect
            (held c.args.writer.now) (held now.writer)) is_setup
            (fewer_by opens closes left sent i.connections i.turns c.args.connect.now now.connect
            (held c.args.writer.now) (held now.writer) setup e.encoder now.encoder
            e.ensures.described e.ensures.made (c.in-Err.ensures.refused (ap stopped is)))),
      )
      | inr (other, fails) ↦ inr (
        fails,
        subst (λ job. ServedSome opens closes left sent job c.args.connect.now now.connect (held c.args.writer.now)
            (held now.writer)) (sym i.is)
            (subst (SomeBy opens closes left sent i.connections i.turns c.args.connect.now now.connect
            (held c.args.writer.now) (held now.writer)) is_setup
            (some_by opens closes left sent i.connections i.turns c.args.connect.now now.connect
            (held c.args.writer.now) (held now.writer) setup e.encoder now.encoder
            e.ensures.described e.ensures.made (c.in-Err.ensures.broken other))),
      )
    ])
