use Rattle.std.proofs.Common.{arith, rules, ◌≡◌, ◌∙◌, ◌<◌, ◌++◌, true, false, length, take, ap, sym, subst, Some, None}
use Rattle.std.proofs.lemmas.List.{length-take-le}
use Rattle.uecp_frame.specs.Beyond.{found_beyond}
use Rattle.uecp_encoder.specs.Outcomes.{said_of}
use Rattle.uecp_encoder.specs.Batches.{TellsOf, IsBatch}
use Rattle.uecp_encoder.proofs.Adding.{batch_same, batch_more, batch_untold, said_one}
use Rattle.uecp_encoder.proofs.batch.take_next.Goals as goal

pub returns-in-Some-clause-batch : goal.returns-in-Some-clause-batch
returns-in-Some-clause-batch g c =
    let step = g.T.Target.step in
    let e = c.args.encoder.now in
    let piece = c.args.piece.now in
    let used = c.hear_event-used.result.used in
    let add = c.add.ensures in
    let listens : c.args.listens ≡ true = search rules in
    let told : TellsOf step e (found_beyond e.part (take used piece)) (Some c.in-Some.event) = search rules in
    let some : 0 < length (take used piece) = omega (
      arith,
      length-take-le used piece c.hear_event-used.ensures.fits,
      c.hear_event-used.ensures.moves c.requires.some,
    ) in
    λ start bytes state is.
    subst (λ b. IsBatch b step start (bytes ++ take used piece) c.add.new.self) (sym listens)
    (batch_more step start e bytes (take used piece) state c.args.batch.now c.add.new.self c.in-Some.event told some
    add.replies add.count add.fresh add.events add.found add.short add.few
    (subst (λ b. IsBatch b step start bytes c.args.batch.now) listens is))

pub returns-in_default-clause-batch : goal.returns-in_default-clause-batch
returns-in_default-clause-batch g c =
    let step = g.T.Target.step in
    let e = c.args.encoder.now in
    let piece = c.args.piece.now in
    let used = c.hear_event-used.result.used in
    let listens : c.args.listens ≡ true = search rules in
    let told : TellsOf step e (found_beyond e.part (take used piece)) None = search rules in
    λ start bytes state is.
    subst (λ b. IsBatch b step start (bytes ++ take used piece) c.args.batch.now) (sym listens)
    (batch_same step start e bytes (take used piece) state c.args.batch.now told
    (subst (λ b. IsBatch b step start bytes c.args.batch.now) listens is))

pub returns-else-listens-clause-batch : goal.returns-else-listens-clause-batch
returns-else-listens-clause-batch g c =
    let step = g.T.Target.step in
    let e = c.args.encoder.now in
    let piece = c.args.piece.now in
    let heard = c.hear-heard in
    let used = heard.result.used in
    let add = c.add_untold.ensures in
    let address = c.address-address.result in
    let rs = said_of address heard.result.outcome in
    let listens : c.args.listens ≡ false = search rules in
    let some : 0 < length (take used piece) =
    omega (arith, length-take-le used piece heard.ensures.fits, heard.ensures.moves c.requires.some) in
    let one = said_one address heard.result.outcome in
    λ start bytes state is.
    subst (λ b. IsBatch b step start (bytes ++ take used piece) c.add_untold.new.self) (sym listens)
    (batch_untold step start e bytes (take used piece) state c.args.batch.now c.add_untold.new.self rs
    (heard.ensures.says ∙ ap (λ a. said_of a heard.result.outcome) (sym c.address-address.ensures)) one some
    add.replies add.count add.fresh add.found (ap (λ a. a.items) add.events) add.short add.few
    (subst (λ b. IsBatch b step start bytes c.args.batch.now) listens is))
