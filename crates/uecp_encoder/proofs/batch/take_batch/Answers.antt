use Rattle.std.proofs.Common.{arith, rules, ◌≡◌, ℕ, ◌+◌, ◌-◌, ◌<◌, ◌≤◌, ◌∙◌, ◌++◌, length, List, take, drop, ap, sym}
use Rattle.std.proofs.Common.{subst}
use Rattle.std.proofs.Math.Seq.{take-add}
use Rattle.std.proofs.lemmas.List.{take_rest}
use Rattle.uecp_encoder.specs.State.{fed}
use Rattle.uecp_encoder.specs.Batches.{IsBatch}
use Rattle.uecp_encoder.proofs.InParts.{fed_none}
use Rattle.uecp_encoder.proofs.Beginnings.{fed_on_is}
use Rattle.uecp_encoder.proofs.Adding.{batch_none, not_full}
use Rattle.uecp_encoder.proofs.batch.take_batch.Goals as goal

pub loop-at-init : goal.loop-at-init
loop-at-init g c =
    let clear = c.clear.ensures in (
      omega arith,
      sym (fed_none g.T.Target.step c.args.encoder.now),
      batch_none c.args.listens g.T.Target.step c.args.encoder.now c.clear.new.self clear.replies clear.count
          clear.fresh clear.found clear.events,
      omega (arith, clear.found),
      λ k less. absurd (omega (arith, less)),
    )

pub loop-at-preserved : goal.loop-at-preserved
loop-at-preserved g c =
    let step = g.T.Target.step in
    let e = c.args.encoder.now in
    let piece = c.args.piece.now in
    let at = c.loop-at.at in
    let used = c.take_next-at.result in
    let (within, state, is, few, fewer) = c.loop-at.invariant in
    let next = c.take_next-at.ensures in
    let rest : List ℕ = take (length piece - at) (drop at piece) in
    let rest_is : rest ≡ drop at piece = take_rest piece at in
    let joined : take at piece ++ take used rest ≡ take (at + used) piece =
    ap (λ l. take at piece ++ take used l) rest_is ∙ sym (take-add at used piece) in
    let room : c.loop-at.batch.found < c.args.most = search rules in (
      search rules,
      next.state ∙ fed_on_is step e c.loop-at.encoder (take at piece) (take used rest) state ∙ ap (fed step e) joined,
      subst (λ s. IsBatch c.args.listens step e s c.take_next-at.new.batch) joined (next.batch e (take at piece) state
          is),
      omega (arith, next.more, room),
      not_full step e c.loop-at.encoder piece rest at used c.args.most state rest_is (omega (arith, is.found, room))
          fewer next.first,
    )
