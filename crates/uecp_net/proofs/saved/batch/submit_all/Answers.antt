use Rattle.std.proofs.Common.{arith, ◌<◌, length, take, ap, sym, ◌∙◌}
use Rattle.std.proofs.lemmas.List.{length-take-le}
use Rattle.uecp_net.specs.Sending.{submitted_to, submitted_all}
use Rattle.uecp_net.proofs.Submitting.{all_held, submitted_on}
use Rattle.uecp_net.proofs.saved.batch.submit_all.Goals as goal

pub submit-requires : goal.submit-requires
submit-requires g c =
    let at = c.loop-message.message-index in
    let within : at < length c.args.batch.now = omega (arith, c.loop-message-test.true) in
    let held = all_held c.args.sender.now (take at c.args.batch.now) in
    let count = length-take-le at c.args.batch.now (omega (arith, within)) in
    let same = ap (λ s. length s.sender.server.held) c.loop-message.invariant in
    omega (arith, held, count, same, within, c.requires.room)

pub loop-message-preserved : goal.loop-message-preserved
loop-message-preserved g c =
    let at = c.loop-message.message-index in
    let within : at < length c.args.batch.now = omega (arith, c.loop-message-test.true) in
    c.submit.ensures.submits ∙ ap (λ s. submitted_to s c.message-item.result) c.loop-message.invariant
    ∙ ap (submitted_to (submitted_all c.args.sender.now (take at c.args.batch.now))) c.message-item.is
    ∙ sym (submitted_on c.args.sender.now c.args.batch.now at c.message-item.result within)
