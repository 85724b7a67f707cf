use Rattle.std.proofs.Common.{[], ◌∷◌, ◌++◌, sym, ap, ◌∙◌}
use Rattle.uecp_link.specs.Resuming.{held_of}
use Rattle.sending.proofs.Marking.{mark_on}
use Rattle.sending.proofs.turn.marks_of.Goals as goal

pub loop-place-preserved : goal.loop-place-preserved
loop-place-preserved c = c.push.ensures.items
    ∙ ap (λ marks. marks ++ c.in-Some.held.marked ∷ []) c.loop-place.invariant
    ∙ sym (mark_on c.args.server.now.held c.loop-place.place (held_of c.in-Some.held) (sym c.in-Some.ensures.value))
