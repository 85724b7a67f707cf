use Rattle.std.proofs.Common.{◌∙◌, ap}
use Rattle.std.specs.Prelude.{slice_get}
use Rattle.uecp_link.specs.Server.{ServerState, frames_waiting}
use Rattle.uecp_link.specs.HeldMessages.{frames_among}
use Rattle.uecp_link.proofs.HeldFields.{frames_are, none_past}
use Rattle.uecp_link.proofs.server.Server.frame.Goals as goal

pub returns-clause-value : goal.returns-clause-value
returns-clause-value c =
    c.frame_at.ensures.value ∙ ap (λ hs. slice_get (frames_among hs) c.args.place) c.as_slice.ensures.value
    ∙ ap (λ fs. slice_get fs c.args.place) (frames_are c.self.inside.address c.self.inside.held.items
    c.self.invariant.spelled)
    ∙ ap (λ (s : ServerState). slice_get (frames_waiting s) c.args.place) c.self.view_is

pub returns-clause-none : goal.returns-clause-none
returns-clause-none c = none_past c.args.self.now c.args.place c.frame_at.result (returns-clause-value c)
