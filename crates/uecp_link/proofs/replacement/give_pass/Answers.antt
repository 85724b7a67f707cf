use Rattle.std.proofs.Common.{◌≡◌, ℕ, ◌+◌, List, [], ◌++◌, take, Some, ◌∙◌, ap, sym, arith, rules}
use Rattle.std.specs.Prelude.{slice_get}
use Rattle.std.specs.List.{concat}
use Rattle.uecp_frame.specs.Frame.{spelling}
use Rattle.uecp_encoder.specs.State.{EncoderState, fed}
use Rattle.uecp_encoder.proofs.Public.{in_pieces_of_encoder}
use Rattle.uecp_link.specs.Frames.{frame_under}
use Rattle.uecp_link.specs.Joining.{frames_behind}
use Rattle.uecp_link.proofs.FeedingLemmas.{fed_none}
use Rattle.uecp_link.proofs.Windowing.{frames_more}
use Rattle.uecp_link.proofs.Passing.{whole_there, frame_there, frames_all}
use Rattle.uecp_link.proofs.replacement.give_pass.Goals as goal

pub loop-before-preserved : goal.loop-before-preserved
loop-before-preserved g c =
    let fs : List (List ℕ) = frames_behind c.args.address 0 in
    let place : ℕ = c.loop-before.before in
    let f : List ℕ = spelling (frame_under c.args.address (place + 1, [])) in
    let here : slice_get fs place ≡ Some f = frame_there c.args.address 0 place (place + 1)
    (whole_there place (omega arith)) in
    let sent : c.as_slice.result.now ≡ f = search rules in
    let more : concat (take (place + 1) fs) ≡ concat (take place fs) ++ f = frames_more fs place f here in
    c.give_cut.ensures.state ∙ ap (λ bs. fed g.T.Target.step c.loop-before.encoder bs) sent
    ∙ ap (λ (e : EncoderState _). fed g.T.Target.step e f) c.loop-before.invariant
    ∙ sym (in_pieces_of_encoder g.T.Target.step c.args.encoder.now (concat (take place fs)) f).state
    ∙ ap (fed g.T.Target.step c.args.encoder.now) (sym more)

pub returns : goal.returns
returns g c =
    let all : c.loop-before.before ≡ 255 = omega arith in
    c.loop-before.invariant ∙ ap (λ (fs : List (List ℕ)). fed g.T.Target.step c.args.encoder.now (concat fs))
    (ap (λ n. take n (frames_behind c.args.address 0)) all ∙ frames_all c.args.address 0)

pub loop-before-init : goal.loop-before-init
loop-before-init g c = sym (fed_none g.T.Target.step c.args.encoder.now)
