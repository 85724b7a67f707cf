use Rattle.std.proofs.Common.{◌≡◌, ℕ, ◌+◌, List, ◌++◌, length, take, Some, ◌∙◌, ap, sym, arith, rules}
use Rattle.std.proofs.Common.{length-append}
use Rattle.std.specs.Prelude.{slice_get}
use Rattle.std.specs.List.{concat}
use Rattle.uecp_link.specs.Server.{frames_waiting}
use Rattle.uecp_link.proofs.Windowing.{frames_more}
use Rattle.uecp_link.proofs.window.frames_of.Goals as goal

pub loop-place-preserved : goal.loop-place-preserved
loop-place-preserved c =
    let fs : List (List ℕ) = frames_waiting c.args.server.now in
    let place : ℕ = c.loop-place.place in
    let f : List ℕ = c.in-Some.frame.now in
    let here : slice_get fs place ≡ Some f = search rules in
    let more : concat (take (place + 1) fs) ≡ concat (take place fs) ++ f = frames_more fs place f here in
    let added = c.in-Ok.ensures.ok in
    record {
      all = added ∙ ap (λ l. l ++ f) c.loop-place.invariant.all ∙ sym more;
      few = omega (
        arith,
        c.loop-place.invariant.few,
        c.in-Some.ensures.few,
        ap length added,
        length-append c.loop-place.bytes.items f,
      );
    }
