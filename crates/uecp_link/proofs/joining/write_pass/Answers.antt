use Rattle.std.proofs.Common.{◌≡◌, ℕ, ◌+◌, ◌<◌, List, [], ◌++◌, length, take, Some, ◌∙◌, ap, sym, subst, arith, rules}
use Rattle.std.proofs.Common.{length-append}
use Rattle.std.specs.Prelude.{slice_get}
use Rattle.std.specs.List.{concat}
use Rattle.std.specs.Io.KnownBytes.{Appends}
use Rattle.std.proofs.KnownBytes.{Appends-trans}
use Rattle.uecp_frame.specs.Frame.{spelling}
use Rattle.uecp_link.specs.Frames.{frame_under}
use Rattle.uecp_link.specs.Joining.{counters_behind, frames_behind}
use Rattle.uecp_link.proofs.Windowing.{frames_more, part_appended}
use Rattle.uecp_link.proofs.Passing.{frame_there, frames_all, frame_is_short}
use Rattle.uecp_link.proofs.joining.write_pass.Goals as goal

pub returns-in-Err-clause-err : goal.returns-in-Err-clause-err
returns-in-Err-clause-err g c =
    let fs : List (List ℕ) = frames_behind c.args.address c.args.behind in
    let place : ℕ = c.loop-place.place in
    let f : List ℕ = spelling (frame_under c.args.address (c.counter_behind.result, [])) in
    let here : slice_get fs place ≡ Some f = frame_there c.args.address c.args.behind place c.counter_behind.result
    c.counter_behind.ensures in
    let sent : c.as_slice.result.now ≡ f = search rules in
    let (within, wrote) = c.in-Err.ensures.err in
    let less : c.in-Err.part < length f = omega (arith, within, ap length sent) in
    part_appended fs place f here _ _ _ c.in-Err.part less (omega (arith, c.loop-place.invariant.written))
    (Appends-trans _ _ _ _ _ c.loop-place.invariant.appended
    (subst (λ bs. Appends (g.W.Write.contents c.loop-place.writer.device)
    (g.W.Write.contents c.write_whole.new.self.device) (take c.in-Err.part bs)) sent wrote))

pub loop-place-preserved : goal.loop-place-preserved
loop-place-preserved g c =
    let fs : List (List ℕ) = frames_behind c.args.address c.args.behind in
    let place : ℕ = c.loop-place.place in
    let f : List ℕ = spelling (frame_under c.args.address (c.counter_behind.result, [])) in
    let here : slice_get fs place ≡ Some f = frame_there c.args.address c.args.behind place c.counter_behind.result
    c.counter_behind.ensures in
    let sent : c.as_slice.result.now ≡ f = search rules in
    let count : c.len.result ≡ length f = search rules in
    let more : concat (take (place + 1) fs) ≡ concat (take place fs) ++ f = frames_more fs place f here in
    record {
      written = omega (
        arith,
        c.loop-place.invariant.written,
        count,
        ap length more,
        length-append (concat (take place fs)) f,
      );
      few = omega (arith, c.loop-place.invariant.few, count, frame_is_short c.args.address c.counter_behind.result);
      appended = subst (Appends (g.W.Write.contents c.args.writer.now.device)
          (g.W.Write.contents c.write_whole.new.self.device)) (ap (λ bs. concat (take place fs) ++ bs) sent ∙ sym more)
          (Appends-trans _ _ _ _ _ c.loop-place.invariant.appended c.in_default.ensures.ok);
      failures = c.in_default.ensures.failures ∙ c.loop-place.invariant.failures;
    }

pub returns-clause-ok : goal.returns-clause-ok
returns-clause-ok g c =
    let all : c.loop-place.place ≡ length (counters_behind c.args.behind) =
    omega (arith, c.count_behind-place-end.ensures) in
    subst (λ (fs : List (List ℕ)). Appends (g.W.Write.contents c.args.writer.now.device)
    (g.W.Write.contents c.loop-place.writer.device) (concat fs))
    (ap (λ n. take n (frames_behind c.args.address c.args.behind)) all ∙ frames_all c.args.address c.args.behind)
    c.loop-place.invariant.appended
