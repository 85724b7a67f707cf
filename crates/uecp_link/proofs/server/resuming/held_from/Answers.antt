use Rattle.std.proofs.Common.{◌≡◌, suc, List, take, ◌+◌, ◌++◌, ◌∷◌, [], length, ap, subst, sym, ◌∙◌, arith}
use Rattle.std.proofs.Common.{length-append}
use Rattle.uecp_frame.specs.Frame.{spelling}
use Rattle.uecp_link.specs.Frames.{frame_under}
use Rattle.uecp_link.specs.declared.held_message.HeldMessage.{HeldMessage}
use Rattle.uecp_link.specs.Counters.{counter_of}
use Rattle.uecp_link.specs.Server.{Held}
use Rattle.uecp_link.specs.HeldMessages.{held_as, held_in, AreSpelled}
use Rattle.uecp_link.specs.Resuming.{numbered_from}
use Rattle.uecp_link.proofs.Resumed.{numbered_more, held_more, spelled_more}
use Rattle.uecp_link.proofs.server.resuming.held_from.Goals as goal

pub loop-message-preserved : goal.loop-message-preserved
loop-message-preserved c =
    let before = c.loop-message.invariant in
    let items = c.loop-message.held.items in
    let message = c.message-item.result in
    let new = c.held_under.result in
    let pushed = c.push.ensures.items in
    let counter : c.counter_of.result ≡ counter_of (c.args.first + c.loop-message.message-index) =
    c.counter_of.ensures ∙ ap counter_of before.3 in
    let one : held_as new ≡ record {
      counter = counter_of (c.args.first + c.loop-message.message-index);
      message = message.message;
      marked = message.marked;
    } =
    c.held_under.ensures.held
    ∙ ap (λ n. record { counter = n; message = message.message; marked = message.marked }) counter in
    let place = c.loop-message.message-index in
    let next : suc place ≡ place + 1 = omega arith in
    let spelled : AreSpelled c.args.address (new ∷ []) = (
      c.held_under.ensures.spelled ∙ ap (λ (h : Held). spelling (frame_under c.args.address (h.counter, h.message)))
          (sym c.held_under.ensures.held),
      tt,
    ) in (
      ap held_in pushed ∙ held_more items new
          ∙ ap (λ hs. hs ++ held_as new ∷ []) before.0
          ∙ ap (λ (h : Held). numbered_from c.args.first (take place c.args.kept.now) ++ h ∷ []) one
          ∙ sym (numbered_more c.args.first place c.args.kept.now message c.loop-message-test.true c.message-item.is)
          ∙ ap (λ n. numbered_from c.args.first (take n c.args.kept.now)) next,
      subst (AreSpelled c.args.address) (sym pushed) (spelled_more c.args.address items new before.1 spelled),
      omega (arith, before.2, ap (λ (hs : List HeldMessage). length hs) pushed, length-append items (new ∷ [])),
      omega (arith, before.3),
    )
