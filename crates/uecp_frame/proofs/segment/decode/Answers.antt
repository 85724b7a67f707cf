use Rattle.std.proofs.Common.{◌≡◌, ◌∙◌, ap, sym, subst, arith, Result, Ok, Err}
use Rattle.uecp_frame.specs.declared.frame.Frame.{Frame}
use Rattle.uecp_frame.specs.declared.fault.FrameFault.{FrameFault}
use Rattle.uecp_frame.specs.declared.fault.FrameFault.TheVariants.{Unended}
use Rattle.uecp_frame.specs.Feeding.{Feeds}
use Rattle.uecp_frame.specs.Segment.{decoded}
use Rattle.uecp_frame.proofs.Decoding.{decoded-spelling, if_ok_spelled, bytes_from}
use Rattle.uecp_frame.proofs.Alone.{decoded_alone, decoded_of}
use Rattle.uecp_frame.proofs.segment.decode.Goals as goal

abbrev as_ok : Frame → Result Frame FrameFault
as_ok f = Ok f

pub returns-in-Nothing-clause-exact : goal.returns-in-Nothing-clause-exact
returns-in-Nothing-clause-exact c =
    let s = c.args.segment.now in
    let fed = c.feed.result in
    let alone = decoded_alone s fed c.feed.new.self c.requires
    (subst (λ o. Feeds o s fed c.feed.new.self) c.new.ensures c.feed.ensures.feeds) in
    let is : decoded s ≡ Err Unended = alone ∙ ap decoded_of c.in-Nothing.is in sym is

pub returns-in-Nothing-clause-only : goal.returns-in-Nothing-clause-only
returns-in-Nothing-clause-only c = λ f small is. returns-in-Nothing-clause-exact c ∙ ap decoded is
    ∙ decoded-spelling f small

pub returns-in-Frame-clause-exact : goal.returns-in-Frame-clause-exact
returns-in-Frame-clause-exact c =
    let s = c.args.segment.now in
    let fed = c.feed.result in
    let alone = decoded_alone s fed c.feed.new.self c.requires
    (subst (λ o. Feeds o s fed c.feed.new.self) c.new.ensures c.feed.ensures.feeds) in
    let is : decoded s ≡ Ok c.in-Frame.frame = alone ∙ ap decoded_of c.in-Frame.is in
    ap as_ok c.in-Frame.frame-is ∙ sym is

pub returns-in-Frame-clause-only : goal.returns-in-Frame-clause-only
returns-in-Frame-clause-only c = λ f small is. returns-in-Frame-clause-exact c ∙ ap decoded is
    ∙ decoded-spelling f small

pub returns-in-Frame-clause-spelled : goal.returns-in-Frame-clause-spelled
returns-in-Frame-clause-spelled c =
    let s = c.args.segment.now in
    if_ok_spelled s (as_ok _) c.requires (bytes_from s (λ i. omega (arith, c.type_inv.segment i)))
    (returns-in-Frame-clause-exact c)

pub returns-in-Refused-clause-exact : goal.returns-in-Refused-clause-exact
returns-in-Refused-clause-exact c =
    let s = c.args.segment.now in
    let fed = c.feed.result in
    let alone = decoded_alone s fed c.feed.new.self c.requires
    (subst (λ o. Feeds o s fed c.feed.new.self) c.new.ensures c.feed.ensures.feeds) in
    let is : decoded s ≡ Err c.in-Refused.fault = alone ∙ ap decoded_of c.in-Refused.is in sym is

pub returns-in-Refused-clause-only : goal.returns-in-Refused-clause-only
returns-in-Refused-clause-only c = λ f small is. returns-in-Refused-clause-exact c ∙ ap decoded is
    ∙ decoded-spelling f small
