use Rattle.std.proofs.Common.{◌∷◌, [], Ok, Err, ap, subst, sym, refl, ◌∙◌}
use Rattle.uecp_frame.specs.Feeding.{findings_of}
use Rattle.uecp_link.proofs.Public.{empty_is}
use Rattle.conformance.specs.Judging.{Stands}
use Rattle.conformance.proofs.Judged.{Agrees, agrees_first, agrees_more, judged_end, judged_at}
use Rattle.conformance.proofs.comparison.first_difference.Goals as goal

pub loop-rest-init : goal.loop-rest-init
loop-rest-init c =
    subst (λ part. Agrees c.args.own c.args.wanted.now c.args.came.now part c.args.came.now 0)
    (sym c.new-deframer.ensures) (agrees_first c.args.own c.args.wanted.now c.args.came.now)

pub returns-in-Refused : goal.returns-in-Refused
returns-in-Refused c =
    let a = c.loop-rest.invariant in
    judged_at c.args.own c.args.wanted.now c.args.came.now c.loop-rest.deframer c.feed-fed.new.self c.loop-rest.rest.now
    c.rest_of-rest.result.now c.loop-rest.agreed c.feed-fed.result (Err c.in-Refused.fault) _ a
    (c.feed-fed.ensures.after a.heard a.left) c.rest_of-rest.ensures (ap findings_of c.in-Refused.is)
    (λ after. (after, refl))

pub returns-in-Some : goal.returns-in-Some
returns-in-Some c =
    let a = c.loop-rest.invariant in
    judged_at c.args.own c.args.wanted.now c.args.came.now c.loop-rest.deframer c.feed-fed.new.self c.loop-rest.rest.now
    c.rest_of-rest.result.now c.loop-rest.agreed c.feed-fed.result (Ok c.in-Frame.frame) _ a
    (c.feed-fed.ensures.after a.heard a.left) c.rest_of-rest.ensures (ap findings_of c.in-Frame.is)
    (λ after. subst (λ next. Stands c.args.own next (Ok c.in-Frame.frame ∷ after) c.in-Some.verdict) c.next_of.ensures
    (subst (λ frame. Stands c.args.own c.next_of.result.now (Ok frame ∷ after) c.in-Some.verdict) c.in-Frame.frame-is
    (c.in-Some.ensures.stands after)))

pub loop-rest-preserved : goal.loop-rest-preserved
loop-rest-preserved c =
    let a = c.loop-rest.invariant in
    let agrees = c.in-None.ensures.agrees in
    agrees_more c.args.own c.args.wanted.now c.args.came.now c.loop-rest.deframer c.feed-fed.new.self
    c.loop-rest.rest.now c.rest_of-rest.result.now c.loop-rest.agreed c.feed-fed.result c.in-Frame.frame agrees.0
    agrees.1 agrees.2 a (c.feed-fed.ensures.after a.heard a.left) c.rest_of-rest.ensures c.in-Frame.is
    (sym c.next_of.ensures ∙ agrees.3) agrees.4 (sym c.in-Frame.frame-is ∙ agrees.5)

pub returns : goal.returns
returns c =
    judged_end c.args.own c.args.wanted.now c.args.came.now c.loop-rest.deframer c.loop-rest.rest.now c.loop-rest.agreed
    _ c.loop-rest.invariant (empty_is c.loop-rest.rest.now c.loop-rest-test.ensures)
    (subst (λ next. Stands c.args.own next [] c.at_end.result) c.next_of-2.ensures (c.at_end.ensures c.args.own))
