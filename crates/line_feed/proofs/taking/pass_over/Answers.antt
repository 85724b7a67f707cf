use Rattle.std.proofs.Common.{rules, ◌≡◌, ◌++◌, ◌∙◌, ap, Ok, Err, IfErr, inr, sym, subst, refl}
use Rattle.std.specs.Io.KnownBytes.{prepend_known}
use Rattle.line_feed.specs.Lines.{HasNoEnd, IsUntaken}
use Rattle.line_feed.specs.Parts.{EndsFirst}
use Rattle.line_feed.specs.declared.feed_fault.FeedFault.TheVariants.{Reading}
use Rattle.line_feed.proofs.Passing.{past_on, past_at_end, past_first, passes_on, passes_untaken}
use Rattle.line_feed.proofs.taking.pass_over.Goals as goal

pub returns-in_err-wait_into-clause-fault : goal.returns-in_err-wait_into-clause-fault
returns-in_err-wait_into-clause-fault g c =
    let before = prepend_known c.args.held.now c.args.source.now.left in
    let read = c.wait_into.ensures.read in
    let failed : c.from_residual.result ≡ Err Reading = search rules in
    let past = past_on before c.loop-turn.source.left c.wait_into.new.self.left c.loop-turn.held c.wait_into.new.held
    read.0
    c.loop-turn.invariant (read.1 ∙ ap (λ l. l ++ read.0) c.clear.ensures) read.2 in
    subst (λ r. IfErr r (IsUntaken before (prepend_known c.wait_into.new.held c.wait_into.new.self.left))) (sym failed)
    (inr (refl, past))

pub returns-then-not-branch-clause-next : goal.returns-then-not-branch-clause-next
returns-then-not-branch-clause-next g c =
    let before = prepend_known c.args.held.now c.args.source.now.left in
    let read = c.wait_into.ensures.read in
    let over = c.in_ok-wait_into.ensures.ended (ap Ok c.if-not-branch.true) in
    let past = past_on before c.loop-turn.source.left c.wait_into.new.self.left c.loop-turn.held c.wait_into.new.held
    read.0
    c.loop-turn.invariant (read.1 ∙ ap (λ l. l ++ read.0) c.clear.ensures) read.2 in
    past_at_end before c.wait_into.new.self.left c.wait_into.new.held past (over.2 ∙ c.clear.ensures) over.1

pub returns-in-Some-clause-next : goal.returns-in-Some-clause-next
returns-in-Some-clause-next g c =
    let before = prepend_known c.args.held.now c.args.source.now.left in
    let read = c.wait_into.ensures.read in
    let held = c.wait_into.new.held in
    let past = past_on before c.loop-turn.source.left c.wait_into.new.self.left c.loop-turn.held held read.0
    c.loop-turn.invariant (read.1 ∙ ap (λ l. l ++ read.0) c.clear.ensures) read.2 in
    let first : EndsFirst held c.in-Some.count =
    subst (λ l. EndsFirst l c.in-Some.count) c.as_slice.ensures c.in-Some.ensures in
    past_first before c.wait_into.new.self.left held c.take.new.self c.in-Some.count past first c.take.ensures

pub loop-turn-preserved : goal.loop-turn-preserved
loop-turn-preserved g c =
    let before = prepend_known c.args.held.now c.args.source.now.left in
    let read = c.wait_into.ensures.read in
    let held = c.wait_into.new.held in
    let past = past_on before c.loop-turn.source.left c.wait_into.new.self.left c.loop-turn.held held read.0
    c.loop-turn.invariant (read.1 ∙ ap (λ l. l ++ read.0) c.clear.ensures) read.2 in
    let none : HasNoEnd held = subst HasNoEnd c.as_slice.ensures c.in_default.ensures in
    passes_on before c.wait_into.new.self.left held past none

pub returns-clause-fault : goal.returns-clause-fault
returns-clause-fault g c =
    passes_untaken (prepend_known c.args.held.now c.args.source.now.left) c.loop-turn.source.left c.loop-turn.held
    c.loop-turn.invariant
