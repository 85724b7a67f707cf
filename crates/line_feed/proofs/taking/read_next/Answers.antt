use Rattle.std.proofs.Common.{ap, Ok, IfOk, sym, subst}
use Rattle.std.specs.Io.KnownBytes.{prepend_known}
use Rattle.line_feed.specs.Lines.{HasNoEnd, IsNext}
use Rattle.line_feed.specs.Parts.{EndsFirst}
use Rattle.line_feed.proofs.Passing.{first_taken, last_taken, keeps_on}
use Rattle.line_feed.proofs.Following.{next_of_result, fault_of_result}
use Rattle.line_feed.proofs.taking.read_next.Goals as goal

pub returns-then-room-eq0-clause-next : goal.returns-then-room-eq0-clause-next
returns-then-room-eq0-clause-next g c =
    subst (λ l. IfOk c.pass_over.result (IsNext (prepend_known c.args.held.now c.args.source.now.left)
    (prepend_known c.pass_over.new.held c.pass_over.new.source.left) l)) (sym c.loop-turn.invariant.1)
    (next_of_result (prepend_known c.args.held.now c.args.source.now.left)
    (prepend_known c.loop-turn.held c.loop-turn.source.left)
    (prepend_known c.pass_over.new.held c.pass_over.new.source.left) _ c.pass_over.result c.loop-turn.invariant.0
    c.pass_over.ensures.next)

pub returns-then-room-eq0-clause-fault : goal.returns-then-room-eq0-clause-fault
returns-then-room-eq0-clause-fault g c =
    fault_of_result (prepend_known c.args.held.now c.args.source.now.left)
    (prepend_known c.loop-turn.held c.loop-turn.source.left)
    (prepend_known c.pass_over.new.held c.pass_over.new.source.left) c.pass_over.result c.loop-turn.invariant.0
    c.pass_over.ensures.fault

pub returns-in-Some-clause-next : goal.returns-in-Some-clause-next
returns-in-Some-clause-next g c =
    let before = prepend_known c.args.held.now c.args.source.now.left in
    let read = c.wait_into.ensures.read in
    let held = c.wait_into.new.held in
    let kept = keeps_on before c.loop-turn.source.left c.wait_into.new.self.left c.loop-turn.held held read.0
    c.loop-turn.invariant.0 read.1 read.2 in
    let first : EndsFirst held c.in-Some.count =
    subst (λ l. EndsFirst l c.in-Some.count) c.as_slice.ensures c.in-Some.ensures in
    first_taken before c.wait_into.new.self.left held c.take_first.new.held
    c.take_first.new.line.items c.in-Some.count c.take_first.result kept first
    c.take_first.ensures.taken

pub returns-then-not-branch-clause-next : goal.returns-then-not-branch-clause-next
returns-then-not-branch-clause-next g c =
    let before = prepend_known c.args.held.now c.args.source.now.left in
    let read = c.wait_into.ensures.read in
    let held = c.wait_into.new.held in
    let over = c.in_ok-wait_into.ensures.ended (ap Ok c.if-not-branch.true) in
    let kept = keeps_on before c.loop-turn.source.left c.wait_into.new.self.left c.loop-turn.held held read.0
    c.loop-turn.invariant.0 read.1 read.2 in
    let none : HasNoEnd held = subst HasNoEnd (sym over.2) c.loop-turn.invariant.2 in
    last_taken before c.wait_into.new.self.left held c.take_last.new.held c.take_last.new.line.items c.take_last.result
    kept none over.1 c.take_last.ensures.none c.take_last.ensures.taken

pub loop-turn-preserved : goal.loop-turn-preserved
loop-turn-preserved g c =
    let before = prepend_known c.args.held.now c.args.source.now.left in
    let read = c.wait_into.ensures.read in
    let held = c.wait_into.new.held in (
      keeps_on before c.loop-turn.source.left c.wait_into.new.self.left c.loop-turn.held held read.0
          c.loop-turn.invariant.0 read.1 read.2,
      c.loop-turn.invariant.1,
      subst HasNoEnd c.as_slice.ensures c.in_default.ensures,
    )
