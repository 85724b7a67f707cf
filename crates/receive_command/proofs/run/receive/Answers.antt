use Rattle.std.proofs.Common.{[], ◌∷◌, ◌++◌, Ok, is_some, refl, ap, inl, inr}
use Rattle.std.proofs.KnownBytes.{Keeps-refl}
use Rattle.uecp_text.specs.declared.run_fault.RunFault.TheVariants.{Reading}
use Rattle.receive_command.specs.Receiving.{at_first}
use Rattle.receive_command.specs.View.{standing_of}
use Rattle.receive_command.proofs.Heard.{stands_first, hears_on}
use Rattle.receive_command.proofs.run.receive.Goals as goal

pub loop-turn-init : goal.loop-turn-init
loop-turn-init g c = (
  (
    [],
    stands_first c.new-hearing.result _ _ _ c.new-hearing.ensures.receiver c.new-hearing.ensures.lines
        c.new-hearing.ensures.refused,
  ),
  c.new-2.ensures.empty,
  c.new-2.ensures.whole,
)

pub loop-turn-preserved : goal.loop-turn-preserved
loop-turn-preserved g c =
    let left = g.F.Feed.remaining in
    let held = g.W.Write.contents in
    let next = c.hear_next-next.new in
    let before = c.loop-turn.invariant.0 in
    let hears = c.in-Ok.ensures.heard (ap Ok c.if-not-goes_on.false) in (
      (
        before.0 ++ hears.0 ∷ [],
        hears_on c.args.form (is_some c.args.clock) before.0 hears.0
            (at_first (left c.args.feed.now) (held c.args.writer.now) c.args.errors.now)
            (standing_of c.loop-turn.hearing (left c.loop-turn.feed) (held c.loop-turn.writer)
            c.loop-turn.errors)
            (standing_of next.hearing (left next.feed) (held next.writer) next.errors) before.1 hears.1,
      ),
      c.in-Ok.ensures.empty,
      c.in-Ok.ensures.whole,
    )

pub returns : goal.returns
returns g c =
    let left = g.F.Feed.remaining in
    let held = g.W.Write.contents in
    let before = c.loop-turn.invariant.0 in (
      before.0,
      standing_of c.loop-turn.hearing (left c.loop-turn.feed) (held c.loop-turn.writer) c.loop-turn.errors,
      before.1,
      inr (c.fail-2.ensures.status, (Reading, (inl (Keeps-refl (left c.loop-turn.feed)), refl), c.fail-2.ensures.said)),
    )
