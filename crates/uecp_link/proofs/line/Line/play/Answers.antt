use Rattle.std.proofs.Common.{map, subst}
use Rattle.uecp_link.specs.Events.{event_of}
use Rattle.uecp_link.specs.Once.{at_first}
use Rattle.uecp_link.specs.Holds.{LineState, RunsAs}
use Rattle.uecp_link.proofs.Lawful.{law}
use Rattle.uecp_link.proofs.Played.{headline, numbers}
use Rattle.uecp_link.proofs.line.Line.play.Goals as goal

pub returns-clause-plays : goal.returns-clause-plays
returns-clause-plays g c =
    subst (λ (l : LineState _). RunsAs g.T.Target.step g.T.Target.taken l (at_first c.args.target)
    (map event_of c.args.events.now) c.run-refused.result c.run-refused.new.self) c.in_ok-line.ensures.made
    (c.run-refused.ensures.plays (at_first c.args.target) c.in_ok-line.ensures.holds)

pub returns-clause-headline : goal.returns-clause-headline
returns-clause-headline g c =
    let r = returns-clause-plays g c in (
      r,
      headline g.T.Target.step g.T.Target.taken c.args.address c.args.target (map event_of c.args.events.now)
          r.outcomes c.run-refused.new.self r.last r.plays,
    )

pub returns-clause-numbers : goal.returns-clause-numbers
returns-clause-numbers g c =
    let r = returns-clause-plays g c in
    numbers g.T.Target.step g.T.Target.taken c.args.address c.args.target (map event_of c.args.events.now) r.outcomes
    c.run-refused.new.self r.last r.plays

pub returns-clause-law : goal.returns-clause-law
returns-clause-law g c = law g.T.Target.step g.T.Target.taken c.args.address c.args.target
    (map event_of c.args.events.now) c.run-refused.ensures.fits
