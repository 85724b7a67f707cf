use Rattle.std.proofs.Common.{rules}
use Rattle.page.proofs.Schedules.{first_seen, none_seen}
use Rattle.page.proofs.events.history.History.line.Goals as goal

pub returns-in-Some-clause-some : goal.returns-in-Some-clause-some
returns-in-Some-clause-some c =
    first_seen (λ line. line.items) c.self.inside.first c.args.number c.self.inside.lines.items c.in-Some.line.now
    c.as_slice.result.now c.args.self.now c.self.view_is
    c.if-number-self.false (search rules) c.in-Some.ensures.lookup c.as_slice.ensures.value

pub returns-in-None-clause-none : goal.returns-in-None-clause-none
returns-in-None-clause-none c =
    none_seen (λ line. line.items) c.self.inside.first c.args.number c.self.inside.lines.items c.args.self.now
    c.self.view_is c.if-number-self.false (search rules)
