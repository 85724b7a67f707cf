use Rattle.std.proofs.Common.{ap, ◌∙◌, sym, ℕ, List}
use Rattle.std.specs.List.{list_any}
use Rattle.bad_line.specs.declared.rules.rule.Rule.{Rule}
use Rattle.bad_line.specs.Connections.{Line, is_restart}
use Rattle.bad_line.proofs.RefusedConnections.{asks_some, asks_none}
use Rattle.bad_line.proofs.connections.faulty.Faulty.takes_restart.Goals as goal

pub returns-in-Some : goal.returns-in-Some
returns-in-Some g c =
    asks_some c.args.self.now _ c.in-Some.frames c.restarts-due.result
    (sym (ap (λ l. l.frames) c.self.view_is) ∙ c.in-Some.is)
    (c.restarts-due.ensures ∙ ap (λ (rules : List Rule).
    list_any (is_restart c.self.inside.asked c.passed-passed.result) rules)
    (c.as_slice.ensures.value ∙ ap (λ l. l.rules) c.self.view_is)
    ∙ ap (λ (asked : ℕ). list_any (is_restart asked c.passed-passed.result) c.args.self.now.rules)
    (ap (λ l. l.asked) c.self.view_is)
    ∙ ap (λ (passed : ℕ). list_any (is_restart c.args.self.now.asked passed) c.args.self.now.rules)
    c.passed-passed.ensures)
    (ap {A = Line g.row.C.Denot} (λ l. record l { asked = c.passed-passed.result }) c.self.view_is
    ∙ ap (λ (n : ℕ). let l : Line g.row.C.Denot = record c.args.self.now { asked = n } in l) c.passed-passed.ensures)

pub returns-in-None : goal.returns-in-None
returns-in-None g c = asks_none c.args.self.now (sym (ap (λ l. l.frames) c.self.view_is) ∙ c.in-None.is)
