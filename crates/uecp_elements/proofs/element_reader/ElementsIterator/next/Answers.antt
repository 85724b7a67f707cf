use Rattle.std.proofs.Common.{length, sym, ap, ◌∙◌, rules}
use Rattle.uecp_elements.specs.View.{element_of}
use Rattle.uecp_elements.proofs.Items.{items_none, items_step, items_end}
use Rattle.uecp_elements.proofs.element_reader.ElementsIterator.next.Goals as goal

pub returns-then-is_empty-clause-steps : goal.returns-then-is_empty-clause-steps
returns-then-is_empty-clause-steps c =
    let none = sym c.self.view_is ∙ items_none c.self.inside.place c.self.inside.rest.now (search rules) in
    (none, none)

pub returns-in-Ok-clause-steps : goal.returns-in-Ok-clause-steps
returns-in-Ok-clause-steps c =
    sym c.self.view_is
    ∙ items_step c.self.inside.place c.self.inside.rest.now (element_of c.in-Ok.element) c.in-Ok.rest.now (search rules)
    c.in-Ok.ensures.element c.in-Ok.ensures.behind.0 c.in-Ok.ensures.behind.1

pub returns-in-Ok-clause-goes : goal.returns-in-Ok-clause-goes
returns-in-Ok-clause-goes c =
    let shorter = ap length (sym c.self.view_is
    ∙ items_step c.self.inside.place c.self.inside.rest.now (element_of c.in-Ok.element) c.in-Ok.rest.now (search rules)
    c.in-Ok.ensures.element c.in-Ok.ensures.behind.0 c.in-Ok.ensures.behind.1) in
    search rules

pub returns-in-Err-clause-steps : goal.returns-in-Err-clause-steps
returns-in-Err-clause-steps c =
    sym c.self.view_is ∙ items_end c.self.inside.place c.self.inside.rest.now c.in-Err.code (search rules)
    c.in-Err.ensures.fault

pub returns-in-Err-clause-goes : goal.returns-in-Err-clause-goes
returns-in-Err-clause-goes c =
    let shorter = ap length (sym c.self.view_is ∙ items_end c.self.inside.place c.self.inside.rest.now c.in-Err.code
    (search rules) c.in-Err.ensures.fault) in
    search rules
