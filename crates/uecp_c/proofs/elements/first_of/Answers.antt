use Rattle.uecp_elements.specs.View.{element_of}
use Rattle.uecp_c.proofs.FirstItem.{element_first, fault_first, nothing_first}
use Rattle.uecp_c.proofs.elements.first_of.Goals as goal

pub returns-in-Some-Ok-clause-ok : goal.returns-in-Some-Ok-clause-ok
returns-in-Some-Ok-clause-ok c =
    let steps = rw c.in-Some-Ok.field-0-is at c.in-Some-Ok.ensures.steps in
    let first = element_first c.args.bytes.now c.elements.result (element_of c.in-Some-Ok.element) c.next.new.self
    c.elements.ensures.reading steps in
    (first.element, (first.more, first.whole))

pub returns-in-Some-Err-clause-err : goal.returns-in-Some-Err-clause-err
returns-in-Some-Err-clause-err c =
    let steps = rw c.in-Some-Err.field-0-is at c.in-Some-Err.ensures.steps in
    let first = fault_first c.args.bytes.now c.elements.result c.in-Some-Err.fault c.next.new.self
    c.elements.ensures.reading steps in
    (first.none, first.code)

pub returns-in-None-clause-err : goal.returns-in-None-clause-err
returns-in-None-clause-err c =
    let first = nothing_first c.args.bytes.now c.elements.result c.elements.ensures.reading c.in-None.ensures.steps.0 in
    (first.none, first.code)
