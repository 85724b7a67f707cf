use Rattle.std.proofs.Common.{Some}
use Rattle.page.specs.Input.{TakesLast}
use Rattle.page.proofs.Inputs.{takes_last, ends_last}
use Rattle.page.proofs.intake.taking.Intake.take_last.Goals as goal

pub returns-in_ok-take-in-Line : goal.returns-in_ok-take-in-Line
returns-in_ok-take-in-Line c =
    let i = c.args.self.now in
    let j = c.take.new.self in
    let taken = c.in_ok-take-in-Line.field-0 in
    let takes : TakesLast c.args.came i j (Some taken) =
    takes_last c.args.came i j c.last.new.self c.last.result taken c.in-Line.is c.last.ensures.last c.take.ensures.lines
    c.in_ok-take-in-Line.ensures.takes in
    record { takes = takes; ends = ends_last c.args.came i j (Some taken) c.requires takes; err = tt }
