use Rattle.std.proofs.Common.{Some}
use Rattle.page.specs.Input.{TakesNext}
use Rattle.page.proofs.Inputs.{takes_next, goes_on_next}
use Rattle.page.proofs.intake.taking.Intake.take_next.Goals as goal

pub returns-in_ok-take-in-Line : goal.returns-in_ok-take-in-Line
returns-in_ok-take-in-Line c =
    let i = c.args.self.now in
    let j = c.take.new.self in
    let taken = c.in_ok-take-in-Line.field-0 in
    let takes : TakesNext c.args.came i j (Some taken) =
    takes_next c.args.came i j c.cut.new.self c.in_ok-cut.field-0 taken c.in-Line.is c.in_ok-cut.ensures.cuts
    c.take.ensures.lines
    c.in_ok-take-in-Line.ensures.takes in
    record { takes = takes; goes_on = goes_on_next c.args.came i j (Some taken) takes; err = tt }
