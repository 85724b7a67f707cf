use Rattle.std.proofs.Common.{rules, false}
use Rattle.page.proofs.Inputs.{begins}
use Rattle.page.proofs.intake.taking.Intake.new.Goals as goal

pub returns-clause-begins : goal.returns-clause-begins
returns-clause-begins c =
    begins c.args.first (record {
      page = c.new.result;
      history = c.new-2.result;
      count = 0;
      refused = false;
      lines = c.in_ok-new.field-0;
    }) (search rules) c.in_ok-new.ensures
