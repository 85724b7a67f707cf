use Rattle.std.proofs.Common.{rules, ◌≡◌, Err}
use Rattle.command_line.proofs.matched.answer_of.Goals as goal

pub returns-in_err-services-clause-refused : goal.returns-in_err-services-clause-refused
returns-in_err-services-clause-refused c =
    let err : c.from_residual.result ≡ Err c.in_err-services.field-0.0 = search rules in
    rw err c.in_err-services.ensures.refused
