use Rattle.std.proofs.Common.{inl}
use Rattle.command_line.proofs.settling.look_over.Goals as goal

pub returns-in-Ok-say_ok-clause-ok : goal.returns-in-Ok-say_ok-clause-ok
returns-in-Ok-say_ok-clause-ok g c = λ zero. inl
    (c.in-Ok.field-0, c.in-Ok.ensures.asked, c.in-Ok-say_ok.ensures.said)
