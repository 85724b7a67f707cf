use Rattle.std.proofs.Common.{None, subst}
use Rattle.state_jobs.specs.Texts.{file_line}
use Rattle.state_jobs.proofs.texts.tell_file.Goals as goal
use Rattle.notices.specs.Told.{Says}

pub returns-clause-said : goal.returns-clause-said
returns-clause-said g c =
    let told = c.args.errors.now in
    let told' = c.say.new.self in
    subst (λ t. Says told told' (file_line t c.args.path.now None)) c.as_bytes.ensures.value
    (subst (λ p. Says told told' (file_line c.as_bytes.result.now p None)) c.as_bytes-2.ensures.value
    c.say.ensures)
