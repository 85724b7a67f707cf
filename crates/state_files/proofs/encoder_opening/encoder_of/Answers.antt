use Rattle.std.proofs.Common.{sym, subst}
use Rattle.sqlite_image.specs.Kept.{bytes_of}
use Rattle.state_files.specs.Encoders.{IsOther, IsRefused}
use Rattle.state_files.proofs.encoder_opening.encoder_of.Goals as goal

pub returns-in-Err-clause-refused : goal.returns-in-Err-clause-refused
returns-in-Err-clause-refused g c =
    subst (λ o. IsRefused (bytes_of o) c.args.address c.args.sets c.args.services.now c.in-Err.fault)
    (sym c.in-Some.is)
    (subst (λ b. IsOther c.args.address c.args.sets c.args.services.now b c.in-Err.fault) c.as_slice.ensures.value
    c.in-Err.ensures.refused)
