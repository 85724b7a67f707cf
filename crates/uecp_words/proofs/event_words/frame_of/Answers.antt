use Rattle.std.proofs.Common.{map}
use Rattle.std.proofs.lemmas.Result.{err_from_is_err_and}
use Rattle.uecp_words.proofs.EventNames.{frame_refused, fails_from}
use Rattle.uecp_words.proofs.event_words.frame_of.Goals as goal

pub returns-in_err-number-clause-refused : goal.returns-in_err-number-clause-refused
returns-in_err-number-clause-refused c =
    let exit = err_from_is_err_and c.from_residual.result c.from_residual.ensures.1 in
    rw (exit.1, exit.2) (frame_refused (map (λ w. w.now) c.args.words.now) c.in_err-number.field-0.0
    (fails_from c.args.words.now c.in_err-number.field-0.0 c.in_err-number.ensures.refused))
