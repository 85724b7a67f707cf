use Rattle.std.proofs.Common.{map}
use Rattle.std.proofs.lemmas.Result.{err_from_is_err_and}
use Rattle.uecp_words.proofs.EventNames.{submission_refused, row_fails, one_word, one_long}
use Rattle.uecp_words.proofs.event_words.submit_of.Goals as goal

pub returns-in_err-bytes-in-len1-clause-refused : goal.returns-in_err-bytes-in-len1-clause-refused
returns-in_err-bytes-in-len1-clause-refused c =
    let exit = err_from_is_err_and c.from_residual.result c.from_residual.ensures.1 in
    let words = map (λ w. w.now) c.args.words.now in
    let fault = c.in_err-bytes-in-len1.field-0.0 in
    rw (exit.1, exit.2) (
    submission_refused words fault (one_long c.args.words.now c.in-len1.len_at_least c.in-len1.len_below)
    (row_fails _ words fault (one_word c.args.words.now _ c.in-len1.len_at_least c.in-len1.len_below)
    c.in_err-bytes-in-len1.ensures.refused))
