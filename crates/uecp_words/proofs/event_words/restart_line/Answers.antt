use Rattle.std.proofs.Common.{map, ◌∷◌, [], ap, ◌∙◌}
use Rattle.std.proofs.lemmas.Result.{err_from_is_err_and}
use Rattle.uecp_words.proofs.EventNames.{restart_named, restart_refused, one_word}
use Rattle.uecp_words.proofs.event_words.restart_line.Goals as goal

pub returns-in_err-end_of-in-len1-clause-refused : goal.returns-in_err-end_of-in-len1-clause-refused
returns-in_err-end_of-in-len1-clause-refused c =
    let exit = err_from_is_err_and c.from_residual.result c.from_residual.ensures.1 in
    rw (exit.1, exit.2) (
    restart_refused _ (map (λ w. w.now) c.args.words.now) c.in_err-end_of-in-len1.field-0.0
    (one_word c.args.words.now _ c.in-len1.len_at_least c.in-len1.len_below) c.in_err-end_of-in-len1.ensures.refused)

pub returns-in_ok-end_of-in-len1-clause-named : goal.returns-in_ok-end_of-in-len1-clause-named
returns-in_ok-end_of-in-len1-clause-named c =
    restart_named c.in_ok-end_of-in-len1.field-0 (map (λ w. w.now) c.args.words.now)
    (one_word c.args.words.now _ c.in-len1.len_at_least c.in-len1.len_below
    ∙ ap (λ w. w ∷ []) c.in_ok-end_of-in-len1.ensures.named)
