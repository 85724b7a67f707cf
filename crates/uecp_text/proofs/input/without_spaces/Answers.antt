use Rattle.std.proofs.Common.{rules, tests, drop, ap, ◌∙◌}
use Rattle.std.proofs.lemmas.Iterator.{YieldsList-from_slice}
use Rattle.std.proofs.lemmas.Iterator.Consumers.{count_from_yields_List}
use Rattle.std.proofs.lemmas.Iterator.Search.{YieldsList-from_take_while}
use Rattle.std.proofs.lemmas.List.{take_rest}
use Rattle.std.proofs.lemmas.List.Folds.{length-prefix_len}
use Rattle.uecp_text.specs.Input.{is_space, without_last_spaces}
use Rattle.uecp_text.proofs.input.without_spaces.Goals as goal

pub returns : goal.returns
returns c =
    let text = c.args.text.now in
    c.without_last_spaces.ensures
    ∙ ap without_last_spaces (take_rest text c.count-first.result)
    ∙ ap (λ n. without_last_spaces (drop n text))
    (count_from_yields_List c.take_while.result c.count-first.result c.count-first.ensures.ran
    (YieldsList-from_take_while _ is_space (YieldsList-from_slice text (cc)) c.take_while.ensures.closure
    c.take_while.ensures.done (λ x b q k. search (rules, tests)))
    ∙ length-prefix_len is_space text)
