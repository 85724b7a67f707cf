use Rattle.std.proofs.Common.{rules, tests, ◌-◌, length, take, reverse, ap, ◌∙◌}
use Rattle.std.proofs.lemmas.Iterator.Consumers.{count_from_yields_List}
use Rattle.std.proofs.lemmas.Iterator.Adapters.{YieldsList-from_rev_slice}
use Rattle.std.proofs.lemmas.Iterator.Search.{YieldsList-from_take_while}
use Rattle.std.proofs.lemmas.List.Folds.{length-prefix_len}
use Rattle.uecp_text.specs.Input.{is_space}
use Rattle.uecp_text.proofs.input.without_last_spaces.Goals as goal

pub returns : goal.returns
returns c =
    let text = c.args.text.now in
    ap (λ n. take (length text - n) text)
    (count_from_yields_List c.take_while.result c.count-last.result c.count-last.ensures.ran
    (YieldsList-from_take_while _ is_space (YieldsList-from_rev_slice text (cc)) c.take_while.ensures.closure
    c.take_while.ensures.done (λ x b q k. search (rules, tests)))
    ∙ length-prefix_len is_space (reverse text))
