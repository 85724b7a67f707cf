use Rattle.std.proofs.Common.{◌++◌, ◌∙◌, ap}
use Rattle.std.specs.Prelude.{codes}
use Rattle.page.specs.Texts.{counted_texts, standing_texts, valued}
use Rattle.page.proofs.Whole.{in_five}
use Rattle.page.proofs.state.metrics.metrics_text.Goals as goal

pub returns : goal.returns
returns c =
    in_five _ _ _ _ _ _ _ _ _ _ _ c.new-text.ensures.items
    (c.in_ok-put_counted.ensures ∙ ap (λ ls. c.new-text.result.items ++ counted_texts ls) c.lines.ensures)
    (c.in_ok-put_standing.ensures ∙ ap (λ ls. c.put_counted.new.text.items ++ standing_texts c.args.moment.now ls)
    c.lines-2.ensures)
    (c.in_ok-put_value.ensures ∙ ap (λ n. c.put_standing.new.text.items
    ++ valued (codes "uecp_other_lines_total") (codes "Lines that are no object of ours.") (codes " counter\n") n)
    c.others.ensures)
    (c.in_ok-put_value-2.ensures ∙ ap (λ n. c.put_value.new.text.items
    ++ valued (codes "uecp_further_total") (codes "Objects of control lines that are shown nowhere.")
    (codes " counter\n") n) c.further.ensures)
    c.in_ok-put_since.ensures
