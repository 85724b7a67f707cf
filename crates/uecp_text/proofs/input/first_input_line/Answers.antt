use Rattle.std.proofs.Common.{◌∷◌, ◌+◌, drop, ◌∙◌, ap, sym}
use Rattle.uecp_text.specs.Input.{lines_of}
use Rattle.uecp_text.proofs.Lines.{first_up_to, first_alone}
use Rattle.uecp_text.proofs.input.first_input_line.Goals as goal

pub returns-in-Some-clause-lines : goal.returns-in-Some-clause-lines
returns-in-Some-clause-lines c =
    let input = c.args.input.now in
    first_up_to input c.in-Some.place c.in-Some.ensures.0 c.in-Some.ensures.1
    ∙ ap (λ line. line ∷ lines_of (drop (c.in-Some.place + 1) input)) (sym c.split_at.ensures.front)
    ∙ ap (λ rest. c.split_at.result.0.now ∷ lines_of rest) (sym c.split_at.ensures.back)

pub returns-in-None-clause-lines : goal.returns-in-None-clause-lines
returns-in-None-clause-lines c = first_alone c.args.input.now c.requires c.in-None.ensures
