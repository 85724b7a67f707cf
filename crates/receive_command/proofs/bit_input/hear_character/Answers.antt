use Rattle.std.proofs.Common.{[], ◌∙◌, is_some, ap, sym}
use Rattle.std.proofs.lemmas.Result.{IfErr-weaker}
use Rattle.std.specs.List.{cons_option}
use Rattle.rds_groups.specs.View.{receiver_of}
use Rattle.receive_command.specs.View.{bits_of_hearing}
use Rattle.receive_command.proofs.Texts.{fails_for_group}
use Rattle.receive_command.proofs.bit_input.hear_character.Goals as goal

pub returns-in-Some-clause-failed : goal.returns-in-Some-clause-failed
returns-in-Some-clause-failed g c =
    let contents = g.W.Write.contents in
    IfErr-weaker c.hear_group.result _ _ (fails_for_group c.args.form (is_some c.args.clock) c.args.character
    (bits_of_hearing c.args.hearing.now (contents c.args.writer.now)) c.in-Some.group
    (receiver_of c.hear_group.new.receiver) (contents c.hear_group.new.writer)
    (ap (λ p. cons_option p.1 []) (sym c.take_character.ensures) ∙ ap (λ o. cons_option o []) c.in-Some.is)
    c.hear_group.ensures.heard) c.hear_group.ensures.failed
