use Rattle.std.proofs.Common.{sym, ap, subst, ◌∙◌}
use Rattle.uecp_text.specs.Words.{texts}
use Rattle.receive_command.specs.GroupLines.{AreBlocks}
use Rattle.receive_command.proofs.group_lines.group_line.read_text.Goals as goal

pub returns : goal.returns
returns c = λ g is.
    c.in-None.ensures.none g
    (subst (λ ws. AreBlocks ws g) (sym (ap texts c.as_slice.ensures.value ∙ c.in_ok-words.ensures)) is)
