use Rattle.std.proofs.Common.{arith}
use Rattle.uecp_words.proofs.ElementWords.{group_named}
use Rattle.uecp_words.proofs.element_words.of_group.Goals as goal

pub returns-clause-named : goal.returns-clause-named
returns-clause-named c =
    group_named c.args.words.now _ _ _ _ _ _ (omega arith) c.in_ok-kind.ensures.byte c.in_ok-mode.ensures.byte
    c.in_ok-block3.ensures.number c.in_ok-block4.ensures.number c.spelled.ensures
