use Rattle.std.proofs.Common.{arith}
use Rattle.uecp_words.proofs.ElementWords.{ack_named}
use Rattle.uecp_words.proofs.element_words.of_ack.Goals as goal

pub returns-clause-named : goal.returns-clause-named
returns-clause-named c =
    ack_named c.args.words.now _ _ _ _ (omega arith) c.in_ok-code.ensures.byte c.in_ok-counter.ensures.byte
    c.spelled.ensures
