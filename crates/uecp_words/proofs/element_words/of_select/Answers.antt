use Rattle.std.proofs.Common.{arith}
use Rattle.uecp_words.proofs.ElementWords.{select_named}
use Rattle.uecp_words.proofs.element_words.of_select.Goals as goal

pub returns-clause-named : goal.returns-clause-named
returns-clause-named c = select_named c.args.words.now _ _ _ (omega arith) c.in_ok-byte_of.ensures.byte
    c.spelled.ensures
