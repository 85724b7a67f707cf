use Rattle.std.proofs.Common.{arith}
use Rattle.uecp_words.proofs.ElementWords.{ps_named}
use Rattle.uecp_words.proofs.element_words.of_ps.Goals as goal

pub returns-clause-named : goal.returns-clause-named
returns-clause-named c =
    ps_named c.args.words.now _ _ _ _ _ (omega arith) c.in_ok-dsn.ensures.byte c.in_ok-psn.ensures.byte
    c.in_ok-name.ensures.bytes c.spelled.ensures
