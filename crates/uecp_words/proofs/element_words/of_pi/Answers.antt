use Rattle.std.proofs.Common.{arith}
use Rattle.uecp_words.proofs.ElementWords.{pi_named}
use Rattle.uecp_words.proofs.element_words.of_pi.Goals as goal

pub returns-clause-named : goal.returns-clause-named
returns-clause-named c =
    pi_named c.args.words.now _ _ _ _ _ (omega arith) c.in_ok-dsn.ensures.byte c.in_ok-psn.ensures.byte
    c.in_ok-pi.ensures.number c.spelled.ensures
