use Rattle.std.proofs.Common.{arith, rules}
use Rattle.uecp_words.proofs.ElementWords.{text_named, text_unnamed}
use Rattle.uecp_words.proofs.element_words.of_text.Goals as goal

pub returns-in_ok-text-in-len4-clause-named : goal.returns-in_ok-text-in-len4-clause-named
returns-in_ok-text-in-len4-clause-named c =
    text_named c.args.words.now _ _ _ _ _ _ (omega arith) c.in_ok-dsn-in-len4.ensures.byte
    c.in_ok-psn-in-len4.ensures.byte c.in_ok-head-in-len4.ensures.byte c.in_ok-text-in-len4.ensures.named.0
    c.in_ok-text-in-len4.ensures.named.1 c.spelled.ensures

pub returns-in_err-text-in-len4-clause-unnamed : goal.returns-in_err-text-in-len4-clause-unnamed
returns-in_err-text-in-len4-clause-unnamed c =
    let none = text_unnamed c.args.words.now _ (omega arith) c.in_err-text-in-len4.ensures.unnamed in search rules
