use Rattle.uecp_phrases.proofs.Alone.{none_is}
use Rattle.uecp_phrases.proofs.CalledGroups.{no_letter}
use Rattle.uecp_phrases.proofs.groups.type_of.Goals as goal

pub returns-in_err-version-clause-none : goal.returns-in_err-version-clause-none
returns-in_err-version-clause-none c =
    none_is c.from_residual-in_err-version.result _ c.from_residual-in_err-version.ensures
    (no_letter c.args.word.now c.in_ok-letter.digits.now c.in_ok-letter.letter.now c.in_ok-letter.ensures.cases.0
    c.in_err-version.ensures.none)
