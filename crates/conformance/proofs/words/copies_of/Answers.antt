use Rattle.std.proofs.Common.{IfSome, subst}
use Rattle.conformance.specs.Lines.{IsCopies}
use Rattle.conformance.proofs.Spelled.{cut_at}
use Rattle.conformance.proofs.words.copies_of.Goals as goal

pub returns-in-Some : goal.returns-in-Some
returns-in-Some c =
    subst (λ w. IfSome c.many_of.result (λ copies. IsCopies w copies.0 copies.1))
    (cut_at 0x78 c.args.word.now c.in-Some.place c.in-Some.ensures.0.high c.in-Some.ensures.1) c.many_of.ensures
