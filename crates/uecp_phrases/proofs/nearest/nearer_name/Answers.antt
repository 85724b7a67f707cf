use Rattle.std.proofs.Common.{◌++◌, append-nil, sym, subst, ap}
use Rattle.std.proofs.lemmas.Result.{IfOk-weaker}
use Rattle.uecp_phrases.specs.Nearest.{IsFound, the_name}
use Rattle.uecp_phrases.proofs.nearest.nearer_name.Goals as goal

pub returns-in-Some : goal.returns-in-Some
returns-in-Some c =
    IfOk-weaker c.nearer.result _ _ (λ best found words was.
    subst (λ ns. IsFound c.args.letters.now (words ++ ns) best) (ap the_name (sym c.in-Some.ensures.some))
    (found words was)) c.nearer.ensures

pub returns-in-None : goal.returns-in-None
returns-in-None c = λ words was.
    subst (λ ns. IsFound c.args.letters.now (words ++ ns) c.args.found) (ap the_name (sym c.in-None.ensures.none))
    (subst (λ ws. IsFound c.args.letters.now ws c.args.found) (sym (append-nil words)) was)
