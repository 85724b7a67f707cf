use Rattle.std.proofs.Common.{◌≡◌, ℕ, List, ◌++◌, append-nil, sym, subst, arith}
use Rattle.uecp_phrases.specs.Nearest.{IsFound, names_below}
use Rattle.uecp_phrases.proofs.Nearing.{one_name_more}
use Rattle.uecp_phrases.proofs.nearest.nearest_name.Goals as goal

pub loop-number-init : goal.loop-number-init
loop-number-init c = λ words was. subst (λ ws. IsFound c.args.letters.now ws c.args.before) (sym (append-nil words)) was

pub loop-number-preserved : goal.loop-number-preserved
loop-number-preserved c = λ words was.
    subst (λ ws. IsFound c.args.letters.now ws c.in_ok-found.found)
    (one_name_more c.args.region c.loop-number.number words)
    (c.in_ok-found.ensures (words ++ names_below c.args.region c.loop-number.number)
    (c.loop-number.invariant words was))

pub returns : goal.returns
returns c =
    let all : c.loop-number.number ≡ c.args.count = omega arith in
    subst (λ n. (words : List (List ℕ)) → IsFound c.args.letters.now words c.args.before
    → IsFound c.args.letters.now (words ++ names_below c.args.region n) c.loop-number.found) all
    c.loop-number.invariant
