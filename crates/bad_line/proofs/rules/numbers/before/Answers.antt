use Rattle.std.proofs.Common.{◌≡◌, ◌≢◌, ◌-◌, length, take, drop, rules}
use Rattle.bad_line.proofs.Wording.{front_of, no_front}
use Rattle.bad_line.proofs.rules.numbers.before.Goals as goal

pub returns-then-eq-clause-front : goal.returns-then-eq-clause-front
returns-then-eq-clause-front c =
    let word = c.args.word.now in
    let end = c.args.end.now in
    let same : take (length word - (length word - length end)) (drop (length word - length end) word) ≡ end =
    search rules in
    front_of end word same

pub returns-else-eq-clause-other : goal.returns-else-eq-clause-other
returns-else-eq-clause-other c =
    let word = c.args.word.now in
    let end = c.args.end.now in
    let other : take (length word - (length word - length end)) (drop (length word - length end) word) ≢ end =
    search rules in
    no_front end word other
