use Rattle.std.proofs.Common.{◌++◌, List, ℕ, codes, lit<}
use Rattle.std.proofs.lemmas.Fmt.{decimal_digit}
use Rattle.uecp_text.specs.Digits.{decimal_word}
use Rattle.uecp_text.proofs.Public.{adds_then}
use Rattle.uecp_lines.proofs.finding_lines.put_judged.Goals as goal

pub returns-in-BadStuffing : goal.returns-in-BadStuffing
unfolding decimal_word
returns-in-BadStuffing c =
    let start = c.args.output.now in
    let name : List ℕ = codes "dropped 2 BadStuffing" in
    let place : List ℕ = decimal_word c.in-BadStuffing.place in
    let two = adds_then start c.text.new.self c.decimal.new.self name place
    c.text.ensures.added c.decimal.ensures.added in
    let three = adds_then start c.decimal.new.self c.end.new.self (name ++ place) (codes "\n") two
    c.end.ensures.added in
    rw (c.in-BadStuffing.is, decimal_digit 2 (lit< tt)) three

pub returns-in-TooLong : goal.returns-in-TooLong
unfolding decimal_word
returns-in-TooLong c = rw (c.in-TooLong.is, decimal_digit 3 (lit< tt)) c.text-in-TooLong.ensures.added

pub returns-in-TooShort : goal.returns-in-TooShort
unfolding decimal_word
returns-in-TooShort c = rw (c.in-TooShort.is, decimal_digit 4 (lit< tt)) c.text-in-TooShort.ensures.added

pub returns-in-WrongLength : goal.returns-in-WrongLength
unfolding decimal_word
returns-in-WrongLength c = rw (c.in-WrongLength.is, decimal_digit 5 (lit< tt)) c.text-in-WrongLength.ensures.added

pub returns-in-WrongCheck : goal.returns-in-WrongCheck
unfolding decimal_word
returns-in-WrongCheck c = rw (c.in-WrongCheck.is, decimal_digit 6 (lit< tt)) c.text-in-WrongCheck.ensures.added
