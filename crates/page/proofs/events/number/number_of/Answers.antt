-- The digits of a number are a text, which is parsed as the number, and are what is written of it.
use Rattle.std.proofs.Common.{◌≡◌, Ok, sym, ◌∙◌, ap}
use Rattle.std.specs.Prelude.{decimal}
use Rattle.std.proofs.lemmas.Fmt.{parse-decimal}
use Rattle.page.proofs.Digits.{utf8_decimal, like_itself}
use Rattle.page.proofs.events.number.number_of.Goals as goal

pub returns-in_default-clause-none : goal.returns-in_default-clause-none
returns-in_default-clause-none c = λ n small is. c.in_default.ensures.cases.0 (utf8_decimal n c.args.text.now small is)

pub returns-in_default-parse-clause-none : goal.returns-in_default-parse-clause-none
returns-in_default-parse-clause-none c = λ n small is.
    c.in_default-parse.not-Ok n (parse-decimal 64 n c.in-Ok.digits.now c.parse.result small small
    (c.in-Ok.ensures.cases.0 ∙ is) c.parse.ensures.value.0)

pub returns-else-eq-clause-none : goal.returns-else-eq-clause-none
returns-else-eq-clause-none c = λ n small is.
    let parsed : c.parse.result ≡ Ok n = parse-decimal 64 n c.in-Ok.digits.now c.parse.result small small
    (c.in-Ok.ensures.cases.0 ∙ is) c.parse.ensures.value.0 in
    let number : c.in-Ok-parse.number ≡ n = cc (parsed, c.in-Ok-parse.is) in
    let alike : c.as_bytes.result.now ≡ c.args.text.now =
    c.as_bytes.ensures.value ∙ c.format.ensures.text ∙ ap decimal number ∙ sym is in
    let yes = like_itself c.as_bytes.result.now c.args.text.now alike in
    let no = c.eq.ensures in
    cc (yes, no, c.if-eq.false)
