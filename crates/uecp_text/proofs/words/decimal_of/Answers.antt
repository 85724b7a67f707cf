use Rattle.std.proofs.Common.{◌≡◌, ◌+◌, Some, sym, ap, ◌∙◌, arith, rules}
use Rattle.std.proofs.lemmas.List.{take_all}
use Rattle.std.specs.List.{list_all}
use Rattle.std.specs.Char.{is_ascii_digit}
use Rattle.uecp_text.specs.Words.{decimal_value}
use Rattle.uecp_text.proofs.Decimals.{value_none, value_more, digits_more, in_of_empty, in_of_other, in_of_larger}
use Rattle.uecp_text.proofs.Decimals.{in_of_digits}
use Rattle.uecp_text.proofs.words.decimal_of.Goals as goal

pub returns-then-is_empty-clause-exact : goal.returns-then-is_empty-clause-exact
returns-then-is_empty-clause-exact c = in_of_empty c.args.most c.args.word.now (cc)

pub loop-digit-init : goal.loop-digit-init
loop-digit-init c = record { value = sym value_none; digits = search rules; range = omega arith }

pub returns-then-not-is_ascii_digit-clause-exact : goal.returns-then-not-is_ascii_digit-clause-exact
returns-then-not-is_ascii_digit-clause-exact c =
    in_of_other c.args.most c.args.word.now c.loop-digit.digit-index c.loop-digit-test.true (cc)

pub returns-then-number-from-clause-exact : goal.returns-then-number-from-clause-exact
returns-then-number-from-clause-exact c =
    let more = value_more c.args.word.now c.loop-digit.digit-index c.loop-digit-test.true in
    in_of_larger c.args.most c.args.word.now (c.loop-digit.digit-index + 1) (omega arith)

pub loop-digit-preserved : goal.loop-digit-preserved
loop-digit-preserved c =
    let more = value_more c.args.word.now c.loop-digit.digit-index c.loop-digit-test.true in
    record {
      value = omega arith;
      digits = digits_more c.args.word.now c.loop-digit.digit-index c.loop-digit-test.true c.loop-digit.invariant.digits
          (cc);
      range = omega arith;
    }

pub returns-clause-exact : goal.returns-clause-exact
returns-clause-exact c =
    let whole = take_all c.loop-digit.digit-index c.args.word.now (omega arith) in
    let value : c.loop-digit.number ≡ decimal_value c.args.word.now =
    c.loop-digit.invariant.value ∙ ap decimal_value whole in
    let given : c.ok.result ≡ Some c.loop-digit.number = search rules in
    given ∙ ap Some value ∙ in_of_digits c.args.most c.args.word.now (cc)
    (ap (list_all is_ascii_digit) (sym whole) ∙ c.loop-digit.invariant.digits) (omega arith)
