use Rattle.std.proofs.Common.{arith}
use Rattle.ladders.proofs.Lengths.{with_counter_length}
use Rattle.ladders.proofs.row_words.with_counter_length.Goals as goal

pub returns : goal.returns
returns c = λ name five.
    let long = with_counter_length name c.args.number in
    let digits = c.digit_count.ensures.value in
    omega (arith, long, digits, five)
