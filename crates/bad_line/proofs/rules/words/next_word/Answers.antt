use Rattle.std.proofs.Common.{◌≡◌, ◌<◌, ◌∙◌, length, get_or, arith, rules}
use Rattle.bad_line.proofs.Wording.{past_space, words_at_end}
use Rattle.bad_line.proofs.rules.words.next_word.Goals as goal

pub loop-place-preserved : goal.loop-place-preserved
loop-place-preserved c =
    let within : c.loop-place.place < length c.args.text.now = omega arith in
    let space : get_or c.args.text.now c.loop-place.place 0 ≡ 32 = search rules in
    c.loop-place.invariant ∙ past_space c.args.text.now c.loop-place.place within space

pub returns-clause-none : goal.returns-clause-none
returns-clause-none c =
    words_at_end c.args.text.now c.loop-place.place (omega arith) c.loop-place.invariant
