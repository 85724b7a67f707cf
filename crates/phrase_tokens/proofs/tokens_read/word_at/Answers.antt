use Rattle.std.proofs.Common.{rules}
use Rattle.phrase_tokens.proofs.Words.{word_full, word_empty}
use Rattle.phrase_tokens.proofs.tokens_read.word_at.Goals as goal

pub returns-then-is_full-clause-none : goal.returns-then-is_full-clause-none
returns-then-is_full-clause-none c =
    word_full c.args.text.now c.loop-character.word.items c.loop-character.rest.now c.in-Some.more.now
    c.in-Some.character
    c.loop-character.invariant.whole (search rules) c.loop-character.invariant.all (search rules) (search rules)

pub returns-then-is_empty-clause-none : goal.returns-then-is_empty-clause-none
returns-then-is_empty-clause-none c =
    word_empty c.args.text.now c.loop-character.word.items c.loop-character.rest.now c.loop-character.invariant.whole
    (search rules) (search rules)
