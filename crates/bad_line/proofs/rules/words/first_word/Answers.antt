use Rattle.bad_line.proofs.Wording.{first_word_is, only_word_is}
use Rattle.bad_line.proofs.rules.words.first_word.Goals as goal

pub returns-in-Some : goal.returns-in-Some
returns-in-Some c =
    first_word_is c.args.text.now c.in-Some.place c.requires c.in-Some.ensures.0 c.in-Some.ensures.1

pub returns-in-None : goal.returns-in-None
returns-in-None c = only_word_is c.args.text.now c.requires c.in-None.ensures
