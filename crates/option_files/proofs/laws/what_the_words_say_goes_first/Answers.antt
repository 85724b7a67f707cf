use Rattle.option_files.proofs.OwnOptions.{text_silent}
use Rattle.option_files.proofs.laws.what_the_words_say_goes_first.Goals as goal

pub returns : goal.returns
returns c = text_silent
