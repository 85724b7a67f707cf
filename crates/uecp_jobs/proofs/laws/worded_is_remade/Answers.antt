use Rattle.uecp_jobs.proofs.RemadeInWords.{is_remade_in_words}
use Rattle.uecp_jobs.proofs.laws.worded_is_remade.Goals as goal

pub returns : goal.returns
returns c = is_remade_in_words
