use Rattle.std.proofs.Common.{◌∙◌}
use Rattle.clap.specs.Words.{found_of}
use Rattle.clap.proofs.WalkLemmas.{first_value-rows}
use Rattle.command_line.proofs.TitleTexts.{has_text}
use Rattle.command_line.proofs.title_options.has_word.Goals as goal

pub returns : goal.returns
returns c =
    c.is_some.ensures
    ∙ has_text c.get_str.result _ (c.get_str.ensures ∙ first_value-rows (found_of c.args.found.now) c.args.name.now)
