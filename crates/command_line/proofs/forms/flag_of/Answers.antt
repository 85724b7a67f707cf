use Rattle.std.proofs.Common.{◌∙◌}
use Rattle.clap.specs.Words.{found_of}
use Rattle.clap.proofs.WalkLemmas.{one_text-rows}
use Rattle.command_line.proofs.forms.flag_of.Goals as goal

pub returns : goal.returns
returns c =
    let flag = one_text-rows (found_of c.args.found.now) c.args.name.now in record {
      given = λ e. c.get_flag.ensures.value (flag ∙ e);
      denied = λ e. c.get_flag.ensures.other (flag ∙ e);
      absent = λ e. c.get_flag.ensures.none (flag ∙ e);
    }
