use Rattle.command_line.proofs.forms.wording_of.Goals as goal

pub returns : goal.returns
returns c = record {
  words = c.flag_of.result;
  rbds = c.flag_of-2.result;
  is_words = c.flag_of.ensures;
  is_rbds = c.flag_of-2.ensures;
  is = c.worded.ensures;
}
