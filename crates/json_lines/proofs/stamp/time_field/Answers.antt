use Rattle.json_lines.proofs.Plain.{plain_stamp}
use Rattle.json_lines.proofs.stamp.time_field.Goals as goal

pub word_field-requires-clause-word : goal.word_field-requires-clause-word
word_field-requires-clause-word c = plain_stamp c.args.stamp.now c.requires
