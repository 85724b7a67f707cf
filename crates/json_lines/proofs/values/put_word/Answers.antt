use Rattle.json_lines.proofs.Plain.{adds_quoted}
use Rattle.json_lines.proofs.values.put_word.Goals as goal

pub returns : goal.returns
returns c = adds_quoted c.args.output.now c.text.new.self c.text-2.new.self c.text-3.new.self c.args.word.now c.requires
    c.text.ensures.added c.text-2.ensures.added c.text-3.ensures.added
