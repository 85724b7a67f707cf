use Rattle.std.proofs.Common.{arith, ◌∙◌}
use Rattle.json_lines.proofs.Plain.{visible_at}
use Rattle.json_lines.proofs.values.put_byte.Goals as goal

pub put_character-requires : goal.put_character-requires
put_character-requires c =
    visible_at c.args.byte c.as_slice-character-items.result.now c.loop-character.character-index
    c.character-item.result (omega (arith, c.ranges.byte))
    (c.as_slice-character-items.ensures.value ∙ c.written.ensures) c.loop-character-test.true c.character-item.is
