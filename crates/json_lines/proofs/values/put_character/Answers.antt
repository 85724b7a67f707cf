use Rattle.std.specs.Char.{encode_utf8}
use Rattle.json.specs.Print.{escape_byte}
use Rattle.json_lines.proofs.Plain.{plain_character}
use Rattle.json_lines.proofs.values.put_character.Goals as goal

pub returns-then-character-eq34 : goal.returns-then-character-eq34
unfolding encode_utf8 escape_byte
returns-then-character-eq34 c = rw c.if-character-eq34.true c.text.ensures.added

pub returns-then-character-eq92 : goal.returns-then-character-eq92
unfolding encode_utf8 escape_byte
returns-then-character-eq92 c = rw c.if-character-eq92.true c.text-then-character-eq92.ensures.added

pub returns-else-character-eq92 : goal.returns-else-character-eq92
returns-else-character-eq92 c =
    rw (plain_character c.args.character c.requires c.if-character-eq34.false c.if-character-eq92.false)
    (rw c.encode_utf8.ensures.value at c.text-else-character-eq92.ensures.added)
