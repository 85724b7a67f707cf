use Rattle.conformance_command.proofs.Parts.{tap_plain}
use Rattle.conformance_command.proofs.texts.put_tap_byte.Goals as goal

pub returns-then-byte-eq35 : goal.returns-then-byte-eq35
returns-then-byte-eq35 c = rw c.if-byte-eq35.true c.text.ensures.added

pub returns-then-byte-eq92 : goal.returns-then-byte-eq92
returns-then-byte-eq92 c = rw c.if-byte-eq92.true c.text-then-byte-eq92.ensures.added

pub returns-else-byte-eq92 : goal.returns-else-byte-eq92
returns-else-byte-eq92 c =
    rw (tap_plain c.args.byte c.if-byte-eq35.false c.if-byte-eq92.false) c.put_character.ensures
