-- The lemmas that proofs of other crates cite; they cite no other file of this folder.
pub use Rattle.json_lines.proofs.Plain.{adds_quoted, plain_character, plain_digits, plain_stamp, visible_at}
pub use Rattle.json_lines.proofs.Objects.{adds_field, adds_line, adds_more, line_text, object_text, parts}
