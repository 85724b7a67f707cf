-- The lemmas that proofs of other crates cite; they cite no other file of this folder.
pub use Rattle.uecp_phrases.proofs.Said.{said_as_written}
pub use Rattle.uecp_phrases.proofs.SaidTokens.{byte_is, is_one, writable}
pub use Rattle.uecp_phrases.proofs.Cutting.{adds_one}
pub use Rattle.uecp_phrases.proofs.SaidMessages.{bytes_left, message_said}
pub use Rattle.uecp_phrases.proofs.LineTokens.{line_writable}
pub use Rattle.uecp_phrases.proofs.Turning.{texts_turn}
