-- The lemmas that proofs of other crates cite; they cite no other file of this folder.
pub use Rattle.uecp_words.proofs.Shown.{begun_as_shown, byte_spelled, named_as_shown, number_spelled}
pub use Rattle.uecp_words.proofs.ShownLines.{element_line, frame_line}
pub use Rattle.uecp_words.proofs.OneMeaning.{one_meaning}
