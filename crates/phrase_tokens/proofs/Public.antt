-- The lemmas that proofs of other crates cite; they cite no other file of this folder.
pub use Rattle.phrase_tokens.proofs.Characters.{OfWord, both, of_word}
pub use Rattle.phrase_tokens.proofs.OneReading.{one_reading}
pub use Rattle.phrase_tokens.proofs.ReadBack.{read_back}
pub use Rattle.phrase_tokens.proofs.Unicode.{through_utf8}
pub use Rattle.phrase_tokens.proofs.Written.{behind_split}
