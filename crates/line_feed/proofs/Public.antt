-- The lemmas that proofs of other crates cite; they cite no other file of this folder.
pub use Rattle.line_feed.proofs.Following.{kept_line, kept_next, kept_untaken}
