-- The definitions of what a line is to a receiver, of what it hears of lines or bits as they come, and of what is told
-- of what it shows; and those of groups that its clauses cite.
pub mod Bits
pub mod Receiving
pub mod View
pub use Rattle.rds_groups.specs.SynchroniserLaws
pub use Rattle.line_feed.specs.Lines
pub mod Shown
pub mod Told
pub mod DisplayView
pub mod GroupLines
pub mod Laws
pub use Rattle.rds_groups.specs.Heard
