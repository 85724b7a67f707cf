-- The definitions of a line as a ladder.
pub mod Rows
pub mod Words
pub mod Text
pub mod Picture
pub mod Drawing
pub mod Playing
pub mod Jobs
pub mod View
pub use Rattle.uecp_text.specs.Digits
pub use Rattle.uecp_jobs.specs.Setups
