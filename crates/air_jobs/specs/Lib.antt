-- The definitions of what an encoder answers and then has on the air.
pub mod Airing
pub mod AirJobs
pub mod View
pub use Rattle.carousel.specs.Next
pub use Rattle.uecp_text.specs.Digits
pub use Rattle.uecp_jobs.specs.Setups
