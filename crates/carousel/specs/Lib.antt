-- The definitions of the carousel, and those of groups and of the store that its clauses cite.
pub mod Service
pub mod Carousel
pub mod Texts
pub mod Next
pub mod View
pub mod Laws
pub use Rattle.rds_groups.specs.Groups
pub use Rattle.rds_store.specs.Value
pub use Rattle.rds_store.specs.Content
pub use Rattle.rds_store.specs.Step
