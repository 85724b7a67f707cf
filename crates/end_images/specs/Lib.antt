-- The definitions that the contracts of kept images cite.
pub mod Images
pub mod Reading
pub mod Parsing
pub mod Laws
pub use Rattle.uecp_frame.specs.Address
pub use Rattle.rds_store.specs.Value
pub use Rattle.reply_ring.specs.Ring
pub use Rattle.store_phrases.specs.Laws as StoreLaws
pub use Rattle.store_phrases.specs.Station
pub use Rattle.uecp_encoder.specs.State
pub use Rattle.uecp_link.specs.Server
pub use Rattle.uecp_link.specs.Resuming
pub use Rattle.uecp_text.specs.Written
