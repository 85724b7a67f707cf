-- The definitions that the contracts of state files cite.
pub mod Faults
pub mod Saving
pub mod Encoders
pub mod Servers
pub mod Reading
pub mod Opening
pub use Rattle.sqlite_image.specs.Keeper
pub use Rattle.sqlite_image.specs.Kept as KeptRows
pub use Rattle.end_images.specs.Images
pub use Rattle.end_images.specs.Reading as ImageReading
