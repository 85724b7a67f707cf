-- The definitions of what holds of the whole, and those of lower crates that its laws cite: of what a receiver shows,
-- of both ends with their files and the bytes between them, of a whole run, and of a station that was sent to an
-- encoder.
pub mod OnAir
pub mod AirLaws
pub mod Said
pub use Rattle.carousel.specs.Service
pub use Rattle.carousel.specs.Next
pub use Rattle.rds_groups.specs.Shown
pub use Rattle.rds_groups.specs.Damage
pub mod Station
pub mod Acts
pub mod CrashLaws
pub mod Epochs
pub mod DeviceLives
pub mod Ends
pub mod EachLine
pub mod Doings
pub mod Histories
pub mod Display
pub mod DeviceRuns
pub mod Taken
pub mod Left
pub mod LiveTold
pub mod LiveLaws
pub mod SendLaws
pub mod StationTold
pub mod Made
pub mod Alike
pub mod Heard
pub mod Sent
pub mod StationLaws
