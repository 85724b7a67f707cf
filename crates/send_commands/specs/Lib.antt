-- The definitions that the contracts of the job `send` cite.
pub mod Passing
pub mod LiveIn
pub mod Job
pub mod StationFile
pub mod Ended
pub mod OverTcp
