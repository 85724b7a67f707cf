-- The definitions that the contracts of jobs cite.
pub mod Setups
pub mod Commands
pub mod Streams
pub mod FrameScript
pub mod PhraseScript
pub mod Playing
pub mod Headlines
pub mod Jobs
pub mod EncoderRun
pub mod Messages
pub mod Batches
pub mod JoiningFirst
pub mod ServerRun
pub mod Remade
pub mod RemadeInWords
