pub mod BasicSet
pub mod ProgrammeTypes
pub mod Quoted
