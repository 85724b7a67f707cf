pub mod Judged
pub mod Frames
pub mod Spelled
pub mod SoFar
pub mod NoiseSoFar
