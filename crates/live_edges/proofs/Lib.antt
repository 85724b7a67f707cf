pub mod Answering
pub mod Dialling
pub mod Pieces
pub mod Saying
pub mod Waiting
