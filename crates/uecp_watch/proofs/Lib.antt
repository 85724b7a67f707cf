pub mod Pieces
pub mod Streams
pub mod Timed
pub mod Watched
