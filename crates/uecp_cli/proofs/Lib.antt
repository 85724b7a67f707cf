pub mod Ending
pub mod Options
pub mod Causes
pub mod Watched
