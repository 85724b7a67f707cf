pub mod Reading
pub mod Rest
