-- The definitions that the contracts of lines of output cite.
pub mod Lines
pub mod ReplyLines
pub mod Steps
pub mod StoreLines
