-- What a run of a page reads and answers, and what becomes of those who ask meanwhile.
pub mod Starting
pub mod Serving
pub mod Guesting
