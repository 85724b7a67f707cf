pub mod Options
pub mod TitleTexts
pub mod Apps
pub mod Asked
pub mod Helps
pub mod Names
pub mod Examples
pub mod Refusals
