pub mod Leading
pub mod Begun
pub mod Added
pub mod Lines
pub mod Runs
pub mod Wholes
pub mod Decimals
pub mod Pieces
pub mod Parts
pub mod TwoDigits
mod UpperCase
pub mod DigitValues
pub mod Spaced
pub mod Public
