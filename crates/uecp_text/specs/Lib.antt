-- The definitions that the contracts of text in and text out cite.
pub mod Input
pub mod Words
pub mod Digits
pub mod Written
pub mod Faults
pub mod Run
