-- The definitions that the contracts of a server cite whose lines come as they like.
pub mod Lines
pub mod Objects
pub mod Forms
pub mod Accounts
pub mod Sent
pub mod Beginning
pub mod Station
pub mod Sources
pub mod Hands
pub mod Run
