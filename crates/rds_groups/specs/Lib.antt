-- The definitions of blocks, groups and their lines, of a receiver, of a synchroniser, and of bits as text.
pub mod Blocks
pub mod Groups
pub mod Lines
pub mod Laws
pub mod Heard
pub mod Shown
pub mod View
pub mod Damage
pub mod ReceiverLaws
pub mod Sync
pub mod Text
pub mod SynchroniserLaws
