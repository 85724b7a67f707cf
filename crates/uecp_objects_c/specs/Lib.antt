-- What the contracts of the exports with memory cite: of handles, of images and a store in words, and of messages.
pub mod Faults
pub mod Told
pub mod Windows
pub mod Images
pub mod StoreWords
pub mod PhraseWords
pub mod Outcomes
pub mod Telling
