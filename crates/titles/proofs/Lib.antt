-- The lemmas of titles.
mod Given
mod Leading
mod Standing
mod Cutting
mod Stringing
mod Refitting
mod Spelling
