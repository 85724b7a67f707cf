pub mod ElementWords
pub mod ScriptLines
pub mod EventNames
pub mod Shown
pub mod ShownLines
pub mod OneMeaning
pub mod Public
