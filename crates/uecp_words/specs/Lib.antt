-- The definitions that the contracts of the words of scripts cite.
pub mod ScriptWords
pub mod EventWords
pub mod ReplaceWords
pub mod Laws
