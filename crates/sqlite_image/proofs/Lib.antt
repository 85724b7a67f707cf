pub mod FileLemmas
pub mod KeepLemmas
pub mod LogLemmas
pub mod TableLemmas
