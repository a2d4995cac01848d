pub mod Ancestry
pub mod Seeking
pub mod NamesIn
