pub mod Counting
pub mod Keys
pub mod Pairs
pub mod Hashes
