pub mod Kept
pub mod State
pub mod Reading
