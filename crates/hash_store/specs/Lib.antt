pub mod Slots
pub mod Meaning
