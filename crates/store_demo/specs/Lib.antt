pub mod Answered
pub mod Exercise
