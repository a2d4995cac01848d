pub mod AllModifiers
pub mod KindNumbers
pub mod Telling
pub mod Checking
