pub mod Pieces
pub mod Numbers
pub mod Fields
pub mod Lines
pub mod Scripts
pub mod Messages
pub mod Examples
