pub mod Opened
mod KeptUses
mod Kept
