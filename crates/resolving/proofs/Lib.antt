mod Seeks
pub mod Resolvings
