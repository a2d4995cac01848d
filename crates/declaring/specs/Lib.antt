pub mod Fitting
pub mod Scan
