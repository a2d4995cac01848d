mod Kept
mod Scans
