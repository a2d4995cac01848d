pub mod CountedPairs
pub mod Rooms
