mod Climbs
pub mod BoundNames
