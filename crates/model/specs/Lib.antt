pub mod Basics
pub mod Kinds
pub mod State
pub mod Scopes
pub mod Declaring
pub mod Resolving
pub mod Calls
pub mod View
