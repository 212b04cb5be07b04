pub mod Kept
pub mod Following
pub mod Writing
pub mod Making
pub mod Planned
pub mod TakenBack
pub mod Telling
