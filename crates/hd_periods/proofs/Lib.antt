pub mod Carrying
pub mod Joining
pub mod LastLemmas
pub mod Libraries
pub mod Puts
pub mod Stops
