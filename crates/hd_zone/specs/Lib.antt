pub mod Moved
pub mod Zones
