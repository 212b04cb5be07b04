pub mod Texts
pub mod Lines
pub mod Files
pub mod Faults
pub mod Stored
pub mod Checks
pub mod Reading
