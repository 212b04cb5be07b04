pub mod Keeping
pub mod Kinds
pub mod Needed
pub mod Notes
