pub mod Days
pub mod Pieces
pub mod Lines
pub mod Values
pub mod Limits
pub mod Causes
pub mod Files
