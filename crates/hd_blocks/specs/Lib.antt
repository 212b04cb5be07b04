pub mod Blocks
pub mod BlockListValue
