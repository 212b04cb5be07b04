pub mod CopiesValue
pub mod Standing
pub mod IndexesValue
pub mod Indexing
pub mod Keeping
