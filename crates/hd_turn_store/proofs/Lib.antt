pub mod Texts
pub mod Writing
pub mod Commits
pub mod Queries
pub mod Marking
pub mod Finding
