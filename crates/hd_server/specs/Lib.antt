pub mod Ends
pub mod Files
pub mod Seen
pub mod Summaries
