pub mod Counts
pub mod Kept
pub mod Listed
pub mod Listing
pub mod Lists
pub mod Placed
pub mod Queues
pub mod Rising
