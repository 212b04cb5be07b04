pub mod Inputs
pub mod Printing
pub mod Replays
pub mod Ends
pub mod Endings
pub mod Reasons
