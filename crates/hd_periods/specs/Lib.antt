pub mod Folders
pub mod Laws
pub mod Names
pub mod Periods
pub mod Steps
