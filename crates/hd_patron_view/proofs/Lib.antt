pub mod Viewing
pub mod Paging
pub mod Holding
