pub mod Trailers
pub mod States
pub mod Sessions
pub mod Logs
pub mod Scripts
pub mod Endings
