pub mod Feeding
pub mod Attended
pub mod Working
