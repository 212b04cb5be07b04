pub mod Hiding
pub mod Lined
pub mod Printable
