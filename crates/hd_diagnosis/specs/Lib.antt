pub mod Printable
pub mod Names
pub mod Known
pub mod Heading
pub mod Faults
pub mod Odd
pub mod Texts
pub mod Nearest
