pub mod Columns
pub mod Rows
pub mod Values
pub mod Quotes
pub mod Unused
pub mod Texts
pub mod Faults
