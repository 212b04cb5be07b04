pub mod Escapes
pub mod Events
pub mod Fields
pub mod Lines
pub mod Masks
