pub mod Leaving
pub mod Beginnings
pub mod Durability
pub mod Counting
pub mod Refusing
