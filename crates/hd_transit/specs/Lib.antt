pub mod TransitsValue
pub mod Bound
