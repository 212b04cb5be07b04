pub mod LoansValue
pub mod Counts
pub mod Lent
pub mod Links
