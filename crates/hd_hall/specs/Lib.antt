pub mod Houses
pub mod Faults
pub mod Receipts
pub mod Submitting
pub mod Looking
pub mod Seats
pub mod Closings
pub mod NotClosing
