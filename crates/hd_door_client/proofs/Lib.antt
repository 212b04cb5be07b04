pub mod Lasts
pub mod Fronts
pub mod Numbers
