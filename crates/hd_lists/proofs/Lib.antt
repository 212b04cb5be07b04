pub mod Marks
pub mod Numbers
pub mod Sound
pub mod Hears
pub mod Read
pub mod Named
