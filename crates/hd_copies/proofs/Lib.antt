pub mod States
pub mod Moving
pub mod Shelves
pub mod Counting
pub mod Indexed
pub mod Opening
pub mod Rooms
pub mod Answering
