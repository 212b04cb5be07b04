pub mod PlacesValue
pub mod Shelf
pub mod Taken
