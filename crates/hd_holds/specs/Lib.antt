pub mod HoldsValue
pub mod Held
pub mod HeldListsValue
pub mod HeldTitles
pub mod Places
