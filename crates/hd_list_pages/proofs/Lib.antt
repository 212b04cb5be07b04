pub mod Past  -- names past the last one
pub mod Joining  -- what is written one by one, with commas between
pub mod Counting
pub mod Ending
pub mod Repeating
