-- A turn's row, to be read in this order.
pub mod Parts  -- what parts ask, read back
pub mod Columns  -- what the columns say, by the catalogue's names
pub mod Faults  -- the first fault of the columns
pub mod Grown  -- catalogues that only grew
pub mod Written  -- numbers as bytes
pub mod Replies  -- what a turn came to
pub mod Rows  -- the row of a turn
