pub mod Words  -- the texts of words and headings
pub mod Parts  -- what is told, part by part
pub mod Columns  -- the members of each row, before names and texts
pub mod Naming  -- what a member tells, by names
pub mod Seeing  -- what may be seen of what is asked
pub mod Standing  -- how a library stands
pub mod Writing  -- what is written of a row, and of a page
pub mod Tallies  -- turns by kind and outcome
pub mod Counting  -- a journal's turns, counted look by look
pub mod Laws  -- what is proved of the tallies
