-- Turns in an SQLite file, to be read in this order.
pub mod Words  -- SQLite's words
pub mod Kept  -- what is kept of a turn, and of the journal that it belongs to
pub mod Tables  -- the tables of a journal, and their rows
pub mod Texts  -- the texts of SQL
pub mod Holds  -- what a connection to a journal sees, and what a call over it leaves
pub mod Crashes  -- what the files hold, also after a crash
pub mod Marks  -- the mark in its file
pub mod Rows  -- a turn as it is handed in and given back
pub mod Faults  -- which fault an error of the database is told as
pub mod Unmarked  -- why a journal's file gets no mark, or isn't opened for turns
