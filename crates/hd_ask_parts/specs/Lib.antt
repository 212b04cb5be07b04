pub mod Acts  -- what is done, and what a hold admits, with their words
pub mod Parts  -- what is asked, part by part
