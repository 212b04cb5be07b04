pub mod Days  -- the text of a day
