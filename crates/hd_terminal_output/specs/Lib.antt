pub mod Pages  -- what a server is asked for a page
