pub mod Asking  -- targets
pub mod Cuts
pub mod Hearing  -- what is asked by them
pub mod Lists  -- the table
pub mod Numbers
pub mod Queries
pub mod Questions
pub mod Requests  -- the requests that ask
pub mod Words
