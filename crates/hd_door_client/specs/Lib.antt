pub mod Answers  -- answers, and the bytes that they come in
pub mod Requests  -- questions, and the requests that ask them
pub mod Rows  -- the rows of a page
pub mod Lines  -- lines of texts
pub mod Connecting  -- connecting to a server
