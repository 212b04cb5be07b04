pub mod Tests  -- Bool, and tests of numbers
pub mod Options  -- values that may be there
pub mod Results  -- values and errors
pub mod Lists  -- what is among the elements of a list, and equal lists
pub mod Maps  -- std's finite maps from numbers
pub mod Counts  -- the numbers below another that pass a test, counted
pub mod Rules  -- the words of the rules: cells, desks, survivors, runs
pub mod Fields  -- the fields of a message's text, step by step
