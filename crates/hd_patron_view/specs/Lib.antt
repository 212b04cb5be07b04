pub mod Held  -- a patron's holds, from the titles that they hold
pub mod Cutting  -- a page in the making
