pub mod FileLemmas
pub mod ReadLemmas
pub mod StoredLemmas
