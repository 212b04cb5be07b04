pub mod LineLemmas
pub mod SoundLemmas
pub mod FileLemmas
pub mod FoundLemmas
pub mod ShortLemmas
pub mod NamesLemmas
pub mod LongerLemmas
