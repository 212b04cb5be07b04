pub mod DayLemmas
pub mod NumberLemmas
pub mod ReadLemmas
pub mod TextLemmas
pub mod RowLemmas
pub mod FileLemmas
pub mod WriteLemmas
pub mod LimitLemmas
