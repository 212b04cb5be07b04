pub mod NumberLemmas
pub mod ActLemmas
pub mod PartLemmas
pub mod ColumnLemmas
pub mod RowLemmas
pub mod ReplyLemmas
