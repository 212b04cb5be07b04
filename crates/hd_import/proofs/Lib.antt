pub mod RowLemmas
pub mod QuoteLemmas
pub mod UnusedLemmas
pub mod WriteLemmas
pub mod FaultLemmas
pub mod FirstLemmas
pub mod TraceLemmas
